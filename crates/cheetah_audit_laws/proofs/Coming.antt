-- What is written is accepted.
use Rattle.std.proofs.Common.{◌≡◌, ◌∙◌, ap, sym, refl, subst, inl, inr, ℕ, ◌≤◌, List, length, Option, Some, None, Ok}
use Rattle.ch_command.specs.Command.{answered}
use Rattle.ch_command.specs.Reading.{read_all}
use Rattle.ch_command.specs.declared.outcome.Ending.TheVariants.{Done, Input, Rejected}
use Rattle.ch_command.specs.declared.outcome.Outcome.{Outcome}
use Rattle.ch_outside.specs.Shelf.{Files}
use Rattle.ch_trace_lines.specs.Trace.{trace_of}
use Rattle.cheetah_audit.specs.Result.{runs}
use Rattle.cheetah_audit_meaning.proofs.Meanings.{written}
use Rattle.cheetah_audit_meaning.specs.Meaning.{Checks, OfErrand, OfTrace, WithinLimits, Writes, other_contents, trace_text, without_schedule}
use Rattle.cheetah_audit_words.specs.declared.words.Task.TheVariants.{Check, Write}
use Rattle.cheetah_inputs.specs.Inputs.{AfterGiven, AreInputs, OfContents, drain_alone, given_of, names_of, profile_or_line}
use Rattle.cheetah_inputs.specs.Parts.{named_texts, tables_in}
use Rattle.cheetah_inputs.specs.Tables.{room, tables_within}
use Rattle.cheetah_inputs.specs.declared.inputs.Inputs.{Inputs}
use Rattle.cheetah_inputs_laws.proofs.Once.{apart, given_once, refused_ending}
use Rattle.cheetah_inputs_laws.proofs.Read.{contents_given}
use Rattle.cheetah_inputs_laws.specs.Read.{IsRead}
use Rattle.cheetah_run.specs.Running.{config_of}
use Rattle.cheetah_words.specs.Tables.{parts_in}
use Rattle.cheetah_words.specs.Words.{Request}
use Rattle.cheetah_audit_laws.proofs.Kept.{same_parts, same_profile, trace_is}
use Rattle.cheetah_audit_laws.proofs.Ready.{in_range, ready}
use Rattle.cheetah_audit_laws.specs.Checked.{Asked, IsKept, request_with}

-- nothing refuses the plan of what is done
pub within_done : (refusal : Option (List ℕ)) (done : Outcome → Type 0) (outcome : Outcome) → outcome.ending ≡ Done → WithinLimits refusal done outcome → (refusal ≡ None) × done outcome
within_done None done outcome is comes = (refl, comes)
within_done (Some line) done outcome is comes = let wrong : Rejected ≡ Done = sym (ap (λ (o : Outcome). o.ending) comes) ∙ is in absurd cc

-- what is read of what is done
pub read_done : (request : Request) (contents : List (List ℕ)) (next : AfterGiven) (outcome : Outcome) → outcome.ending ≡ Done → OfContents request next contents outcome → IsRead request contents next outcome
read_done request contents next outcome done of = elim (contents_given request contents next outcome of) [
  | inl bad ↦
      let wrong : Input ≡ Done = sym (refused_ending request contents outcome bad) ∙ done in absurd cc
  | inr read ↦ read
]

-- what is checked
checks : (request : Request) (contents : List (List ℕ)) (outcome : Outcome) (inputs : Inputs) → AreInputs (without_schedule request) (other_contents request contents) inputs → OfErrand runs Check request contents outcome
    → WithinLimits (runs.refusal (given_of inputs)) (OfTrace (config_of (given_of inputs)) (trace_text request contents)) outcome
checks request contents outcome inputs are comes =
    let text = trace_text request contents in
    elim (contents_given (without_schedule request) (other_contents request contents) (Checks runs text) outcome comes) [
      | inl bad ↦ absurd (apart (without_schedule request) (other_contents request contents) inputs outcome are bad)
      | inr read ↦ subst (λ given. Checks runs text given outcome) (given_once (without_schedule request) (other_contents request contents) read.inputs inputs read.are are) read.rest
    ]

-- the inputs of the words that check: those of the words that wrote, but for the schedule
abbrev unscheduled : Inputs → Inputs
unscheduled inputs = record inputs { schedule = drain_alone }

module _ (asked : Asked) (schedule trace text : List ℕ) (before after : Files) (kept : IsKept asked trace text before after)
    (contents checked : List (List ℕ)) (read : read_all before (names_of (request_with asked schedule)) ≡ Ok contents) (again : read_all after (names_of (request_with asked trace)) ≡ Ok checked) where
  abbrev request : Request
  request = request_with asked schedule

  abbrev checking : Request
  checking = request_with asked trace

  are_unscheduled : (inputs : Inputs) → AreInputs request contents inputs → AreInputs (without_schedule checking) (other_contents checking checked) (unscheduled inputs)
  are_unscheduled inputs are = record {
    profile = ap profile_or_line (same_profile asked schedule trace text before after kept contents checked read again) ∙ are.profile;
    schedule = refl;
    tables = ap (λ (texts : List (List ℕ)). tables_within room (tables_in (named_texts request.tables texts))) (same_parts asked schedule trace text before after kept contents checked read again) ∙ are.tables;
    question = are.question;
  }

  -- what is checked is accepted where it is what was written
  pub accepted : (wrote told : Outcome) → wrote.out ≡ text → length (parts_in asked.tables) ≤ 64 → OfErrand runs Write request contents wrote → wrote.ending ≡ Done → OfErrand runs Check checking checked told
      → told.ending ≡ Done
  accepted wrote told same few comes done tells =
      let r = read_done request contents (Writes runs) wrote done comes in
      let given = given_of r.inputs in
      let c = config_of given in
      let w = within_done (runs.refusal given) (λ o. o ≡ answered (trace_of c given.schedule)) wrote done r.rest in
      let text_is : trace_text checking checked ≡ trace_of c r.inputs.schedule =
      trace_is asked schedule trace text before after kept contents checked read again ∙ (sym same ∙ ap (λ (o : Outcome). o.out) w.1) in
      let told_so : WithinLimits (runs.refusal given) (OfTrace c (trace_text checking checked)) told = checks checking checked told (unscheduled r.inputs) (are_unscheduled r.inputs r.are) tells in
      let of : OfTrace c (trace_text checking checked) told = subst (λ o. WithinLimits o (OfTrace c (trace_text checking checked)) told) w.0 told_so in
      ap (λ (o : Outcome). o.ending)
      (written c r.inputs.schedule told (in_range request contents (ready request contents r.inputs few r.are w.0)) (subst (λ text. OfTrace c text told) text_is of))
