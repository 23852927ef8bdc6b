-- What is listed of an accepted trace.
use Rattle.std.proofs.Common.{◌≡◌, ◌∙◌, ap, sym, refl, subst, inl, inr, ℕ, ◌<◌, ◌≤◌, ◌==◌, Bool, true, List, [], map, length, reverse, arith}
use Rattle.std.specs.Prelude.{if◌then◌else◌, nat_lt, slice_index_or}
use Rattle.std.proofs.lemmas.Bool.{and_parts, cases_Bool, eqb-true}
use Rattle.std.proofs.lemmas.Bool.Decides.{nat_tests}
use Rattle.ch_audit_laws.specs.Own.{steps_in}
use Rattle.ch_audit_laws.specs.Said.{accepted_text, names_of_pass, state_after}
use Rattle.ch_cells.specs.declared.Cell.{Cell}
use Rattle.ch_command.specs.Command.{answered}
use Rattle.ch_command.specs.declared.outcome.Ending.TheVariants as ending
use Rattle.ch_command.specs.declared.outcome.Outcome.{Outcome}
use Rattle.ch_lists.proofs.Members.{In-filter}
use Rattle.ch_lists.specs.Members.{Each}
use Rattle.ch_parts.specs.Scanned.{asked_tables}
use Rattle.ch_plan.specs.Kinds.{kind_times}
use Rattle.ch_pred.specs.Meaning.{answer}
use Rattle.ch_protocol.specs.Machine.{Config, State, IsReached, confirmed, no_row, passes, row_at, rows_in, size, stopped}
use Rattle.ch_protocol.specs.Packets.{Name, Part}
use Rattle.ch_protocol.specs.Received.{is_row_of, names_arrived, rows_arrived}
use Rattle.ch_protocol.specs.Sets.{numbers_from}
use Rattle.ch_run.proofs.Asking.{answers}
use Rattle.ch_schedule.specs.Event.{events_of}
use Rattle.ch_schedule.specs.declared.step.Step.{Step}
use Rattle.ch_survival.specs.Asked.{answer_arrived, asked_gate}
use Rattle.ch_trace_lines.specs.Trace.{ending_at}
use Rattle.ch_trace_lines.specs.declared.line.Ending.TheVariants.{Done, Open}
use Rattle.ch_verdicts.specs.Handed.{IsPass}
use Rattle.ch_words.specs.Packets.{sent_row}
use Rattle.cheetah_audit.specs.Result.{runs}
use Rattle.cheetah_audit_meaning.specs.Meaning.{Checks, OfErrand, OfTrace, other_contents, trace_text, without_schedule}
use Rattle.cheetah_audit_words.specs.declared.words.Task.TheVariants.{Check}
use Rattle.cheetah_inputs.specs.Inputs.{AreInputs, Given, given_of}
use Rattle.cheetah_inputs.specs.declared.inputs.Inputs.{Inputs}
use Rattle.cheetah_run.proofs.Asked.{one_or_two}
use Rattle.cheetah_run.proofs.Configured.{configured, same_parts}
use Rattle.cheetah_run.specs.Asking.{answer_over}
use Rattle.cheetah_run.specs.Running.{config_of}
use Rattle.cheetah_words.specs.Words.{Request}
use Rattle.cheetah_audit_laws.proofs.Coming.{read_done, within_done}
use Rattle.cheetah_audit_laws.proofs.Named.{answer_is, part_from, parts_from, row_from, size_from}
use Rattle.cheetah_audit_laws.proofs.Ready.{IsReady, ready, tables, texts}
use Rattle.cheetah_audit_laws.specs.Listed.{IsThere, Lists, Scan, answer_named, row_named, rows_named, scan_named, scans}

-- what is accepted is done, and is the trace of the text's own events
accepted_steps : (c : Config) (text : List ℕ) (told : Outcome) → told.ending ≡ ending.Done → OfTrace c text told → (steps : List Step) × (told ≡ answered (accepted_text c steps))
accepted_steps c text told done (inl own) = (steps_in own.value, own.rest)
accepted_steps c text told done (inr bad) = let wrong : ending.Rejected ≡ ending.Done = sym (ap (λ (o : Outcome). o.ending) bad.said) ∙ done in absurd cc

module _ (request : Request) (contents : List (List ℕ)) (is_ready : IsReady request contents) where
  abbrev given : Given
  given = given_of is_ready.inputs

  abbrev c : Config
  c = config_of given

  abbrev all : List Scan
  all = scans given.query.tables given.tables

  abbrev T : List (List ℕ)
  T = texts request contents is_ready

  -- the parts are those that are scanned
  parts_are : c.parts ≡ map (part_from T is_ready.inputs.bound) all
  parts_are = same_parts T is_ready.inputs.bound is_ready.inputs.tables ∙ parts_from T is_ready.inputs.bound is_ready.inputs.tables

  row_is : (x : Name) → IsThere all x → row_at c x ≡ sent_row T (asked_gate T is_ready.inputs.bound) is_ready.inputs.bound (scan_named all x).side (row_named all x)
  row_is x there =
      ap (λ (ps : List Part). slice_index_or (slice_index_or (map rows_in ps) x.worker []) x.number no_row) parts_are ∙ row_from T is_ready.inputs.bound all x.worker x.number there

  -- what the master received in a pass are rows, but for the Fins
  all_there : (pass : ℕ) (received : List Name) → Each (IsThere all) (names_arrived c pass received)
  all_there pass received x i =
      let row = and_parts (x.pass == pass) (nat_lt x.number (size c x.worker)) (In-filter (is_row_of c pass) x (reverse received) i).1 in
      let less : x.number < size c x.worker = (let test = row.1 in grind (arith, nat_tests)) in
      let size_is : size c x.worker ≡ length (scan_named all x).rows = ap (λ (ps : List Part). length (slice_index_or (map rows_in ps) x.worker [])) parts_are ∙ size_from T is_ready.inputs.bound all x.worker in
      omega (arith, less, size_is)

  -- once the run has stopped, the rows that arrived answer
  arrived_whole : (s : State) → IsReached c s → stopped c s ≡ true → answer is_ready.inputs.bound (asked_tables is_ready.inputs.bound is_ready.inputs.tables) ≡ answer_arrived T is_ready.inputs.bound (rows_arrived c s.pass s.received)
  arrived_whole s reached stop =
      let inputs = is_ready.inputs in
      let times : IsPass (kind_times is_ready.kind) = subst IsPass (sym is_ready.plan.times) (one_or_two inputs.bound.shape) in
      let pass : s.pass ≡ passes c = eqb-true s.pass (passes c) (and_parts (s.pass == passes c) (confirmed c s) stop).0 in
      subst (λ (d : Config). IsReached d s → stopped d s ≡ true → answer inputs.bound (asked_tables inputs.bound inputs.tables) ≡ answer_arrived T inputs.bound (rows_arrived d (passes d) s.received))
      (sym (configured inputs is_ready.kind is_ready.plan))
      (answers T inputs.bound inputs.tables is_ready.kind inputs.profile inputs.profile.window (tables request contents is_ready) is_ready.plan times s) reached stop
      ∙ ap (λ p. answer_arrived T inputs.bound (rows_arrived c p s.received)) (sym pass)

  stopped_answers : (s : State) → IsReached c s → stopped c s ≡ true → answer_named given.query given.tables (names_arrived c s.pass s.received) ≡ answer_over given.query given.tables
  stopped_answers s reached stop =
      let inputs = is_ready.inputs in
      let names = names_arrived c s.pass s.received in
      let there = all_there s.pass s.received in
      let same : answer inputs.bound (map (rows_named all names) (numbers_from 0 (length inputs.bound.tables))) ≡ answer inputs.bound (asked_tables inputs.bound inputs.tables) =
      answer_is T inputs.bound inputs.tables (tables request contents is_ready) names there (row_at c) (λ x i. row_is x (there x i)) ∙ sym (arrived_whole s reached stop) in
      ap (λ (rows : List (List Cell)). record { header = inputs.bound.header; rows = rows }) same

  pub lists_steps : (steps : List Step) → Lists given (accepted_text c steps)
  lists_steps steps =
      let s = state_after c steps in
      record {
        ending = ending_at c s;
        events = length steps;
        names = names_of_pass c s;
        said = refl;
        there = all_there s.pass s.received;
        whole = λ done. elim (cases_Bool (stopped c s)) [
          | inl stop ↦ stopped_answers s (events_of steps, refl) stop
          | inr on ↦ let wrong : Open ≡ Done = ap (λ (b : Bool). if b then Done else Open) (sym on) ∙ done in absurd cc
        ];
      }

pub lists : (request : Request) (contents : List (List ℕ)) (told : Outcome) → length request.tables ≤ 64 → OfErrand runs Check request contents told → told.ending ≡ ending.Done
    → (inputs : Inputs) × AreInputs (without_schedule request) (other_contents request contents) inputs × Lists (given_of inputs) told.out
lists request contents told few comes done =
    let text = trace_text request contents in
    let r = read_done (without_schedule request) (other_contents request contents) (Checks runs text) told done comes in
    let given = given_of r.inputs in
    let c = config_of given in
    let w = within_done (runs.refusal given) (OfTrace c text) told done r.rest in
    let a = accepted_steps c text told done w.1 in
    let steps = lists_steps (without_schedule request) (other_contents request contents) (ready (without_schedule request) (other_contents request contents) r.inputs few r.are w.0) a.0 in
    (r.inputs, r.are, subst (λ (o : Outcome). Lists given o.out) (sym a.1) steps)
