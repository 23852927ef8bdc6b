-- The words are a command's: what they come to is there, and is one thing.
use Rattle.std.proofs.Common.{◌≡◌, ◌≢◌, ◌∙◌, ap, sym, refl, inl, inr, false, ℕ, List, [], length, Option, Some, None}
use Rattle.ch_audit_laws.proofs.Told.{either, one_refused, own_of_trace, own_is_trace}
use Rattle.ch_audit_laws.specs.Own.{IsOwn, IsRefusedAt, cut, steps_in}
use Rattle.ch_audit_laws.specs.Said.{accepted_text, refused_line}
use Rattle.ch_command.proofs.Commands.{IsMeaning, Total, Unique, misused_is_command, reading_is_command, said_all, said_once, then_all, then_one, then_some}
use Rattle.ch_command.specs.Command.{IsCommand, IsDecided, Refuses, answered, refused}
use Rattle.ch_command.specs.Status.{is_usage}
use Rattle.ch_command.specs.declared.outcome.Ending.TheVariants.{Done, Input, Rejected}
use Rattle.ch_command.specs.declared.outcome.Outcome.{Outcome}
use Rattle.ch_lists.specs.Members.{Each}
use Rattle.ch_protocol.specs.Machine.{Config}
use Rattle.ch_schedule.specs.declared.step.Schedule.{Schedule}
use Rattle.ch_trace_lines.specs.Range.{IsLine}
use Rattle.ch_trace_lines.specs.Trace.{IsTrace, steps_done, trace_lines, trace_of}
use Rattle.ch_trace_lines.specs.declared.line.Line.{Line}
use Rattle.cheetah_audit_words.specs.Words.{Wish, usage_line}
use Rattle.cheetah_audit_words.specs.Words.Wish.{Asking, Misused}
use Rattle.cheetah_audit_words.specs.declared.words.Task.{Task}
use Rattle.cheetah_audit_words.specs.declared.words.Task.TheVariants.{Write, Check}
use Rattle.cheetah_inputs.proofs.Meanings.{contents_all, contents_one, contents_some}
use Rattle.cheetah_inputs.specs.Inputs.{names_of}
use Rattle.cheetah_words.specs.Words.{Request}
use Rattle.cheetah_audit_meaning.specs.Meaning.{Checks, OfErrand, OfTrace, Runs, WithinLimits, Writes, command_for, other_contents, trace_text, without_schedule}

-- the chain of a trace

module _ (c : Config) (text : List ℕ) where
  abbrev Says : ℕ → Outcome
  Says line = refused Rejected (refused_line line)

  abbrev Refusal : Outcome → Type 0
  Refusal = Refuses (IsRefusedAt c (cut text)) Says

  abbrev Accepted : List Line → Outcome → Type 0
  Accepted lines o = o ≡ answered (accepted_text c (steps_in lines))

  trace_is_decided : IsDecided (IsOwn c (cut text)) Refusal
  trace_is_decided = record {
    either = elim (either c text) [
      | inl own ↦ inl (own.0, own.1)
      | inr bad ↦ inr (Says bad.0, record { error = bad.0; is = bad.1; said = refl })
    ];
    one_value = λ a b p q. one_own p q;
    one_refusal = said_once (IsRefusedAt c (cut text)) Says (λ a b p q. one_refused c (cut text) a b p q);
    not_both = λ lines outcome own bad. bad.is.none lines own;
  }
    where
      some_same : {X : Type 0} (a b : X) (o : Option X) → o ≡ Some a → o ≡ Some b → a ≡ b
      some_same a b o p q = cc

      one_own : {a b : List Line} → IsOwn c (cut text) a → IsOwn c (cut text) b → a ≡ b
      one_own {a = a} {b = b} p q = some_same a b _ p.read q.read

  trace_some : Total (OfTrace c text)
  trace_some = then_some (IsOwn c (cut text)) Refusal Accepted trace_is_decided (λ lines own. (answered (accepted_text c (steps_in lines)), refl))

  trace_one : Unique (OfTrace c text)
  trace_one = then_one (IsOwn c (cut text)) Refusal Accepted trace_is_decided (λ lines own a b p q. p ∙ sym q)

  module _ (P : Outcome → Type 0) (done : (said : List ℕ) → P (answered said)) (over : (line : List ℕ) → P (refused Rejected line)) where
    trace_all : (outcome : Outcome) → OfTrace c text outcome → P outcome
    trace_all = then_all P (IsOwn c (cut text)) Refusal Accepted (said_all P (IsRefusedAt c (cut text)) Says (λ line. over (refused_line line))) (λ lines outcome p. rw p (done (accepted_text c (steps_in lines))))

  pub accepted : (outcome : Outcome) → OfTrace c text outcome → outcome.ending ≡ Done → IsTrace c text
  accepted outcome (inl own) done = own_is_trace c text own.value own.is
  accepted outcome (inr bad) done = let wrong : Rejected ≡ Done = sym (ap (λ (o : Outcome). o.ending) bad.said) ∙ done in cc

pub written : (c : Config) (schedule : Schedule) (outcome : Outcome) → Each IsLine (trace_lines c (steps_done c schedule)) → OfTrace c (trace_of c schedule) outcome
    → outcome ≡ answered (accepted_text c (steps_in (trace_lines c (steps_done c schedule))))
written c schedule outcome lines of =
    let own = own_of_trace c (steps_done c schedule) lines in
    trace_one c (trace_of c schedule) outcome (answered (accepted_text c (steps_in (trace_lines c (steps_done c schedule))))) of (inl (record { value = trace_lines c (steps_done c schedule); is = own; rest = refl }))

-- the plan's limits before it

within_some : (refusal : Option (List ℕ)) (done : Outcome → Type 0) → Total done → Total (WithinLimits refusal done)
within_some None done some = some
within_some (Some line) done some = (refused Rejected line, refl)

within_one : (refusal : Option (List ℕ)) (done : Outcome → Type 0) → Unique done → Unique (WithinLimits refusal done)
within_one None done one a b p q = one a b p q
within_one (Some line) done one a b p q = p ∙ sym q

within_all : (P : Outcome → Type 0) → ((line : List ℕ) → P (refused Rejected line)) → (refusal : Option (List ℕ)) (done : Outcome → Type 0) → ((outcome : Outcome) → done outcome → P outcome) → (outcome : Outcome) → WithinLimits refusal done outcome → P outcome
within_all P over None done all outcome p = all outcome p
within_all P over (Some line) done all outcome p = rw p (over line)

-- both tasks

module _ (runs : Runs) (request : Request) where
  errand_some : (task : Task) (contents : List (List ℕ)) → Total (OfErrand runs task request contents)
  errand_some Write contents = contents_some request contents (Writes runs) (λ given. within_some (runs.refusal given) _ (answered (trace_of (runs.config given) given.schedule), refl))
  errand_some Check contents =
      let text = trace_text request contents in
      contents_some (without_schedule request) (other_contents request contents) (Checks runs text) (λ given. within_some (runs.refusal given) (OfTrace (runs.config given) text) (trace_some (runs.config given) text))

  errand_one : (task : Task) (contents : List (List ℕ)) → Unique (OfErrand runs task request contents)
  errand_one Write contents = contents_one request contents (Writes runs) (λ given. within_one (runs.refusal given) _ (λ a b p q. p ∙ sym q))
  errand_one Check contents =
      let text = trace_text request contents in
      contents_one (without_schedule request) (other_contents request contents) (Checks runs text) (λ given. within_one (runs.refusal given) (OfTrace (runs.config given) text) (trace_one (runs.config given) text))

  module _ (P : Outcome → Type 0) (done : (said : List ℕ) → P (answered said)) (none : (line : List ℕ) → P (refused Input line)) (over : (line : List ℕ) → P (refused Rejected line)) where
    errand_all : (task : Task) (contents : List (List ℕ)) (outcome : Outcome) → OfErrand runs task request contents outcome → P outcome
    errand_all Write contents = contents_all request contents (Writes runs) P none (λ given. within_all P over (runs.refusal given) _ (λ outcome p. rw p (done (trace_of (runs.config given) given.schedule))))
    errand_all Check contents =
        let text = trace_text request contents in
        contents_all (without_schedule request) (other_contents request contents) (Checks runs text) P none (λ given. within_all P over (runs.refusal given) (OfTrace (runs.config given) text) (trace_all (runs.config given) text P done over))

  pub never_misused : (task : Task) (contents : List (List ℕ)) (outcome : Outcome) → OfErrand runs task request contents outcome → is_usage outcome.ending ≡ false
  never_misused = errand_all (λ o. is_usage o.ending ≡ false) (λ said. refl) (λ line. refl) (λ line. refl)

  pub meaning : (task : Task) → IsMeaning (length (names_of request)) (OfErrand runs task request)
  meaning task = record {
    some = λ contents same. errand_some task contents;
    one = errand_one task;
    taken = never_misused task;
    quiet = errand_all (λ o. o.ending ≢ Done → o.out ≡ []) (λ said other. absurd (other refl)) (λ line other. refl) (λ line other. refl) task;
  }

pub is_command : (runs : Runs) (wish : Wish) → IsCommand (command_for runs wish)
is_command runs Misused = misused_is_command (λ line. line ≡ usage_line) (usage_line, refl)
is_command runs (Asking task request) = reading_is_command (names_of request) (OfErrand runs task request) (meaning runs request task)
