-- The words are a command's: what they come to is there, and is one thing.
use Rattle.std.proofs.Common.{◌≡◌, ◌≢◌, ◌∙◌, sym, refl, true, false, Bool, ℕ, List, [], length, Option, Some, None}
use Rattle.ch_command.proofs.Commands.{IsMeaning, misused_is_command, reading_is_command}
use Rattle.ch_command.specs.Command.{IsCommand, refused}
use Rattle.ch_command.specs.Lines.{no_words_line}
use Rattle.ch_command.specs.Status.{is_usage}
use Rattle.ch_command.specs.declared.outcome.Ending.{Ending}
use Rattle.ch_command.specs.declared.outcome.Ending.TheVariants.{Done, Input, Open, Rejected}
use Rattle.ch_command.specs.declared.outcome.Outcome.{Outcome}
use Rattle.ch_plan.specs.declared.error.PlanError.{PlanError}
use Rattle.ch_protocol.specs.Outcome as run
use Rattle.cheetah_inputs.proofs.Meanings.{contents_all, contents_one, contents_some}
use Rattle.cheetah_inputs.specs.Inputs.{Given, OfContents, names_of}
use Rattle.cheetah_inputs.specs.Limits.{limit_exceeded, plan_line}
use Rattle.cheetah_words.specs.Words.{Asking, NoWords, Request, Wish, WrongTables, WrongWords}
use Rattle.cheetah_run.specs.Running.{run_outcome}
use Rattle.cheetah_run.specs.Saying.{said_of}
use Rattle.cheetah.specs.Answering.{Answers, outcome_of, outcome_planned, within_limits}
use Rattle.cheetah.specs.Result.{command_for}

-- what holds of each text, of each run and of each refusal holds of what a request comes to
module _ (P : Outcome → Type 0) (done : (out err : List ℕ) → P (record { ending = Done; out = out; err = err })) (others : (ending : Ending) (line : List ℕ) → is_usage ending ≡ false → P (refused ending line)) where
  run_all : (given : Given) (o : run.Outcome) → P (said_of given o)
  run_all given (run.Outcome.Done counts) = done _ _
  run_all given (run.Outcome.Open flows) = others Open _ refl

  planned_all : (plan : Bool) (given : Given) → P (outcome_planned plan given)
  planned_all true given = done _ _
  planned_all false given = run_all given (run_outcome given)

  answer_all : (plan : Bool) (given : Given) (outcome : Outcome) → Answers plan given outcome → P outcome
  answer_all plan given outcome p = rw p (within (limit_exceeded given.query given.profile))
    where
      within : (o : Option PlanError) → P (within_limits o (outcome_planned plan given))
      within None = planned_all plan given
      within (Some error) = others Rejected (plan_line error) refl

  all : (request : Request) (contents : List (List ℕ)) (outcome : Outcome) → OfContents request (Answers request.plan) contents outcome → P outcome
  all request contents = contents_all request contents (Answers request.plan) P (λ line. others Input line refl) (answer_all request.plan)

pub never_misused : (request : Request) (contents : List (List ℕ)) (outcome : Outcome) → OfContents request (Answers request.plan) contents outcome → is_usage outcome.ending ≡ false
never_misused = all (λ o. is_usage o.ending ≡ false) (λ out err. refl) (λ ending line no. no)

meaning : (request : Request) → IsMeaning (length (names_of request)) (OfContents request (Answers request.plan))
meaning request = record {
  some = λ contents same. contents_some request contents (Answers request.plan) (λ given. (outcome_of request.plan given, refl));
  one = λ contents. contents_one request contents (Answers request.plan) (λ given a b p q. p ∙ sym q);
  taken = never_misused request;
  quiet = all (λ o. o.ending ≢ Done → o.out ≡ []) (λ out err other. absurd (other refl)) (λ ending line no other. refl) request;
}

pub is_command : (wish : Wish) → IsCommand (command_for wish)
is_command NoWords = misused_is_command (λ line. line ≡ no_words_line) (no_words_line, refl)
is_command WrongWords = misused_is_command (λ line. Unit {0}) ([], tt)
is_command (WrongTables said) = misused_is_command (λ line. line ≡ said) (said, refl)
is_command (Asking request) = reading_is_command (names_of request) (OfContents request (Answers request.plan)) (meaning request)
