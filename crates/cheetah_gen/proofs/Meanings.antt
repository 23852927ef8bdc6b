-- The words are a command's: what they come to is there, is one thing, and is an answer or a usage.
use Rattle.std.proofs.Common.{◌≡◌, ◌∙◌, ◌⊎◌, ap, inl, inr, refl, sym, subst, ℕ, List, Option, Some, None, Result, Ok, Err}
use Rattle.std.specs.Result.{IfOk}
use Rattle.ch_command.proofs.Commands.{misused_is_command}
use Rattle.ch_command.proofs.Verdicts.{misuse_fits}
use Rattle.ch_command.specs.Call.{Faults}
use Rattle.ch_command.specs.Command.{Agree, IsCommand}
use Rattle.ch_command.specs.Status.{is_usage}
use Rattle.ch_command.specs.Verdict.{Fits, misuse_verdict, verdict_of}
use Rattle.ch_command.specs.declared.Ending.{Ending}
use Rattle.ch_command.specs.declared.Ending.TheVariants.{Done}
use Rattle.ch_command.specs.declared.Misuse.{Misuse}
use Rattle.ch_command.specs.declared.Misuse.TheVariants as misuse
use Rattle.ch_command.specs.declared.Outcome.{Outcome}
use Rattle.ch_generated.specs.Inputs.{command_words}
use Rattle.ch_generated.specs.Request.{request_of, usage_line}
use Rattle.ch_generated.specs.declared.InputKind.{InputKind}
use Rattle.ch_generated.specs.declared.Request.{Request}
use Rattle.ch_generated_laws.proofs.Ranges.{in_range}
use Rattle.ch_generated_laws.specs.Tables.{IsInRange}
use Rattle.ch_outside.specs.Shelf.{Files}
use Rattle.cheetah.proofs.Meanings as cheetah
use Rattle.cheetah.specs.Saying.{said_by_run}
use Rattle.cheetah_words.specs.Words.{wish_of}
use Rattle.cheetah_gen.proofs.Answerable.{inner_done, inner_said}
use Rattle.cheetah_gen.specs.Given.{given_by}
use Rattle.cheetah_gen.specs.Result.{SumsUp, command_for, command_of, sum_of, summed_up, summing}
use Rattle.cheetah_gen_words.specs.Files.{files_told}

done_sum : (kind : InputKind) (ending : Ending) (text counts : List ℕ) → ending ≡ Done → (summed_up kind ending text counts).ending ≡ Done
done_sum kind ending text counts done = rw done refl

module _ (request : Request) (range : IsInRange request) where
  pub sum_done : (outcome : Outcome) → SumsUp request outcome → outcome.ending ≡ Done
  sum_done outcome sums = ap (λ (o : Outcome). o.ending) sums.sum ∙ done_sum request.kind sums.inner.ending sums.inner.out sums.inner.err (inner_done request range sums.inner sums.comes)

  pub sum_said : (outcome : Outcome) → SumsUp request outcome → outcome ≡ sum_of request.kind (said_by_run (given_by request))
  sum_said outcome sums = sums.sum ∙ ap (sum_of request.kind) (inner_said request range sums.inner sums.comes)

  one_sum : (a b : Outcome) → SumsUp request a → SumsUp request b → Agree a b
  one_sum a b p q = let same : a ≡ b = sum_said a p ∙ sym (sum_said b q) in
      record { ending = ap (λ (o : Outcome). o.ending) same; out = ap (λ (o : Outcome). o.out) same; err = λ other. ap (λ (o : Outcome). o.err) same }

  summing_is_command : IsCommand (summing request)
  summing_is_command = record {
    some = λ files. let inner = (cheetah.is_command (wish_of (command_words request.kind))).some (files_told request) in (sum_of request.kind inner.0, record { inner = inner.0; comes = inner.1; sum = refl });
    one = λ files a b p q. one_sum a b p q;
    misuse = λ files outcome p. ap is_usage (sum_done outcome p);
    quiet = λ files outcome p other. absurd (other (sum_done outcome p));
    needed = λ files outcome file named. absurd named;
  }

  -- a summary fits, and want of memory does
  pub sum_fits : {E : Type 0} (told : Option Files) (shelf : Faults) (judged : Result Outcome E) → IfOk judged (λ outcome. SumsUp request outcome) → Fits told shelf (summing request) (verdict_of judged)
  sum_fits told shelf (Ok outcome) sums = (ap is_usage (sum_done outcome sums), λ files e. sums)
  sum_fits told shelf (Err memory) sums = tt

by_request : (words : List (List ℕ)) (asked : Option Request) → request_of words ≡ asked → IsCommand (command_for asked)
by_request words None e = misused_is_command (λ line. line ≡ usage_line) (usage_line, refl)
by_request words (Some request) e = summing_is_command request (in_range words request e)

pub is_command : (words : List (List ℕ)) → IsCommand (command_of words)
is_command words = by_request words (request_of words) refl

pub said_once : (words : List (List ℕ)) (request : Request) (files : Files) (outcome : Outcome) → request_of words ≡ Some request → (command_of words).comes_to files outcome → outcome ≡ sum_of request.kind (said_by_run (given_by request))
said_once words request files outcome e comes = sum_said request (in_range words request e) outcome (subst (λ (asked : Option Request). (command_for asked).comes_to files outcome) e comes)

-- other words are refused with the usage
pub usage_fits : (told : Option Files) (shelf : Faults) (why : Misuse) → (why ≡ misuse.Line usage_line) ⊎ (why ≡ misuse.Memory) → Fits told shelf (command_for None) (misuse_verdict why)
usage_fits told shelf why (inl said) = rw said (misuse_fits told shelf (λ line. line ≡ usage_line) usage_line refl)
usage_fits told shelf why (inr memory) = rw memory tt
