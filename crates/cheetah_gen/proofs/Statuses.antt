-- The statuses of a call that keeps its promise: 2, 3, 4 and 5 never come.
use Rattle.std.proofs.Common.{◌≡◌, ◌⊎◌, ◌∙◌, ap, inl, inr, refl, sym, ℕ, List, Option, Some, None}
use Rattle.ch_command.specs.Call.{Call, Faults, IsResult, Promise, RanOut, ReadFailed, WriteFailed}
use Rattle.ch_command.specs.Status.{code_of}
use Rattle.ch_command.specs.declared.Outcome.{Outcome}
use Rattle.ch_generated.specs.Request.{request_of}
use Rattle.ch_generated.specs.declared.Request.{Request}
use Rattle.ch_generated_laws.proofs.Ranges.{in_range}
use Rattle.cheetah_gen.proofs.Inner.{not_failed}
use Rattle.cheetah_gen.proofs.Meanings.{sum_done}
use Rattle.cheetah_gen.specs.Result.{IsStatus, command_for, command_of, no_faults, no_files}

ended_by : (words : List (List ℕ)) (asked : Option Request) (outcome : Outcome) → request_of words ≡ asked → (command_for asked).comes_to no_files outcome → IsStatus (code_of outcome.ending)
ended_by words None outcome e comes = inr (inl (ap (λ (o : Outcome). code_of o.ending) comes.2))
ended_by words (Some request) outcome e comes = inl (ap code_of (sum_done request (in_range words request e) outcome comes))

pub own_status : (words : List (List ℕ)) (call : Call) → call.told ≡ Some no_files → call.shelf ≡ no_faults → Promise (command_of words) call → IsStatus call.status
own_status words call told shelf promise = by (promise.headline no_files told).faulty
  where
    by : IsResult (command_of words) no_files call ⊎ (RanOut (command_of words) no_files call ⊎ (ReadFailed (command_of words) call ⊎ WriteFailed (command_of words) no_files call)) → IsStatus call.status
    by (inl result) = rw result.status (ended_by words (request_of words) result.outcome refl result.comes)
    by (inr (inl ran)) = inr (inr (inr ran.status))
    by (inr (inr (inl failed))) = absurd (not_failed call.shelf (ap (λ (f : Faults). f.before) shelf) (ap (λ (f : Faults). f.now) shelf ∙ sym (ap (λ (f : Faults). f.before) shelf)) failed.at.failed)
    by (inr (inr (inr failed))) = inr (inr (inl failed.status))
