use Rattle.std.proofs.Common.{◌≡◌, ◌∙◌, ap, refl, Bool, true, false, Option}
use Rattle.ch_command.specs.declared.outcome.Ending.TheVariants.{Done}
use Rattle.ch_plan.specs.declared.error.PlanError.{PlanError}
use Rattle.cheetah_inputs.specs.Inputs.{Given, given_of}
use Rattle.cheetah_run.proofs.Ends.{drained_is_done}
use Rattle.cheetah_run.specs.Saying.{said_by_run}
use Rattle.cheetah.specs.Answering.{outcome_planned, within_limits}
use Rattle.cheetah.proofs.laws.drained_requests_are_never_open.Goals as goal

by_plan : (plan : Bool) (given : Given) → (said_by_run given).ending ≡ Done → (outcome_planned plan given).ending ≡ Done
by_plan true given e = refl
by_plan false given e = e

pub returns : goal.returns
returns c request contents inputs are few drain none =
    ap (λ (o : Option PlanError). (within_limits o (outcome_planned request.plan (given_of inputs))).ending) none
    ∙ by_plan request.plan (given_of inputs) (drained_is_done inputs (record { request = request; contents = contents; few = few; read = are }) drain)
