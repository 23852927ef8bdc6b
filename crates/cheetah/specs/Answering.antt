-- What a query comes to over what is given.
use Rattle.std.specs.Prelude.{◌≡◌, Bool, true, false, Option, Some, None}
use Rattle.ch_asm.specs.Text.{program_text}
use Rattle.ch_command.specs.Command.{answered, refused}
use Rattle.ch_command.specs.declared.outcome.Ending.TheVariants.{Rejected}
use Rattle.ch_command.specs.declared.outcome.Outcome.{Outcome}
use Rattle.ch_plan.specs.declared.error.PlanError.{PlanError}
use Rattle.cheetah_inputs.specs.Inputs.{Given}
use Rattle.cheetah_inputs.specs.Limits.{limit_exceeded, plan_line}
use Rattle.cheetah_run.specs.Saying.{said_by_run}
use Rattle.cheetah.specs.Planning.{program_planned}

-- the text of the plan's program, where that is asked for; else what the run of the schedule writes
abbrev pub outcome_planned : Bool → Given → Outcome
outcome_planned true given = answered (program_text (program_planned given.query given.profile))
outcome_planned false given = said_by_run given

-- this outcome, unless the plan exceeds a limit
abbrev pub within_limits : Option PlanError → Outcome → Outcome
within_limits (Some error) outcome = refused Rejected (plan_line error)
within_limits None outcome = outcome

abbrev pub outcome_of : Bool → Given → Outcome
outcome_of plan given = within_limits (limit_exceeded given.query given.profile) (outcome_planned plan given)

abbrev pub Answers : Bool → Given → Outcome → Type 0
Answers plan given outcome = outcome ≡ outcome_of plan given
