-- The steps that are drawn, and the schedule that they are.
use Rattle.std.specs.Prelude.{ℕ, zero, suc, ◌==◌, nat_lt, if◌then◌else◌, List, [], ◌∷◌, true}
use Rattle.rand_pcg.specs.Lcg.{Lcg}
use Rattle.ch_generated.specs.Draws.{after, drawn}
use Rattle.ch_generated.specs.Inputs.{schedule_begins, workers_of}
use Rattle.ch_generated.specs.ScheduleText.{after_step}
use Rattle.ch_generated.specs.declared.Request.{Request}
use Rattle.ch_schedule.specs.declared.step.How.TheVariants.{Take, Lose}
use Rattle.ch_schedule.specs.declared.step.Schedule.{Schedule}
use Rattle.ch_schedule.specs.declared.step.Step.{Step}
use Rattle.ch_schedule.specs.declared.step.Step.TheVariants as step

-- the step of this number
abbrev pub step_of : ℕ → ℕ → Lcg → Step
step_of workers number generator =
    if nat_lt number 3 then step.Send (drawn workers generator)
    else if number == 3 then step.Up 0 Take
    else if number == 4 then step.Up (drawn 4 generator) Take
    else if number == 5 then step.Down 0 Take
    else if number == 6 then step.Back 0 Take
    else step.Up 0 Lose

unfoldable pub drawn_step : ℕ → Lcg → Step
drawn_step workers generator = step_of workers (drawn 8 generator) (after 1 generator)

unfoldable pub drawn_steps : ℕ → ℕ → Lcg → List Step
drawn_steps workers zero generator = []
drawn_steps workers (suc steps) generator = drawn_step workers generator ∷ drawn_steps workers steps (after_step generator)

-- 1,000 steps, and drain
abbrev pub schedule_of : Request → Schedule
schedule_of request = record { steps = drawn_steps (workers_of request.kind) 1000 (schedule_begins request); drain = true }
