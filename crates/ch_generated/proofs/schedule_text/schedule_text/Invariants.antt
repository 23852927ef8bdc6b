use Rattle.std.proofs.Common.{◌≡◌, ◌++◌, ◌-◌}
use Rattle.ch_generated.specs.ScheduleText.{steps_text}
use Rattle.ch_generated.proofs.schedule_text.schedule_text.Given as goal

-- what is written, and what the steps that are left give
abbrev pub invariant-loop-step : goal.invariant-loop-step
invariant-loop-step l = l.text.items ++ steps_text l.workers (1000 - l._step) l.generator ≡ steps_text l.workers 1000 l.fn.generator
