use Rattle.std.proofs.Common.{◌+◌, ◌≤◌}
use Rattle.cheetah_rows.proofs.watching.follow.Given as goal

abbrev pub invariant-loop-step : goal.invariant-loop-step
invariant-loop-step l = l.run.switch.epoch ≤ l.fn.run.switch.epoch + l.step-index
