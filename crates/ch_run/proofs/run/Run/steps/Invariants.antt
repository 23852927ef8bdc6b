use Rattle.std.proofs.Common.{◌+◌, ◌≤◌, take}
use Rattle.ch_protocol.specs.Machine.{run}
use Rattle.ch_schedule.specs.Event.{events_of}
use Rattle.ch_run.specs.Runs.{LeadsTo}
use Rattle.ch_run.proofs.run.Run.steps.Given as goal

abbrev pub invariant-loop-step : goal.invariant-loop-step
invariant-loop-step l = record {
  epoch : l.self.switch.epoch ≤ l.fn.self.switch.epoch + l.step-index;
  on : LeadsTo l.fn.self l.self (λ c s. run c (events_of (take l.step-index l.steps)) s);
}
