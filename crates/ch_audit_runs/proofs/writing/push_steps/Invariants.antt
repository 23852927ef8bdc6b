use Rattle.std.proofs.Common.{◌≡◌, ◌≤◌, ◌+◌, ◌++◌, take}
use Rattle.ch_protocol.specs.Machine.{Config, State, run}
use Rattle.ch_schedule.specs.Event.{events_of}
use Rattle.ch_trace_lines.specs.Spelling.{lines_text}
use Rattle.ch_trace_lines.specs.Trace.{lines_from}
use Rattle.ch_audit_runs.proofs.writing.push_steps.Given as goal

abbrev pub invariant-loop-step : goal.invariant-loop-step
invariant-loop-step g l = record {
  valid : g.R.Noting.valid l.run;
  epoch : g.R.Noting.epoch l.run ≤ g.R.Noting.epoch l.fn.run + l.step-index;
  run : (c : Config) (s : State) → g.R.Noting.stands l.fn.run c s → g.R.Noting.stands l.run c (run c (events_of (take l.step-index l.steps)) s);
  text : (c : Config) (s : State) → g.R.Noting.stands l.fn.run c s → l.text.items ≡ l.fn.text.items ++ lines_text (lines_from c s (take l.step-index l.steps));
}
