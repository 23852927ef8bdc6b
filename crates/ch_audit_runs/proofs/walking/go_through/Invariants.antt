use Rattle.std.proofs.Common.{◌≤◌, ◌+◌, length}
use Rattle.ch_protocol.specs.Machine.{Config, start}
use Rattle.ch_trace_laws.specs.Sendable.{AreSendable}
use Rattle.ch_audit_runs.proofs.Walks.{Walks}
use Rattle.ch_audit_runs.proofs.walking.go_through.Given as goal

abbrev pub invariant-loop-line : goal.invariant-loop-line
invariant-loop-line g l = record {
  valid : g.R.Noting.valid l.run;
  epoch : g.R.Noting.epoch l.run ≤ g.R.Noting.epoch l.fn.run + l.lines;
  short : l.lines + length l.rest ≤ length l.text;
  walks : (c : Config) → g.R.Noting.stands l.fn.run c (start c) → AreSendable c → Walks c (g.R.Noting.stands l.run c) l.rows.items l.text l.rest l.lines;
}

abbrev pub decreases-loop-line : goal.decreases-loop-line
decreases-loop-line g l = length l.rest
