use Rattle.std.proofs.Common.{◌≡◌, ◌≤◌, ◌+◌, length, drop}
use Rattle.ch_lines.specs.Lines.{lines_of}
use Rattle.ch_schedule.proofs.Lines.{IsSoFar}
use Rattle.ch_schedule.proofs.read.read_schedule.Given as goal

abbrev pub invariant-loop-cut : goal.invariant-loop-cut
invariant-loop-cut l = record {
  many : l.at + length l.rest ≤ length l.fn.text;
  left : lines_of l.rest ≡ drop l.at (lines_of l.fn.text);
  so_far : IsSoFar (lines_of l.fn.text) l.at l.schedule;
}

abbrev pub decreases-loop-cut : goal.decreases-loop-cut
decreases-loop-cut l = length l.rest
