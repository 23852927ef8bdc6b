use Rattle.std.proofs.Common.{◌≡◌, ◌+◌, ◌≤◌, length}
use Rattle.ch_lines.specs.Lines.{lines_of}
use Rattle.ch_ir.specs.Profile.{lines_said, profile_of}
use Rattle.ch_ir.specs.Given.{said_of}
use Rattle.ch_ir.proofs.read.read_profile.Given as goal

abbrev pub invariant-loop-cut : goal.invariant-loop-cut
invariant-loop-cut l = record {
  many : l.line + length l.rest ≤ length l.fn.text + 1;
  same : lines_said l.line (said_of l.reading) (lines_of l.rest) ≡ profile_of l.fn.text;
}

abbrev pub decreases-loop-cut : goal.decreases-loop-cut
decreases-loop-cut l = length l.rest
