use Rattle.std.proofs.Common.{◌≡◌, drop}
use Rattle.ch_lines.specs.Lines.{fields_of}
use Rattle.ch_lines.proofs.field.trim_blanks.Given as goal

abbrev pub invariant-loop-at : goal.invariant-loop-at
invariant-loop-at l = fields_of (drop l.at l.line) ≡ fields_of l.line
