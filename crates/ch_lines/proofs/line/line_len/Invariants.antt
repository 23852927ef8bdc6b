use Rattle.std.proofs.Common.{◌≡◌, take, true}
use Rattle.std.specs.List.{list_all}
use Rattle.ch_lines.specs.Lines.{is_inner}
use Rattle.ch_lines.proofs.line.line_len.Given as goal

abbrev pub invariant-loop-at : goal.invariant-loop-at
invariant-loop-at l = list_all is_inner (take l.at l.text) ≡ true
