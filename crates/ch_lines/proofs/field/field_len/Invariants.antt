use Rattle.std.proofs.Common.{◌≡◌, take, true}
use Rattle.std.specs.List.{list_all}
use Rattle.ch_lines.specs.Lines.{is_visible}
use Rattle.ch_lines.proofs.field.field_len.Given as goal

abbrev pub invariant-loop-at : goal.invariant-loop-at
invariant-loop-at l = list_all is_visible (take l.at l.line) ≡ true
