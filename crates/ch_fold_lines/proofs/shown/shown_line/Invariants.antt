use Rattle.std.proofs.Common.{◌≡◌, ◌+◌, ◌-◌, ◌≤◌, take, length, vec_len, vec_capacity}
use Rattle.ch_fold_lines.specs.Shown.{shown_line}
use Rattle.ch_fold_lines.proofs.shown.shown_line.Given as goal

abbrev pub invariant-loop-i : goal.invariant-loop-i
invariant-loop-i l = (l.row.items ≡ shown_line l.ranks l.kinds (take l.i l.words)) × (vec_len l.row + (length l.words - l.i) ≤ vec_capacity l.row)
