use Rattle.std.proofs.Common.{◌≡◌, ◌+◌, ◌-◌, ◌≤◌, map, take, length, vec_len, vec_capacity}
use Rattle.ch_fold_lines.specs.Shown.{shown_line}
use Rattle.ch_fold_lines.proofs.shown.shown_lines.Given as goal

abbrev pub invariant-loop-at : goal.invariant-loop-at
invariant-loop-at l = (l.rows.items ≡ map (shown_line l.ranks l.kinds) (take l.at l.lines)) × (vec_len l.rows + (length l.lines - l.at) ≤ vec_capacity l.rows)
