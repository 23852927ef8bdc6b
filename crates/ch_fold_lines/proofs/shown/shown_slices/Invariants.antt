use Rattle.std.proofs.Common.{◌≡◌, ◌+◌, ◌-◌, ◌≤◌, map, take, length, vec_len, vec_capacity}
use Rattle.ch_fold_lines.specs.Shown.{shown_line}
use Rattle.ch_fold_lines.proofs.shown.shown_slices.Given as goal

abbrev pub invariant-loop-line : goal.invariant-loop-line
invariant-loop-line l = (l.rows.items ≡ map (shown_line l.ranks l.kinds) (map (λ r. r.now) (take l.line-index l.lines))) × (vec_len l.rows + (length l.lines - l.line-index) ≤ vec_capacity l.rows)
