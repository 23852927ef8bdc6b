use Rattle.std.proofs.Common.{◌≡◌, ◌+◌, ◌-◌, ◌≤◌, take, length, vec_len, vec_capacity}
use Rattle.ch_fold_lines.proofs.shown.copy_header.Given as goal

abbrev pub invariant-loop-name : goal.invariant-loop-name
invariant-loop-name l = (l.copy.items ≡ take l.name-index l.name-items) × (vec_len l.copy + (length l.name-items - l.name-index) ≤ vec_capacity l.copy)
