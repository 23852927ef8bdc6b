use Rattle.std.proofs.Common.{◌≡◌, length, take}
use Rattle.ch_fold_groups.specs.Lines.{key_lines, keys_above}
use Rattle.ch_fold_groups.proofs.sums.Sums.lines_above.Given as goal

abbrev pub invariant-loop-number : goal.invariant-loop-number
invariant-loop-number l = l.lines ≡ record { width = length l.places; rows = key_lines l.places (keys_above l.above (take l.number l.self.keys) (take l.number l.sum-items)) }
