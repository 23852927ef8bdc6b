use Rattle.std.proofs.Common.{◌≡◌, length, take}
use Rattle.ch_fold_groups.specs.Lines.{value_lines}
use Rattle.ch_fold_groups.proofs.bests.Bests.lines.Given as goal

abbrev pub invariant-loop-number : goal.invariant-loop-number
invariant-loop-number l = l.lines ≡ record { width = length l.places; rows = value_lines l.places (take l.number l.self.keys) (take l.number l.best-items) }
