use Rattle.std.proofs.Common.{◌≡◌, drop}
use Rattle.ch_bind.specs.Sums.{negative_from}
use Rattle.ch_bind.proofs.sums.negative_cell.Given as goal

-- the parts left decide
abbrev pub invariant-loop-part : goal.invariant-loop-part
invariant-loop-part l = negative_from l.at l.part (drop l.part l.table.parts) ≡ negative_from l.at 0 l.table.parts
