use Rattle.std.proofs.Common.{◌≡◌, drop, []}
use Rattle.std.specs.Prelude.{slice_index_or}
use Rattle.ch_bind.specs.First.{first_from}
use Rattle.ch_bind.specs.Sums.{has_negative}
use Rattle.ch_bind.proofs.sums.negative_row.Given as goal

-- the rows left decide
abbrev pub invariant-loop-row : goal.invariant-loop-row
invariant-loop-row l = first_from (has_negative l.at) l.row (drop l.row (slice_index_or l.table.parts l.part [])) ≡ first_from (has_negative l.at) 0 (slice_index_or l.table.parts l.part [])
