use Rattle.std.proofs.Common.{◌≡◌, ◌*◌, ◌≤◌, take}
use Rattle.std.specs.Prelude.{sum_by}
use Rattle.ch_engine.proofs.beginning.total.Given as goal

abbrev pub invariant-loop-count : goal.invariant-loop-count
invariant-loop-count l = (l.all ≡ sum_by (λ n. n) (take l.count-index l.rows)) × (l.all ≤ l.count-index * 4294967296)
