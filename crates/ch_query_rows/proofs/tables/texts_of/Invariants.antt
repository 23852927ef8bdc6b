use Rattle.std.proofs.Common.{ℕ, List, ◌<◌, ◌-◌, ◌^◌, length}
use Rattle.std.specs.Prelude.{All}
use Rattle.ch_query_rows.proofs.tables.texts_of.Given as goal

abbrev pub invariant-loop-part : goal.invariant-loop-part
invariant-loop-part l = All (λ (text : List ℕ). length text < 2 ^ 32 - 1) l.texts
