use Rattle.std.proofs.Common.{◌≡◌, ◌≤◌, ◌+◌, ◌*◌, ◌++◌, List}
use Rattle.std.specs.Prelude.{◌-◌}
use Rattle.op_moves.specs.Built.{stages_after}
use Rattle.op_moves.specs.Moves.{Move}
use Rattle.op_cache.specs.Emitted.{columns}
use Rattle.op_cache.proofs.columns.emit_columns.Given as goal

-- the columns that are left come next, where all were to come first
abbrev pub invariant-loop-column : goal.invariant-loop-column
invariant-loop-column l = record {
  made : (rest : List Move) → stages_after l.builder (columns (l.place.cols - l.column) (l.place.array + l.column) l.base l.gate l.place.row l.words l.carried ++ rest)
      ≡ stages_after l.fn.builder (columns l.place.cols l.place.array l.place.base l.place.gate l.place.row l.words l.fn.carried ++ rest);
  base : l.base ≤ l.place.base + 19 * l.column;
}
