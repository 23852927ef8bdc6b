use Rattle.std.proofs.Common.{◌≡◌, ◌≤◌, ◌+◌, ◌*◌, ◌++◌, List}
use Rattle.std.specs.Prelude.{◌-◌}
use Rattle.op_moves.specs.Built.{stages_after}
use Rattle.op_moves.specs.Moves.{Move}
use Rattle.op_group.specs.Program.{columns}
use Rattle.op_group.proofs.columns.emit_columns.Given as goal

-- the columns that are left come next, where all were to come first
abbrev pub invariant-loop-at : goal.invariant-loop-at
invariant-loop-at l = record {
  made : (rest : List Move) → stages_after l.builder (columns (l.cols - l.at) (l.first.array + l.at) l.base l.gate l.first.row l.first.value l.bad l.words ++ rest)
      ≡ stages_after l.fn.builder (columns l.cols l.first.array l.first.base l.first.gate l.first.row l.first.value l.first.bad l.words ++ rest);
  base : l.base ≤ l.first.base + 23 * l.at;
}
