use Rattle.std.proofs.Common.{◌≡◌, ℕ, suc, ◌+◌, ◌∙◌, ap, ap₂, List, ◌∷◌, ◌++◌, length, sym, arith}
use Rattle.std.specs.Prelude.{◌-◌}
use Rattle.ch_ir.specs.declared.program.Operand.{Operand}
use Rattle.op_moves.specs.Built.{stages_after}
use Rattle.op_moves.specs.Moves.{Move, Compute, Reach}
use Rattle.op_cache.specs.Emitted.{column, columns, gate_op, words_from}
use Rattle.op_cache.proofs.columns.emit_columns.Goals as goal

pub loop-column-preserved : goal.loop-column-preserved
loop-column-preserved c =
    let p = c.args.place in
    let n : ℕ = length c.args.words.now in
    let i : ℕ = c.loop-column.column in
    let base : ℕ = c.loop-column.base in
    let keys = c.requires.keys in
    let less = c.loop-column-test.true in
    let low = c.loop-column.invariant.base in
    let carried : List Operand = c.loop-column.carried in
    let left : p.cols - i ≡ suc (p.cols - (i + 1)) = omega arith in
    record {
      made = λ rest.
          let tail : (array : ℕ) (xs : List Operand) → List Move = λ array xs. columns (p.cols - (i + 1)) array (base + n + 3) (base + n + 2) p.row c.args.words.now xs ++ rest in
          ap₂ (λ (array : ℕ) (xs : List Operand). stages_after c.emit_column.new.builder (tail array xs)) (omega arith) c.in_ok-carried.ensures
          ∙ (c.in_ok-emit_column.ensures (tail (p.array + i + 1) (words_from base (n + 1)))
          ∙ (ap₂ (λ (m : ℕ) (xs : List Operand). stages_after c.loop-column.builder (columns m (p.array + i) base c.loop-column.gate p.row c.args.words.now xs ++ rest)) (sym left) c.as_slice.ensures
          ∙ c.loop-column.invariant.made rest));
      base = omega arith;
    }
