use Rattle.std.proofs.Common.{◌≡◌, ℕ, suc, ◌+◌, ◌∙◌, ap, List, ◌∷◌, ◌++◌, length, sym, arith}
use Rattle.std.specs.Prelude.{◌-◌}
use Rattle.op_moves.specs.Built.{stages_after}
use Rattle.op_moves.specs.Moves.{Move, Reach}
use Rattle.op_group.specs.Program.{column, columns, told}
use Rattle.op_group.proofs.columns.emit_columns.Goals as goal

pub loop-at-preserved : goal.loop-at-preserved
loop-at-preserved c =
    let p = c.args.first in
    let n : ℕ = length c.args.words.now in
    let i : ℕ = c.loop-at.at in
    let base : ℕ = c.loop-at.base in
    let keys = c.requires.keys in
    let less = c.loop-at-test.true in
    let low = c.loop-at.invariant.base in
    let left : c.args.cols - i ≡ suc (c.args.cols - (i + 1)) = omega arith in
    let same : c.args.cols - i - 1 ≡ c.args.cols - (i + 1) = omega arith in
    record {
      made = λ rest.
          let tail : (array : ℕ) → List Move = λ array. columns (c.args.cols - (i + 1)) array (base + n + 7) (base + n + 6) p.row p.value (base + n + 5) c.args.words.now ++ rest in
          ap (λ (array : ℕ). stages_after c.emit_column.new.builder (tail array)) (omega arith)
          ∙ (c.in_ok-emit_column.ensures (tail (p.array + i + 1))
          ∙ (ap (λ (m : ℕ). stages_after c.loop-at.builder (Reach (column m (p.array + i) base c.loop-at.gate p.row p.value c.args.words.now) ∷ told n base c.loop-at.gate p.value c.loop-at.bad ++ tail (p.array + i + 1))) same
          ∙ (ap (λ (m : ℕ). stages_after c.loop-at.builder (columns m (p.array + i) base c.loop-at.gate p.row p.value c.loop-at.bad c.args.words.now ++ rest)) (sym left)
          ∙ c.loop-at.invariant.made rest)));
      base = omega arith;
    }
