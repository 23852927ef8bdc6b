use Rattle.std.proofs.Common.{◌+◌, ◌∷◌, ◌∙◌, ap, ℤ, pos, w64, rules}
use Rattle.std.proofs.lemmas.Int.{to_z-of_z}
use Rattle.std.proofs.lemmas.Result.{on_ok_weaker}
use Rattle.ch_ir.specs.declared.program.Operand.{Operand}
use Rattle.ch_ir.specs.declared.program.Operand.TheVariants.{Word, Const}
use Rattle.ch_ir.specs.declared.program.Binary.TheVariants as binary
use Rattle.ch_ir.specs.declared.program.Op.TheVariants.{Pick, Two}
use Rattle.op_moves.specs.Built.{stages_after}
use Rattle.op_moves.specs.Moves.{Move, Compute}
use Rattle.op_bloom.specs.Program.{first_op, half_op, key_op, offset_op}
use Rattle.op_bloom.proofs.emitting.make_firsts.Goals as goal

pub returns : goal.returns
returns c = on_ok_weaker c.compute-5.result (λ h. λ rest.
    let d = c.args.sizes in
    let move5 : Move = Compute (offset_op d) in
    let move4 : Move = Compute (half_op d) in
    let move3 : Move = Compute (key_op d) in
    let move2 : Move = Compute (first_op d) in
    h rest ∙ (ap (λ (v : ℤ). stages_after c.compute-4.new.self (Compute (Pick (d.width + 4) (Word (d.width + 3)) (Const v) (Const (pos 0))) ∷ rest)) (to_z-of_z w64 c.from.result (search rules) ∙ c.from.ensures)
    ∙ (c.in_ok-compute-4.ensures (move5 ∷ rest) ∙ (c.in_ok-compute-3.ensures (move4 ∷ move5 ∷ rest)
    ∙ (c.in_ok-compute-2.ensures (move3 ∷ move4 ∷ move5 ∷ rest) ∙ (c.in_ok-compute.ensures (move2 ∷ move3 ∷ move4 ∷ move5 ∷ rest)
    ∙ ap (λ (bit : Operand). stages_after c.args.builder.now (Compute (Two d.width binary.Ne bit (Const (pos 0))) ∷ move2 ∷ move3 ∷ move4 ∷ move5 ∷ rest)) c.operand-bit.ensures)))))) c.compute-5.ensures
