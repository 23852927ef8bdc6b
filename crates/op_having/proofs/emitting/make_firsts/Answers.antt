use Rattle.std.proofs.Common.{◌+◌, ◌∷◌, ◌∙◌, ap, pos}
use Rattle.std.proofs.lemmas.Result.{on_ok_weaker}
use Rattle.ch_ir.specs.declared.program.Operand.{Operand}
use Rattle.ch_ir.specs.declared.program.Operand.TheVariants.{Word, Const}
use Rattle.ch_ir.specs.declared.program.Binary.TheVariants as binary
use Rattle.ch_ir.specs.declared.program.Op.TheVariants.{Pick, Two}
use Rattle.op_moves.specs.Built.{stages_after}
use Rattle.op_moves.specs.Moves.{Move, Compute}
use Rattle.op_having.specs.Program.{added_op, first_op}
use Rattle.op_having.proofs.emitting.make_firsts.Goals as goal

pub returns : goal.returns
returns c = on_ok_weaker c.compute-3.result (λ h. λ rest.
    let d = c.args.sizes.now in
    let move3 : Move = Compute (added_op d) in
    let move2 : Move = Compute (first_op d) in
    h rest ∙ (ap (λ (v : Operand). stages_after c.compute-2.new.self (Compute (Pick (d.width + 2) (Word (d.width + 1)) v (Const (pos 0))) ∷ rest)) c.value_operand-value.ensures
    ∙ (c.in_ok-compute-2.ensures (move3 ∷ rest) ∙ (c.in_ok-compute.ensures (move2 ∷ move3 ∷ rest)
    ∙ ap (λ (bit : Operand). stages_after c.args.builder.now (Compute (Two d.width binary.Ne bit (Const (pos 0))) ∷ move2 ∷ move3 ∷ rest)) c.operand-bit.ensures)))) c.compute-3.ensures
