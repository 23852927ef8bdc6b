use Rattle.std.proofs.Common.{◌+◌, ℕ, List, ◌∷◌, ◌∙◌, ap}
use Rattle.std.proofs.lemmas.Result.{on_ok_weaker}
use Rattle.ch_ir.specs.declared.program.Operand.TheVariants.{Word}
use Rattle.ch_ir.specs.declared.program.Binary.TheVariants as binary
use Rattle.ch_ir.specs.declared.program.Op.TheVariants.{Hash, Two}
use Rattle.op_moves.specs.Built.{stages_after}
use Rattle.op_moves.specs.Moves.{Move, Compute}
use Rattle.op_bloom.specs.Program.{end_of}
use Rattle.op_semi.specs.Program.{inner_op, row_op}
use Rattle.op_semi.proofs.emitting.make_firsts.Goals as goal

pub returns : goal.returns
returns c = on_ok_weaker c.compute-3.result (λ h. λ rest.
    let d = c.args.sizes in
    let move3 : Move = Compute (inner_op d) in
    let move2 : Move = Compute (row_op d) in
    h rest ∙ (c.in_ok-compute-2.ensures (move3 ∷ rest)
    ∙ (ap (λ (words : List ℕ). stages_after c.compute.new.self (Compute (Hash (end_of d.bloom + 1) 0 d.rows words) ∷ move3 ∷ rest)) c.in_ok-key.ensures
    ∙ (c.in_ok-compute.ensures (move2 ∷ move3 ∷ rest)
    ∙ ap (λ (bad : ℕ). stages_after c.args.builder.now (Compute (Two (end_of d.bloom) binary.Lt (Word bad) (Word d.bloom.width)) ∷ move2 ∷ move3 ∷ rest)) c.requires.bad)))) c.compute-3.ensures
