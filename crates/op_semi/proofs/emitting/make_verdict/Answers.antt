use Rattle.std.proofs.Common.{◌+◌, ℕ, ◌∷◌, ◌∙◌, ap}
use Rattle.std.proofs.lemmas.Result.{on_ok_weaker}
use Rattle.ch_ir.specs.declared.program.Operand.TheVariants.{Word}
use Rattle.ch_ir.specs.declared.program.Binary.TheVariants as binary
use Rattle.ch_ir.specs.declared.program.Op.TheVariants.{Two}
use Rattle.op_moves.specs.Built.{stages_after}
use Rattle.op_moves.specs.Moves.{Move, Compute}
use Rattle.op_bloom.specs.Program.{end_of}
use Rattle.op_semi.specs.Program.{last_of, verdict_op}
use Rattle.op_semi.proofs.emitting.make_verdict.Goals as goal

pub returns : goal.returns
returns c = on_ok_weaker c.compute-2.result (λ h. λ rest.
    let d = c.args.sizes in
    let move2 : Move = Compute (verdict_op d) in
    h rest ∙ (c.in_ok-compute.ensures (move2 ∷ rest)
    ∙ ap (λ (fresh : ℕ). stages_after c.args.builder.now (Compute (Two (last_of d) binary.Lt (Word fresh) (Word (end_of d.bloom + 2))) ∷ move2 ∷ rest)) c.gate_after-fresh.ensures)) c.compute-2.ensures
