use Rattle.std.proofs.Common.{◌≡◌, ℕ, List, [], ◌∷◌, ◌∙◌, ap}
use Rattle.std.proofs.lemmas.Result.{IfOk-weaker}
use Rattle.ch_ir.specs.declared.program.Operand.TheVariants.{Word}
use Rattle.ch_ir.specs.declared.program.Binary.TheVariants as binary
use Rattle.ch_ir.specs.declared.program.Op.TheVariants.{Two}
use Rattle.ch_ir.specs.declared.program.Stage.{Stage}
use Rattle.op_moves.specs.Built.{stages_after}
use Rattle.op_moves.specs.Moves.{Move, Compute, staged}
use Rattle.op_bloom.specs.Program.{end_of}
use Rattle.op_join.specs.Program.{moves_of, verdict_op}
use Rattle.op_join.proofs.emitting.stages.Goals as goal

pub returns : goal.returns
returns c =
    let d = c.args.sizes in
    let last : Move = Compute (verdict_op d) in
    IfOk-weaker c.finish.result (λ (stages : List Stage). stages ≡ stages_after c.compute.new.self []) (λ stages. stages ≡ staged [] (moves_of d)) (λ stages h.
    h ∙ (c.in_ok-compute.ensures []
    ∙ (ap (λ (bad : ℕ). stages_after c.make_filters.new.builder (Compute (Two (end_of d) binary.Le (Word d.width) (Word bad)) ∷ [])) c.in_ok-bad.ensures.bad
    ∙ (c.in_ok-bad.ensures.made (last ∷ []) ∙ c.new-builder.ensures (moves_of d))))) c.finish.ensures
