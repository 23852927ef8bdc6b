use Rattle.std.proofs.Common.{◌+◌, ℕ, List, [], ◌∷◌, ◌++◌, ◌∙◌, ap, ◌≡◌}
use Rattle.std.proofs.lemmas.Result.{IfOk-weaker}
use Rattle.ch_ir.specs.declared.program.Operand.TheVariants.{Word}
use Rattle.ch_ir.specs.declared.program.Binary.TheVariants as binary
use Rattle.ch_ir.specs.declared.program.Op.TheVariants.{Two}
use Rattle.ch_ir.specs.declared.program.Stage.{Stage}
use Rattle.op_moves.specs.Built.{stages_after}
use Rattle.op_moves.specs.Moves.{Move, Compute, staged}
use Rattle.op_having.specs.Program.{last_op, moves_of, sweep, verdict_of}
use Rattle.op_having.proofs.emitting.stages.Goals as goal

pub returns : goal.returns
returns c =
    let d = c.args.sizes.now in
    let last : Move = Compute (last_op d) in
    let hashes : List Move = sweep d d.hashes 0 (d.width + 3) (d.width + 1) in
    IfOk-weaker c.finish.result (λ (stages : List Stage). stages ≡ stages_after c.compute.new.self []) (λ stages. stages ≡ staged [] (moves_of d)) (λ stages h.
    h ∙ (c.in_ok-compute.ensures []
    ∙ (ap (λ (bad : ℕ). stages_after c.make_hashes.new.builder (Compute (Two (verdict_of d) binary.Le (Word d.width) (Word bad)) ∷ [])) c.in_ok-bad.ensures.bad
    ∙ (c.in_ok-bad.ensures.made (last ∷ [])
    ∙ (c.in_ok-make_firsts.ensures (hashes ++ last ∷ []) ∙ c.new-builder.ensures (moves_of d)))))) c.finish.ensures
