use Rattle.std.proofs.Common.{◌≡◌, List, [], ◌++◌, ◌∙◌}
use Rattle.std.proofs.lemmas.Result.{IfOk-weaker}
use Rattle.ch_ir.specs.declared.program.Stage.{Stage}
use Rattle.op_moves.specs.Built.{stages_after}
use Rattle.op_moves.specs.Moves.{staged}
use Rattle.op_semi.specs.Program.{after_bloom, after_lists, list_moves, moves_of}
use Rattle.op_semi.proofs.emitting.stages.Goals as goal

pub returns : goal.returns
returns c =
    let d = c.args.sizes in
    IfOk-weaker c.finish.result (λ (stages : List Stage). stages ≡ stages_after c.make_verdict.new.builder []) (λ stages. stages ≡ staged [] (moves_of d)) (λ stages h.
    h ∙ (c.in_ok-make_verdict.ensures [] ∙ (c.in_ok-make_lists.ensures (after_lists d) ∙ (c.in_ok-make_firsts.ensures (list_moves d ++ after_lists d)
    ∙ (c.in_ok-bad.ensures.made (after_bloom d) ∙ c.new-builder.ensures (moves_of d)))))) c.finish.ensures
