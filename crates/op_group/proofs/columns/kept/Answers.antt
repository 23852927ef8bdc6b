use Rattle.std.proofs.Common.{List, [], ◌∷◌, ◌++◌, ◌∙◌, ap, sym}
use Rattle.ch_ir.specs.declared.program.Update.{Update}
use Rattle.ch_ir.specs.declared.program.Update.TheVariants.{Keep}
use Rattle.op_moves.proofs.Alike.{replicate_push}
use Rattle.op_group.proofs.columns.kept.Goals as goal

pub loop-at-preserved : goal.loop-at-preserved
loop-at-preserved c =
    c.in_ok-push.ensures.ok ∙ (ap (λ (xs : List Update). xs ++ Keep ∷ []) c.loop-at.invariant ∙ sym (replicate_push {X = Update} c.loop-at.at Keep))
