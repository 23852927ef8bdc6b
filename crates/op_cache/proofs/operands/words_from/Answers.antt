use Rattle.std.proofs.Common.{List, [], ◌∷◌, ◌++◌, ◌+◌, ◌∙◌, ap, sym}
use Rattle.ch_ir.specs.declared.program.Operand.{Operand}
use Rattle.ch_ir.specs.declared.program.Operand.TheVariants.{Word}
use Rattle.op_cache.specs.Run.{from_push}
use Rattle.op_cache.proofs.operands.words_from.Goals as goal

pub loop-at-preserved : goal.loop-at-preserved
loop-at-preserved c =
    c.in_ok-push.ensures.ok ∙ (ap (λ (xs : List Operand). xs ++ Word (c.args.to + c.loop-at.at) ∷ []) c.loop-at.invariant ∙ sym (from_push c.args.to c.loop-at.at))
