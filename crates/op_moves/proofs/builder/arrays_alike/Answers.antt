use Rattle.std.proofs.Common.{List, [], ◌∷◌, ◌++◌, ◌∙◌, ap, sym}
use Rattle.ch_ir.specs.declared.program.Array.{Array}
use Rattle.op_moves.proofs.Alike.{replicate_push}
use Rattle.op_moves.proofs.builder.arrays_alike.Goals as goal

pub loop-index-preserved : goal.loop-index-preserved
loop-index-preserved c =
    let x : Array = record { entries = c.args.entries; cells = c.args.cells } in
    c.in_ok-push.ensures.ok ∙ (ap (λ (xs : List Array). xs ++ x ∷ []) c.loop-index.invariant ∙ sym (replicate_push c.loop-index.index x))
