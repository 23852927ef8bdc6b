use Rattle.std.proofs.Common.{◌∙◌, ◌∷◌, ◌++◌, [], ap, sym, take}
use Rattle.std.proofs.lemmas.List.{take_more}
use Rattle.std.proofs.lemmas.Option.{get_or_from_slice_get, slice_get_within}
use Rattle.ch_bind.proofs.shape.kinds_of.Goals as goal

pub loop-col-preserved : goal.loop-col-preserved
loop-col-preserved c =
    let kinds = c.args.table.now.kinds in
    let k = c.kind.result in
    let at = c.loop-col.col in
    c.in_ok-push.ensures.ok
    ∙ (ap (λ ks. ks ++ k ∷ []) c.loop-col.invariant
    ∙ sym (take_more kinds at k (slice_get_within kinds at k c.kind.ensures) ∙ ap (λ x. take at kinds ++ x ∷ []) (get_or_from_slice_get kinds at k k c.kind.ensures)))
