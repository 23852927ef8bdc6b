use Rattle.std.proofs.Common.{◌≡◌, ◌∷◌, ◌<ℤ◌, pos, true, take, map, subst, sym, ap, ap₂, ◌∙◌, arith, w64}
use Rattle.std.specs.Prelude.{slice_index_or, int_lt}
use Rattle.std.specs.BinaryHeap.{heap_items}
use Rattle.std.specs.Ordering.{int_cmp}
use Rattle.std.specs.Cmp.Lexicographic.{slice_cmp}
use Rattle.std.proofs.lemmas.Int.{ints, to_z-of_z}
use mir.Val.{SFits}
use Rattle.ch_lists.specs.Ordered.{ordered}
use Rattle.ch_keys.specs.Keys.{items_of}
use Rattle.ch_fold_orders.specs.Firsts.{Bounded}
use Rattle.ch_fold_orders.proofs.FirstLaws.{later, passed}
use Rattle.ch_fold_orders.proofs.firsts.Firsts.is_beyond.Goals as goal

pub returns-in-Some : goal.returns-in-Some
returns-in-Some c = λ lt line.
    let heap = heap_items c.self.inside.heap in
    let first = c.args.first in
    let last = c.in-Some.last.now in
    let seen : record { limit = c.self.inside.limit; rows = map items_of heap } ≡ c.args.self.now = cc in
    let word : SFits w64 c.word_at.result = record { sfits = c.word_at.type_inv } in
    let less : int_lt c.word_at.result first ≡ true = sym (ap₂ int_lt (to_z-of_z w64 c.word_at.result word) (to_z-of_z w64 first c.ranges.first)) ∙ lt in
    let here : c.word_at.result ≡ slice_index_or last.items 0 (pos 0) = c.word_at.ensures ∙ ap (λ ws. slice_index_or ws 0 (pos 0)) c.as_slice.ensures.value in
    let tested : int_lt (slice_index_or last.items 0 (pos 0)) first ≡ true = ap (λ w. int_lt w first) (sym here) ∙ less in
    let below : slice_index_or last.items 0 (pos 0) <ℤ first = grind (arith, ints, tested) in
    subst (λ (f : Bounded). take f.limit (ordered (slice_cmp int_cmp) ((first ∷ line) ∷ f.rows)) ≡ ordered (slice_cmp int_cmp) f.rows) seen
    (passed c.self.inside.limit (first ∷ line) last heap (omega arith) (c.in-Some.ensures.greatest c.self.invariant.0) (later first line last.items below))
