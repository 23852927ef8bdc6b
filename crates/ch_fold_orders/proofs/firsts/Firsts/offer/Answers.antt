use Rattle.std.proofs.lemmas.List.Sorted.{length_permutation}
use Rattle.std.proofs.Common.{IsPermutation, ◌≡◌, ◌∷◌, true, false, take, map, subst, sym, ap, ◌∙◌, arith}
use Rattle.std.specs.BinaryHeap.{heap_items}
use Rattle.std.specs.Ordering.{int_cmp, is_lt}
use Rattle.std.specs.Cmp.Lexicographic.{slice_cmp}
use Rattle.ch_lists.specs.Ordered.{ordered}
use Rattle.ch_keys.specs.Keys.{items_of}
use Rattle.ch_fold_orders.specs.Firsts.{Bounded}
use Rattle.ch_fold_orders.proofs.FirstLaws.{passed, pushed, replaced, top_not_below}
use Rattle.ch_fold_orders.proofs.firsts.Firsts.offer.Goals.{in-Some-2, in-None-2}
use Rattle.ch_fold_orders.proofs.firsts.Firsts.offer.Goals as goal

pub returns-then-len-self-clause-ok : goal.returns-then-len-self-clause-ok
returns-then-len-self-clause-ok c =
    let heap = heap_items c.self.inside.heap in
    let seen : record { limit = c.self.inside.limit; rows = map items_of heap } ≡ c.args.self.now = cc in
    subst (λ (f : Bounded). ordered (slice_cmp int_cmp) (map items_of (heap_items c.push.new.self)) ≡ take f.limit (ordered (slice_cmp int_cmp) (c.args.row.items ∷ f.rows))) seen
    (pushed c.self.inside.limit c.args.row heap (heap_items c.push.new.self) (omega arith) c.in_ok-push.ensures.permutation)

pub returns-then-not-is_lt-clause-ok : goal.returns-then-not-is_lt-clause-ok
returns-then-not-is_lt-clause-ok c =
    let heap = heap_items c.self.inside.heap in
    let last = c.in-Some.last.now in
    let row = c.args.row in
    let seen : record { limit = c.self.inside.limit; rows = map items_of heap } ≡ c.args.self.now = cc in
    let above : is_lt (slice_cmp int_cmp row.items last.items) ≡ false = ap is_lt (sym c.cmp.ensures) ∙ (sym c.is_lt.ensures ∙ c.if-not-is_lt.true) in
    sym (subst (λ (f : Bounded). take f.limit (ordered (slice_cmp int_cmp) (row.items ∷ f.rows)) ≡ ordered (slice_cmp int_cmp) f.rows) seen
    (passed c.self.inside.limit row.items last heap (omega arith) (c.in-Some.ensures.greatest c.self.invariant.0) above))

pub returns-in_ok-push-in-Some-pop-clause-ok : goal.returns-in_ok-push-in-Some-pop-clause-ok
returns-in_ok-push-in-Some-pop-clause-ok c =
    let heap = heap_items c.self.inside.heap in
    let last = c.in-Some.last.now in
    let row = c.args.row in
    let top = c.in-Some-pop.field-0 in
    let rest = heap_items c.pop.new.self in
    let new = heap_items c.push-in-Some-pop.new.self in
    let perm : IsPermutation heap (top ∷ rest) = c.in-Some-pop.ensures.permutation in
    let seen : record { limit = c.self.inside.limit; rows = map items_of heap } ≡ c.args.self.now = cc in
    let less : is_lt (slice_cmp int_cmp row.items last.items) ≡ true = ap is_lt (sym c.cmp.ensures) ∙ (sym c.is_lt.ensures ∙ c.if-not-is_lt.false) in
    let below = top_not_below heap last top row (omega (arith, length_permutation heap (top ∷ rest) perm)) c.in-Some.ensures.lookup c.in-Some-pop.ensures.top less in
    let made : ordered (slice_cmp int_cmp) (map items_of new) ≡ take c.args.self.now.limit (ordered (slice_cmp int_cmp) (row.items ∷ c.args.self.now.rows)) =
    subst (λ (f : Bounded). ordered (slice_cmp int_cmp) (map items_of new) ≡ take f.limit (ordered (slice_cmp int_cmp) (row.items ∷ f.rows))) seen
    (replaced c.self.inside.limit row top heap rest new (omega arith) perm (c.in-Some-pop.ensures.below_top c.self.invariant.0) below c.in_ok-push-in-Some-pop.ensures.permutation) in
    elim c.match-this.branch [
      | in-Some-2 w ↦ ap (λ (f : Bounded). ordered (slice_cmp int_cmp) f.rows) w.self-is ∙ made
      | in-None-2 w ↦ ap (λ (f : Bounded). ordered (slice_cmp int_cmp) f.rows) w.self-is ∙ made
    ]
