-- A sort of elements by what they stand for gives the order of what they stand for.
use Rattle.std.proofs.Common.{◌≡◌, ℕ, zero, suc, ◌+◌, ◌<◌, ◌≤◌, false, Bool, List, [], ◌∷◌, map, length, get_or, ap, arith, rules}
use Rattle.std.specs.Prelude.{IsPermutation, IsSorted}
use Rattle.std.specs.declared.cmp.Ordering.{Ordering}
use Rattle.std.specs.List.Sorted.{IsSortedBy, IsSortedByClosure}
use Rattle.std.specs.Fn.{Called}
use Rattle.std.proofs.lemmas.Fn.{always_returns_same}
use denote.Param.Members.{Mut}
use denote.Ref.{Bor}
use Rattle.std.specs.Ordering.{is_lt}
use Rattle.std.proofs.lemmas.List.Sorted.{IsPermutation-map, ranks_by}
use Rattle.ch_lists.specs.Ordered.{ordered, IsExactOrder}
use Rattle.ch_lists.proofs.Sorting.{sorted_is_ordered}

module _ {K X : Type 0} (cmp : X → X → Ordering) (o : IsExactOrder cmp) (f : K → X) where
  abbrev before : K → K → Bool
  before a b = is_lt (cmp (f a) (f b))

  sorted_map : (ks : List K) → IsSortedBy before ks → IsSorted cmp (map f ks)
  sorted_map [] s = λ k d l h. absurd (omega arith)
  sorted_map (x ∷ []) s = λ k d l h. absurd (omega arith)
  sorted_map (x ∷ y ∷ ks) s = step (sorted_map (y ∷ ks) (λ i d low h. let t = s (i + 1) d (omega arith) (omega arith) in search (rules, t)))
    where
      step : IsSorted cmp (map f (y ∷ ks)) → (k : ℕ) (d : X) → 0 ≤ k → k + 1 < length (map f (x ∷ y ∷ ks)) → is_lt (cmp (get_or (map f (x ∷ y ∷ ks)) (k + 1) d) (get_or (map f (x ∷ y ∷ ks)) k d)) ≡ false
      step rest zero d l h = s 0 x (omega arith) (omega arith)
      step rest (suc k) d l h = let e : suc k + 1 ≡ suc (k + 1) = omega arith in rw e (rest k d (omega arith) (omega arith))

  pub sorted_by : (ks ls : List K) → IsPermutation ks ls → IsSortedBy before ls → map f ls ≡ ordered cmp (map f ks)
  sorted_by ks ls p s = sorted_is_ordered cmp o (map f ks) (map f ls) (IsPermutation-map f ks ls p) (sorted_map ls s)

  -- what `sort_unstable_by` gives, where each call compares what the two elements stand for
  pub sorted_by_closure : {F : Type 0} {g : Mut F (Bor K × (Bor K × Unit {0})) Ordering} {called : F} (ks ls : List K) → IsPermutation ks ls → IsSortedByClosure g called ls
      → ((a : Bor K × (Bor K × Unit {0})) (r : Ordering) (after : F) → Called g called a r after → (r ≡ cmp (f a.0.now) (f a.1.0.now)) × (after ≡ called)) → map f ls ≡ ordered cmp (map f ks)
  sorted_by_closure {g = g} {called = called} ks ls p sorted h = sorted_by ks ls p (sorted before (ranks_by o.total f)
      (always_returns_same g (λ a r. is_lt r ≡ before a.0.now a.1.0.now) called (λ a r after k. (ap is_lt (h a r after k).0, (h a r after k).1))))
