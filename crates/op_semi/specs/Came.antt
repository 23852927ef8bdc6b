-- A listed key came with a row, and the rows that passed are inner rows of the second pass.
use Rattle.std.proofs.Common.{◌≡◌, ℕ, zero, suc, eqb, eqb-true, Bool, true, false, cond, ◌&&◌, List, [], ◌∷◌, take, refl, sym, ◌∙◌, ap, inl, inr}
use Rattle.std.specs.Ordering.{int_cmp, is_eq}
use Rattle.std.specs.Cmp.Lexicographic.{slice_cmp}
use Rattle.std.proofs.lemmas.Bool.{or_cases, or_left, or_right}
use Rattle.ch_lists.specs.Members.{In}
use Rattle.ch_lists.specs.Ordered.{is_among}
use Rattle.ch_lists.proofs.Orders.{ints_exact, lists_exact, eq_exact}
use Rattle.ch_cover.specs.Rows.{Row}
use Rattle.ch_words.specs.Policies.{Key, without, touched, listed_after}
use Rattle.op_bloom.specs.Policy.{passes_bloom}
use Rattle.op_bloom.specs.Partners.{history}
use Rattle.op_semi.specs.declared.sizes.Sizes.{Sizes}
use Rattle.op_semi.specs.Policy.{passed}

abbrev among : Key → List Key → Bool
among = is_among (slice_cmp int_cmp)

among_taken : (n : ℕ) (x : Key) (ks : List Key) → among x (take n ks) ≡ true → among x ks ≡ true
among_taken zero x ks h = absurd cc
among_taken (suc n) x [] h = h
among_taken (suc n) x (k ∷ ks) h = elim (or_cases (is_eq (slice_cmp int_cmp x k)) (among x (take n ks)) h) [
  | inl e ↦ or_left (is_eq (slice_cmp int_cmp x k)) (among x ks) e
  | inr e ↦ or_right (is_eq (slice_cmp int_cmp x k)) (among x ks) (among_taken n x ks e)
]

among_without : (k x : Key) (ks : List Key) → among x (without k ks) ≡ true → among x ks ≡ true
among_without k x [] h = h
among_without k x (y ∷ ks) h = go (is_eq (slice_cmp int_cmp y k)) (among_without k x ks) h
  where
    go : (t : Bool) → (among x (without k ks) ≡ true → among x ks ≡ true) → among x (cond t ks (y ∷ without k ks)) ≡ true → among x (y ∷ ks) ≡ true
    go true ih h = or_right (is_eq (slice_cmp int_cmp x y)) (among x ks) h
    go false ih h = elim (or_cases (is_eq (slice_cmp int_cmp x y)) (among x (without k ks)) h) [
      | inl e ↦ or_left (is_eq (slice_cmp int_cmp x y)) (among x ks) e
      | inr e ↦ or_right (is_eq (slice_cmp int_cmp x y)) (among x ks) (ih e)
    ]

-- a row with the key is among some rows
abbrev pub Came : (Row → Key) → Key → List (ℕ × Row) → Type 0
Came key k rows = (y : ℕ × Row) × In y rows × (key y.1 ≡ k)

later : (key : Row → Key) (k : Key) (x : ℕ × Row) (rows : List (ℕ × Row)) → Came key k rows → Came key k (x ∷ rows)
later key k x rows c = (c.0, inr c.1, c.2)

pub listed_came : (cols : ℕ) (row : Key → ℕ) (key : Row → Key) (k : Key) (rows : List (ℕ × Row)) (at : ℕ) → among k (listed_after cols row key rows at) ≡ true → Came key k rows
listed_came cols row key k [] at h = absurd cc
listed_came cols row key k (x ∷ rows) at h = go (x.1.bit && eqb (row (key x.1)) at) (listed_came cols row key k rows at) h
  where
    lists : List Key
    lists = listed_after cols row key rows at

    go : (t : Bool) → (among k lists ≡ true → Came key k rows) → among k (cond t (touched cols (key x.1) lists) lists) ≡ true → Came key k (x ∷ rows)
    go true ih h = elim (or_cases (is_eq (slice_cmp int_cmp k (key x.1))) (among k (without (key x.1) lists)) (among_taken cols k (key x.1 ∷ without (key x.1) lists) h)) [
      | inl e ↦ (x, inl refl, sym (eq_exact (slice_cmp int_cmp) (lists_exact int_cmp ints_exact) k (key x.1) e))
      | inr e ↦ later key k x rows (ih (among_without (key x.1) k lists e))
    ]
    go false ih h = later key k x rows (ih h)

pub passed_second : (d : Sizes) (y : ℕ × Row) (second first : List Row) → In y (passed d (history second first)) → (y.1.side ≡ 1) × In y.1 second
passed_second d y [] [] h = absurd h
passed_second d y [] (x ∷ first) h = passed_second d y [] first h
passed_second d y (x ∷ second) first h = go (passed_second d y second first) (eqb x.side 1) refl (x.bit && passes_bloom d.bloom (history second first) x) h
  where
    rest : List (ℕ × Row)
    rest = passed d (history second first)

    go : (In y rest → (y.1.side ≡ 1) × In y.1 second) → (s : Bool) → eqb x.side 1 ≡ s → (p : Bool) → In y (cond (s && p) ((2, x) ∷ rest) rest) → (y.1.side ≡ 1) × In y.1 (x ∷ second)
    go ih false e p h = let r = ih h in (r.0, inr r.1)
    go ih true e false h = let r = ih h in (r.0, inr r.1)
    go ih true e true (inl t) = (ap (λ (z : ℕ × Row). z.1.side) t ∙ eqb-true x.side 1 e, inl (ap (λ (z : ℕ × Row). z.1) t))
    go ih true e true (inr i) = let r = ih i in (r.0, inr r.1)
