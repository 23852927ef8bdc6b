-- The rows of two sides among all, and the words that are among different ones.
use Rattle.std.proofs.Common.{◌≡◌, ◌+◌, ◌≤◌, ◌==◌, Bool, true, false, cond, ◌||◌, List, [], ◌∷◌, map, filter, length, refl, ap, sym, ◌∙◌, arith, inl, inr, ℤ}
use Rattle.std.specs.List.{list_any}
use Rattle.std.specs.Ordering.{int_cmp, is_eq}
use Rattle.std.proofs.lemmas.Bool.{cases_Bool}
use Rattle.std.proofs.lemmas.Bool.Decides.{nat_tests}
use Rattle.std.proofs.lemmas.List.{length-map}
use Rattle.ch_lists.specs.Ordered.{is_among, once, SameBag}
use Rattle.ch_lists.proofs.Bags.{any_same}
use Rattle.ch_lists.proofs.Different.{among-In, among-from, once-In, once-from}
use Rattle.ch_lists.proofs.Orders.{ints_exact}
use Rattle.ch_cover.specs.Rows.{Row}
use Rattle.ch_pred.specs.declared.bound.Bound.{Bound}
use Rattle.ch_words.specs.Rows.{row_seen, side_seen}

two_sides : (rows : List Row) → length (filter (λ r. r.side == 0) rows) + length (filter (λ r. r.side == 1) rows) ≤ length rows
two_sides [] = omega arith
two_sides (r ∷ rows) = go (r.side == 0) (r.side == 1) apart (two_sides rows)
  where
    apart : (r.side == 0) ≡ true → (r.side == 1) ≡ true → ⊥
    apart e f = absurd (grind (arith, nat_tests))

    go : (t u : Bool) → (t ≡ true → u ≡ true → ⊥) → length (filter (λ q. q.side == 0) rows) + length (filter (λ q. q.side == 1) rows) ≤ length rows
        → length (cond t (r ∷ filter (λ q. q.side == 0) rows) (filter (λ q. q.side == 0) rows)) + length (cond u (r ∷ filter (λ q. q.side == 1) rows) (filter (λ q. q.side == 1) rows)) ≤ length (r ∷ rows)
    go true true not h = absurd (not refl refl)
    go true false not h = omega (arith, h)
    go false true not h = omega (arith, h)
    go false false not h = omega (arith, h)

-- no more rows are of the two sides than came
pub sides_short : (b : Bound) (rows : List Row) → length (side_seen b 0 rows) + length (side_seen b 1 rows) ≤ length rows
sides_short b rows = omega (arith, two_sides rows, length-map (filter (λ (r : Row). r.side == 0) rows) (row_seen b), length-map (filter (λ (r : Row). r.side == 1) rows) (row_seen b))

pub once_short : (xs : List ℤ) → length (once int_cmp xs) ≤ length xs
once_short [] = omega arith
once_short (x ∷ xs) = go (is_among int_cmp x xs) (once_short xs)
  where
    go : (t : Bool) → length (once int_cmp xs) ≤ length xs → length (cond t (once int_cmp xs) (x ∷ once int_cmp xs)) ≤ length (x ∷ xs)
    go true h = omega (arith, h)
    go false h = omega (arith, h)

among_once : (x : ℤ) (xs : List ℤ) → is_among int_cmp x (once int_cmp xs) ≡ is_among int_cmp x xs
among_once x xs = elim (cases_Bool (is_among int_cmp x xs)) [
  | inl t ↦ among-from int_cmp ints_exact x (once int_cmp xs) (once-from int_cmp ints_exact x xs (among-In int_cmp ints_exact x xs t)) ∙ sym t
  | inr f ↦ elim (cases_Bool (is_among int_cmp x (once int_cmp xs))) [
    | inl t ↦ absurd (cc (among-from int_cmp ints_exact x xs (once-In int_cmp ints_exact x xs (among-In int_cmp ints_exact x (once int_cmp xs) t)), f))
    | inr g ↦ g ∙ sym f
  ]
]

-- a word is among the different ones where it is among all
pub among_different : (x : ℤ) (kept xs : List ℤ) → SameBag kept (once int_cmp xs) → is_among int_cmp x kept ≡ is_among int_cmp x xs
among_different x kept xs h = any_same (λ y. is_eq (int_cmp x y)) kept (once int_cmp xs) h ∙ among_once x xs

pub any-map : {X Y : Type 0} (p : Y → Bool) (g : X → Y) (xs : List X) → list_any p (map g xs) ≡ list_any (λ x. p (g x)) xs
any-map p g [] = refl
any-map p g (x ∷ xs) = ap (λ t. p (g x) || t) (any-map p g xs)
