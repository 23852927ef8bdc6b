-- What Having prunes in the second pass has a key whose exact sum over the first isn't above.
use Rattle.std.proofs.Common.{◌≡◌, ℕ, zero, suc, eqb, eq-eqb, ℤ, pos, ◌+ℤ◌, ◌≤ℤ◌, ◌<ℤ◌, int_le, Bool, true, false, cond, not, ◌&&◌, List, [], ◌∷◌, ◌++◌, map, filter, refl, sym, ◌∙◌, ap, inl, inr, arith}
use Rattle.std.specs.Int.{int_min}
use Rattle.std.specs.Ordering.{int_cmp, is_eq}
use Rattle.std.specs.Cmp.Lexicographic.{slice_cmp}
use Rattle.std.proofs.lemmas.Bool.{cases_Bool, or_cases, and_parts}
use Rattle.std.proofs.lemmas.Int.{ints, clamps}
use Rattle.ch_lists.proofs.Orders.{ints_exact, lists_exact, eq_exact}
use Rattle.ch_cover.specs.Rows.{Row, AreRows}
use Rattle.ch_pred.specs.Meaning.{total}
use Rattle.ch_pred.specs.declared.bound.Bound.{Bound}
use Rattle.ch_words.specs.Rows.{Gate, is_gated}
use Rattle.ch_words.specs.Prunable.{open_rows, key_total, is_summed, PrunesSmall}
use Rattle.op_having.specs.declared.sizes.Sizes.{Sizes}
use Rattle.op_having.specs.Policy.{key_of, amount_at, cell_of, shares, cell_sum, largest, least, estimate, prunes}

-- an estimate that isn't above comes from a sum that isn't
low_sum : (sums : ℕ → ℤ) (n : ℕ) (above : ℤ) → int_le largest above ≡ false → int_le (least sums n) above ≡ true → (i : ℕ) × (sums i ≤ℤ above)
low_sum sums zero above high low = absurd cc
low_sum sums (suc i) above high low = elim (cases_Bool (int_le (least sums i) above)) [
  | inl more ↦ low_sum sums i above high more
  | inr over ↦
      let less : above <ℤ largest = grind (arith, ints) in
      let e : above <ℤ least sums i = grind (arith, ints) in
      let l : int_min (int_min largest (sums i)) (least sums i) ≤ℤ above = grind (arith, ints) in
      (i, omega (arith, ints, clamps))
]

abbrev history : List Row → List Row → List (ℕ × Row)
history second first = map (λ y. (2, y)) second ++ map (λ y. (1, y)) first

-- the rows of the first pass that share a cell
abbrev in_first : Sizes → ℕ → ℕ → List Row → List Row
in_first d i c first = filter (λ y. shares d i c (1, y)) first

one_more : (d : Sizes) (b : Bool) (pass : ℕ) (x : Row) (xs : List (ℕ × Row)) (ys : List Row)
    → total (map (λ y. amount_at d.value y.1) xs) ≡ total (map (amount_at d.value) ys)
    → total (map (λ y. amount_at d.value y.1) (cond b ((pass, x) ∷ xs) xs)) ≡ total (map (amount_at d.value) (cond b (x ∷ ys) ys))
one_more d true pass x xs ys e = ap (λ (z : ℤ). amount_at d.value x +ℤ z) e
one_more d false pass x xs ys e = e

-- a cell's sum is over the first pass alone
cell_is : (d : Sizes) (second first : List Row) (i c : ℕ) → cell_sum d (history second first) i c ≡ total (map (amount_at d.value) (in_first d i c first))
cell_is d [] [] i c = refl
cell_is d [] (x ∷ first) i c =
    one_more d (shares d i c (1, x)) 1 x (filter (shares d i c) (history [] first)) (in_first d i c first) (cell_is d [] first i c)
cell_is d (y ∷ second) first i c = cell_is d second first i c

le_true : (v : ℤ) → int_le (pos 0) v ≡ true → pos 0 ≤ℤ v
le_true v h = grind (arith, ints)

at_most : (v above : ℤ) → v ≤ℤ above → int_le v above ≡ true
at_most v above h = grind (arith, ints)

chain : (a b c above : ℤ) → a ≤ℤ b → c ≡ b → c ≤ℤ above → a ≤ℤ above
chain a b c above h e l = omega (arith, ints)

add : (v w u z : ℤ) → v ≡ u → w ≤ℤ z → (v +ℤ w) ≤ℤ (u +ℤ z)
add v w u z e l = omega (arith, ints)

module _ (d : Sizes) (high : int_le largest d.above ≡ false) (gate : Gate) (b : Bound) (key : Row → List ℤ) (value : Row → ℤ)
    (own_key : (r x : Row) → key r ≡ key x → key_of d x ≡ key_of d r) (own : (r : Row) → amount_at d.value r ≡ value r) where
  -- a key's exact sum is at most that of each of its cells
  total_le : (r : Row) (i : ℕ) (rows : List Row) → AreRows (is_summed gate b value) rows
      → key_total key value rows (key r) ≤ℤ total (map (amount_at d.value) (in_first d i (cell_of d i (key_of d r)) rows))
  total_le r i [] are = omega (arith, ints)
  total_le r i (x ∷ rows) are = go x.bit (is_eq (slice_cmp int_cmp (key r) (key x))) refl (total_le r i rows (λ y j. are y (inr j)))
    where
      counted : List Row
      counted = in_first d i (cell_of d i (key_of d r)) rows

      has_cell : Bool
      has_cell = eqb (cell_of d i (key_of d x)) (cell_of d i (key_of d r))

      positive : pos 0 ≤ℤ amount_at d.value x
      positive = le_true (amount_at d.value x) (ap (int_le (pos 0)) (own x) ∙ (and_parts (is_gated gate b x) (int_le (pos 0) (value x)) (are x (inl refl))).1)

      same_cell : is_eq (slice_cmp int_cmp (key r) (key x)) ≡ true → has_cell ≡ true
      same_cell e = eq-eqb (cell_of d i (key_of d x)) (cell_of d i (key_of d r)) (ap (cell_of d i) (own_key r x (eq_exact (slice_cmp int_cmp) (lists_exact int_cmp ints_exact) (key r) (key x) e)))

      more : (c : Bool) (w : ℤ) → w ≤ℤ total (map (amount_at d.value) counted) → w ≤ℤ total (map (amount_at d.value) (cond c (x ∷ counted) counted))
      more true w l = let p = positive in omega (arith, ints)
      more false w l = l

      go : (t e : Bool) → is_eq (slice_cmp int_cmp (key r) (key x)) ≡ e → key_total key value rows (key r) ≤ℤ total (map (amount_at d.value) counted)
          → total (map value (filter (λ y. is_eq (slice_cmp int_cmp (key r) (key y))) (cond t (x ∷ open_rows rows) (open_rows rows)))) ≤ℤ total (map (amount_at d.value) (cond (t && has_cell) (x ∷ counted) counted))
      go false e f ih = ih
      go true true f ih = rw (f, same_cell f) (add (value x) (key_total key value rows (key r)) (amount_at d.value x) (total (map (amount_at d.value) counted)) (sym (own x)) ih)
      go true false f ih = rw f (more has_cell (key_total key value rows (key r)) ih)

  pub prunes_small : PrunesSmall (is_summed gate b value) key value d.above (prunes d)
  prunes_small r second first are set p = elim (or_cases (not r.bit) (int_le (estimate d (history second first) (key_of d r)) d.above) p) [
    | inl shut ↦ absurd (cc (shut, set))
    | inr low ↦
        let k : List ℤ = key_of d r in
        let l = low_sum (λ i. cell_sum d (history second first) i (cell_of d i k)) d.hashes d.above high low in
        let c : ℕ = cell_of d l.0 k in
        at_most (key_total key value first (key r)) d.above
        (chain (key_total key value first (key r)) (total (map (amount_at d.value) (in_first d l.0 c first))) (cell_sum d (history second first) l.0 c) d.above (total_le r l.0 first are) (cell_is d second first l.0 c) l.1)
  ]
