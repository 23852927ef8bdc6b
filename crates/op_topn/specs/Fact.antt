-- A row that is pruned has as many better rows before it as are printed.
use Rattle.std.proofs.Common.{◌≡◌, ℕ, zero, suc, ◌+◌, ◌≤◌, ltb, leb, ℤ, ◌≤ℤ◌, ◌<ℤ◌, int_lt, int_le, Bool, true, false, cond, not, ◌||◌, List, [], ◌∷◌, map, filter, reverse, length, take, drop, sum_by, refl, ap, sym, ◌∙◌, arith, inl, inr, leb-true, ltb-false, take-append-drop, length-take}
use Rattle.std.specs.declared.cmp.Ordering.TheVariants.{Less, Equal, Greater}
use Rattle.std.specs.Ordering.{int_cmp, is_lt}
use Rattle.std.proofs.lemmas.Bool.{or_cases, and_parts}
use Rattle.std.proofs.lemmas.Int.{ints, clamps}
use Rattle.std.proofs.lemmas.List.Sums.{sum_by-cons, sum_by-append}
use Rattle.std.proofs.lemmas.List.Sorted.{sum_by-IsPermutation, IsPermutation-reverse}
use Rattle.ch_lists.specs.Ordered.{directed}
use Rattle.ch_cover.specs.Rows.{Row}
use Rattle.ch_words.specs.Prunable.{PrunesBeaten, better_count, open_rows}
use Rattle.op_moves.specs.Values.{word_at}
use Rattle.op_topn.specs.Policy.{least, oriented, reached, some_step, step_prunes, threshold, top_policy, value_of, value_prunes, values}
use Rattle.op_topn.specs.declared.sizes.Sizes.{Sizes}

lt_true : (a b : ℤ) → int_lt a b ≡ true → a <ℤ b
lt_true a b h = grind (arith, ints)

le_true : (a b : ℤ) → a ≤ℤ b → int_le a b ≡ true
le_true a b h = grind (arith, ints)

reached-cons : (t v : ℤ) (vs : List ℤ) → reached t (v ∷ vs) ≡ cond (int_le t v) 1 0 + reached t vs
reached-cons t v vs = sum_by-cons (λ v. cond (int_le t v) 1 0) v vs

one_more : (t v : ℤ) (vs : List ℤ) → t ≤ℤ v → reached t (v ∷ vs) ≡ suc (reached t vs)
one_more t v vs l =
    let one : ◌≡◌ {A = ℕ} (cond (int_le t v) 1 0) 1 = ap (λ b. cond b 1 0) (le_true t v l) in
    omega (arith, reached-cons t v vs, one)

-- each value is at least the least
all_reach : (t : ℤ) (vs : List ℤ) → t ≤ℤ least vs → reached t vs ≡ length vs
all_reach t [] l = refl
all_reach t (v ∷ []) l = one_more t v [] l
all_reach t (v ∷ w ∷ vs) l =
    let m : t ≤ℤ least (w ∷ vs) = omega (arith, ints, clamps) in
    let here : t ≤ℤ v = omega (arith, ints, clamps) in
    one_more t v (w ∷ vs) here ∙ ap suc (all_reach t (w ∷ vs) m)

-- a bound above the value that n values reach
record IsBeaten (n : ℕ) (vs : List ℤ) (v : ℤ) : Type 0 where
  bound : ℤ
  below : v <ℤ bound
  many : n ≤ reached bound vs

reached-split : (t : ℤ) (n : ℕ) (vs : List ℤ) → reached t vs ≡ reached t (take n vs) + reached t (drop n vs)
reached-split t n vs = ap (reached t) (sym (take-append-drop n vs)) ∙ sum_by-append (λ v. cond (int_le t v) 1 0) (take n vs) (drop n vs)

beaten_by_step : (s : Sizes) (vs : List ℤ) (v : ℤ) (k : ℕ) → some_step s vs v k ≡ true → IsBeaten s.limit vs v
beaten_by_step s vs v zero h = absurd (cc)
beaten_by_step s vs v (suc k) h = elim (or_cases (step_prunes s vs v (suc k)) (some_step s vs v k) h) [
  | inr more ↦ beaten_by_step s vs v k more
  | inl this ↦
      let t : ℤ = threshold s vs (suc k) in
      let parts = and_parts (leb s.limit (reached t (drop s.limit vs))) (int_lt v t) this in
      let enough = leb-true s.limit (reached t (drop s.limit vs)) parts.0 in
      record { bound = t; below = lt_true v t parts.1; many = omega (arith, reached-split t s.limit vs, enough) }
]

beaten : (s : Sizes) (vs : List ℤ) (v : ℤ) → value_prunes s vs v ≡ true → IsBeaten s.limit vs v
beaten s vs v h =
    let n : ℕ = s.limit in
    let parts = and_parts (not (ltb (length vs) n)) (int_lt v (least (take n vs)) || some_step s vs v s.steps) h in
    elim (or_cases (int_lt v (least (take n vs))) (some_step s vs v s.steps) parts.1) [
      | inr step ↦ beaten_by_step s vs v s.steps step
      | inl low ↦
          let t : ℤ = least (take n vs) in
          let long = ltb-false (length vs) n (not_true (ltb (length vs) n) parts.0) in
          let first = all_reach t (take n vs) (self t) in
          record { bound = t; below = lt_true v t low; many = omega (arith, reached-split t n vs, first, length-take n vs, long) }
    ]
  where
    not_true : (b : Bool) → not b ≡ true → b ≡ false
    not_true true e = sym e
    not_true false e = refl

    self : (t : ℤ) → t ≤ℤ t
    self t = omega (arith, ints)

is_less : (a c : ℤ) → int_lt a c ≡ true → is_lt (int_cmp a c) ≡ true
is_less a c e = ap (λ t. is_lt (cond t Less (cond (int_lt c a) Greater Equal))) e

-- a value that reaches a bound above another is better
better : (descending : Bool) (t v w : ℤ) → int_le t (oriented descending w) ≡ true → oriented descending v <ℤ t → is_lt (directed descending int_cmp w v) ≡ true
better true t v w h l = is_less v w (grind (arith, ints))
better false t v w h l = is_less w v (grind (arith, ints))

abbrev in_first : List Row → List (ℕ × Row)
in_first rows = map (λ r. (1, r)) rows

-- the values of the rows before, the newest first
abbrev unturned : Sizes → List Row → List ℤ
unturned s rows = map (λ (x : ℕ × Row). value_of s x.1) (filter (λ (x : ℕ × Row). x.1.bit) (in_first rows))

module _ (s : Sizes) (value : Row → ℤ) (own : (r : Row) → word_at r s.value ≡ value r) where
  -- as many rows are better as values reach the bound
  reach_better : (t : ℤ) (r : Row) → value_of s r <ℤ t → (rows : List Row) → reached t (unturned s rows) ≤ better_count s.descending value r rows
  reach_better t r l [] = omega arith
  reach_better t r l (x ∷ rows) = go x.bit (reach_better t r l rows)
    where
      one : (b c : Bool) → (b ≡ true → c ≡ true) → cond {A = ℕ} b 1 0 ≤ cond c 1 0
      one true c h = omega (arith, ap (λ t. cond {A = ℕ} t 1 0) (h refl))
      one false c h = omega arith

      go : (b : Bool) → reached t (unturned s rows) ≤ better_count s.descending value r rows
          → reached t (map (λ (y : ℕ × Row). value_of s y.1) (cond b ((1, x) ∷ filter (λ (y : ℕ × Row). y.1.bit) (in_first rows)) (filter (λ (y : ℕ × Row). y.1.bit) (in_first rows))))
          ≤ sum_by (λ y. cond (is_lt (directed s.descending int_cmp (value y) (value r))) 1 0) (cond b (x ∷ open_rows rows) (open_rows rows))
      go true ih =
          omega (
            arith,
            ih,
            sum_by-cons (λ v. cond (int_le t v) 1 0) (value_of s x) (unturned s rows),
            sum_by-cons (λ y. cond (is_lt (directed s.descending int_cmp (value y) (value r))) 1 0) x (open_rows rows),
            one (int_le t (value_of s x)) (is_lt (directed s.descending int_cmp (value x) (value r)))
                (λ h. (λ i. is_lt (directed s.descending int_cmp ((sym (own x)) i) ((sym (own r)) i))) ∙ better s.descending t (word_at r s.value) (word_at x s.value) h l),
          )
      go false ih = ih

  pub top_fact : PrunesBeaten s.descending s.limit value (top_policy s)
  top_fact r before set p = elim (or_cases (not r.bit) (value_prunes s (values s (in_first before)) (value_of s r)) p) [
    | inl shut ↦ absurd (cc (shut, set))
    | inr low ↦
        let h = beaten s (values s (in_first before)) (value_of s r) low in
        omega (
          arith,
          h.many,
          sum_by-IsPermutation (λ v. cond (int_le h.bound v) 1 0) (unturned s before) (reverse (unturned s before)) (IsPermutation-reverse (unturned s before)),
          reach_better h.bound r h.below before,
        )
  ]
