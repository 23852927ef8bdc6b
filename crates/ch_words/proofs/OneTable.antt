-- The answer of one table over rows whose bit is their gate.
use Rattle.std.proofs.Common.{◌≡◌, ℕ, Bool, true, false, cond, eqb, eqb-true, List, [], ◌∷◌, map, filter, IsPermutation, refl, sym, ◌∙◌, ap, inl, inr}
use Rattle.std.specs.Prelude.{ℤ}
use Rattle.std.specs.Ordering.{int_cmp}
use Rattle.std.proofs.lemmas.Bool.{and_parts}
use Rattle.ch_lists.specs.Ordered.{SameBag}
use Rattle.ch_lists.proofs.Bags.{SameBag-permutation, SameBag-map, SameBag-filter}
use Rattle.ch_lists.proofs.Orders.{ints_exact}
use Rattle.ch_cover.specs.Rows.{Row, AreRows, same_bit}
use Rattle.ch_cover.proofs.Members.{same_bit-true}
use Rattle.ch_pred.specs.Values.{View}
use Rattle.ch_pred.specs.Meaning.{Asked, candidates, of_held, in_order}
use Rattle.ch_pred.specs.declared.bound.Bound.{Bound}
use Rattle.ch_pred.specs.declared.bound.Shape.{Shape}
use Rattle.ch_pred.specs.declared.bound.Shape.TheVariants as shape
use Rattle.ch_words.specs.Words.{Reading, asked_of_words}
use Rattle.ch_words.specs.Rows.{row_seen, side_seen, answer_over, Gate, IsSameGate, GateFits, is_sided, is_gated, open_seen, answer_of_open}
use Rattle.ch_pred.specs.Sound.{has_one_table}
use Rattle.ch_words.proofs.Order.{answer_order}

-- the answer over rows of packets doesn't depend on their order, in any kind
pub over_order : (d : Reading) (b : Bound) (xs ys : List Row) → IsPermutation xs ys → answer_over d b xs ≡ answer_over d b ys
over_order d b xs ys p =
    answer_order (asked_of_words d b) ints_exact (side_seen b 0 xs) (side_seen b 0 ys) (side_seen b 1 xs) (side_seen b 1 ys) (side 0) (side 1)
  where
    side : (k : ℕ) → SameBag (side_seen b k xs) (side_seen b k ys)
    side k = SameBag-map (row_seen b) (filter (λ r. eqb r.side k) xs) (filter (λ r. eqb r.side k) ys) (SameBag-filter (λ r. eqb r.side k) xs ys (SameBag-permutation xs ys p))

-- a kind of one table looks at no inner rows
inner_free : (q : Asked ℤ) (s : Shape) → has_one_table s ≡ true → (held inner : List (View ℤ)) → of_held s q held inner ≡ of_held s q held []
inner_free q shape.Filter one held inner = refl
inner_free q shape.Distinct one held inner = refl
inner_free q (shape.Top by descending limit) one held inner = refl
inner_free q (shape.Group keys max value) one held inner = refl
inner_free q (shape.Having keys sum above) one held inner = refl
inner_free q (shape.Join left right) one held inner = absurd cc
inner_free q (shape.Skyline dims) one held inner = refl
inner_free q (shape.Semi key within) one held inner = absurd cc

rows_alone : (s : Shape) → has_one_table s ≡ true → (rows inner : List (View ℤ)) → candidates s rows inner ≡ rows
rows_alone shape.Filter one rows inner = refl
rows_alone shape.Distinct one rows inner = refl
rows_alone (shape.Top by descending limit) one rows inner = refl
rows_alone (shape.Group keys max value) one rows inner = refl
rows_alone (shape.Having keys sum above) one rows inner = refl
rows_alone (shape.Join left right) one rows inner = absurd cc
rows_alone (shape.Skyline dims) one rows inner = refl
rows_alone (shape.Semi key within) one rows inner = absurd cc

same_gate : (gate : Gate) (q : Asked ℤ) (s : Shape) → has_one_table s ≡ true → GateFits gate q s → IsSameGate q gate
same_gate gate q shape.Filter one h = h
same_gate gate q shape.Distinct one h = h
same_gate gate q (shape.Top by descending limit) one h = h
same_gate gate q (shape.Group keys max value) one h = h
same_gate gate q (shape.Having keys sum above) one h = h
same_gate gate q (shape.Join left right) one h = absurd cc
same_gate gate q (shape.Skyline dims) one h = h
same_gate gate q (shape.Semi key within) one h = absurd cc

module _ (d : Reading) (b : Bound) (gate : Gate) (one : has_one_table b.shape ≡ true) (fits : GateFits gate (asked_of_words d b) b.shape) where
  abbrev q : Asked ℤ
  q = asked_of_words d b

  -- a row of one table has side 0, and its bit is whether it holds
  pub bit_holds : (r : Row) → is_gated gate b r ≡ true → (r.side ≡ 0) × (r.bit ≡ q.holds (row_seen b r))
  bit_holds r h =
      let p = and_parts (is_sided b.shape r) (same_bit r.bit (gate r.side (row_seen b r))) h in
      let s : r.side ≡ 0 = eqb-true r.side 0 (sided p.0) in
      (s, same_bit-true r.bit (gate r.side (row_seen b r)) p.1 ∙ (ap (λ (k : ℕ). gate k (row_seen b r)) s ∙ same_gate gate q b.shape one fits (row_seen b r)))
    where
      sided : is_sided b.shape r ≡ true → eqb r.side 0 ≡ true
      sided e = sym (ap (λ t. cond t (eqb r.side 0) (cond (eqb r.side 0) true (eqb r.side 1))) one) ∙ e

  -- so the rows that hold are those whose bit is set
  pub open_held : (rows : List Row) → AreRows (is_gated gate b) rows → filter q.holds (side_seen b 0 rows) ≡ open_seen b rows
  open_held [] are = refl
  open_held (r ∷ rows) are = go (eqb r.side 0) (ap (λ (k : ℕ). eqb k 0) (bit_holds r (are r (inl refl))).0) r.bit (bit_holds r (are r (inl refl))).1 (open_held rows (λ x i. are x (inr i)))
    where
      go : (s : Bool) → s ≡ true → (t : Bool) → t ≡ q.holds (row_seen b r) → filter q.holds (side_seen b 0 rows) ≡ open_seen b rows
          → filter q.holds (map (row_seen b) (cond s (r ∷ filter (λ x. eqb x.side 0) rows) (filter (λ x. eqb x.side 0) rows))) ≡ map (row_seen b) (cond t (r ∷ filter (λ x. x.bit) rows) (filter (λ x. x.bit) rows))
      go false s t e ih = absurd cc
      go true s true e ih = ap (λ c. cond c (row_seen b r ∷ filter q.holds (side_seen b 0 rows)) (filter q.holds (side_seen b 0 rows))) (sym e) ∙ ap (λ zs. row_seen b r ∷ zs) ih
      go true s false e ih = ap (λ c. cond c (row_seen b r ∷ filter q.holds (side_seen b 0 rows)) (filter q.holds (side_seen b 0 rows))) (sym e) ∙ ih

  -- and the answer is what the kind makes of them
  pub over_open : (rows : List Row) → AreRows (is_gated gate b) rows → answer_over d b rows ≡ answer_of_open d b rows
  over_open rows are = ap (in_order int_cmp b.shape)
      (inner_free q b.shape one (filter q.holds (candidates b.shape (side_seen b 0 rows) (side_seen b 1 rows))) (side_seen b 1 rows)
      ∙ ap (λ (zs : List (View ℤ)). of_held b.shape q zs []) (ap (filter q.holds) (rows_alone b.shape one (side_seen b 0 rows) (side_seen b 1 rows)) ∙ open_held rows are))
