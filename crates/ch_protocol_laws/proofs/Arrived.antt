-- What the master received in a pass, in the order in which it came.
use Rattle.std.proofs.Common.{◌≡◌, ℕ, ◌<◌, Bool, true, false, cond, eqb, nat_lt, List, [], ◌∷◌, ◌++◌, filter, reverse, IsPermutation, refl, ap, sym, ◌∙◌, subst, inl, inr, eqb-true, ltb-true}
use Rattle.std.proofs.lemmas.Bool.{and_parts}
use Rattle.std.proofs.lemmas.Grind.{reverse_onto}
use Rattle.std.proofs.lemmas.List.{append-nil}
use Rattle.std.proofs.lemmas.List.Elements.{filter-append}
use Rattle.std.proofs.lemmas.List.Sorted.{IsPermutation-map, IsPermutation-reverse, IsPermutation-sym}
use Rattle.ch_lists.specs.Members.{In, Each, AreDifferent}
use Rattle.ch_lists.proofs.Members.{In-filter, Each-permutation, AreDifferent-filter, AreDifferent-append}
use Rattle.ch_cover.specs.Rows.{Row, AreRows}
use Rattle.ch_protocol.specs.Packets.{Name}
use Rattle.ch_protocol.specs.Machine.{Config, State, size, workers, row_at}
use Rattle.ch_protocol.specs.Received.{all_rows, is_row_of, rows_received, names_arrived, rows_arrived}
use Rattle.ch_protocol.specs.Invariant.{IsSound}
use Rattle.ch_protocol_laws.proofs.Names.{names-from, named_rows}

filter_reverse : {X : Type 0} (p : X → Bool) (xs : List X) → filter p (reverse xs) ≡ reverse (filter p xs)
filter_reverse p [] = refl
filter_reverse {X} p (x ∷ xs) =
    ap (filter p) (reverse_onto xs x []) ∙ (filter-append p (reverse xs) (x ∷ []) ∙ (ap (λ ys. ys ++ filter p (x ∷ [])) (filter_reverse p xs) ∙ go (p x)))
  where
    go : (b : Bool) → reverse (filter p xs) ++ cond b (x ∷ []) [] ≡ reverse (cond b (x ∷ filter p xs) (filter p xs))
    go true = sym (reverse_onto (filter p xs) x [])
    go false = append-nil (reverse (filter p xs))

In-reverse : {X : Type 0} (x : X) (xs : List X) → In x (reverse xs) → In x xs
In-reverse {X} x xs h = Each-permutation (λ (y : X). In y xs) xs (reverse xs) (IsPermutation-reverse xs) (λ y i. i) x h

AreDifferent-reverse : {X : Type 0} (xs : List X) → AreDifferent xs → AreDifferent (reverse xs)
AreDifferent-reverse [] d = tt
AreDifferent-reverse {X} (x ∷ xs) d =
    subst (λ (ys : List X). AreDifferent ys) (sym (reverse_onto xs x []))
    (AreDifferent-append (reverse xs) (x ∷ []) (AreDifferent-reverse xs d.1) ((λ h. absurd h), tt) last)
  where
    last : (z : X) → In z (reverse xs) → In z (x ∷ []) → ⊥
    last z h (inl e) = d.0 (subst (λ (y : X). In y xs) e (In-reverse z xs h))
    last z h (inr i) = absurd i

pub same_names : (c : Config) (pass : ℕ) (xs : List Name) → IsPermutation (filter (is_row_of c pass) xs) (names_arrived c pass xs)
same_names c pass xs = subst (λ (ys : List Name). IsPermutation (filter (is_row_of c pass) xs) ys) (sym (filter_reverse (is_row_of c pass) xs)) (IsPermutation-reverse (filter (is_row_of c pass) xs))

pub same_rows : (c : Config) (pass : ℕ) (xs : List Name) → IsPermutation (rows_received c pass xs) (rows_arrived c pass xs)
same_rows c pass xs = IsPermutation-map (row_at c) (filter (is_row_of c pass) xs) (names_arrived c pass xs) (same_names c pass xs)

module _ (c : Config) (s : State) (i : IsSound c s) (pass : ℕ) where
  pub arrived_once : AreDifferent (names_arrived c pass s.received)
  arrived_once = AreDifferent-filter (is_row_of c pass) (reverse s.received) (AreDifferent-reverse s.received i.once)

  pub arrived_known : Each (λ x. (x.pass ≡ pass) × (x.worker < workers c) × (x.number < size c x.worker)) (names_arrived c pass s.received)
  arrived_known x h =
      let q = In-filter (is_row_of c pass) x (reverse s.received) h in
      let r = and_parts (eqb x.pass pass) (nat_lt x.number (size c x.worker)) q.1 in
      (eqb-true x.pass pass r.0, (i.taken x (In-reverse x s.received q.0)).worker, ltb-true x.number (size c x.worker) r.1)

  pub arrived_rows : (is_row : Row → Bool) → AreRows is_row (all_rows c) → AreRows is_row (rows_arrived c pass s.received)
  arrived_rows is_row are = named_rows c is_row pass are (names_arrived c pass s.received) (λ x h. let k = arrived_known x h in names-from c pass x k.0 k.1 k.2)

  -- an answer that doesn't depend on the order of the rows is the same over them in the order in which they came
  pub in_order : {A : Type 0} (is_row : Row → Bool) (answer : List Row → A) → ((xs ys : List Row) → AreRows is_row xs → IsPermutation xs ys → answer xs ≡ answer ys) → AreRows is_row (all_rows c)
      → answer (rows_arrived c pass s.received) ≡ answer (rows_received c pass s.received)
  in_order is_row answer order are = order (rows_arrived c pass s.received) (rows_received c pass s.received) (arrived_rows is_row are)
      (IsPermutation-sym (rows_received c pass s.received) (rows_arrived c pass s.received) (same_rows c pass s.received))
