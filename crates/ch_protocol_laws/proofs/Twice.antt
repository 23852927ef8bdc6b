-- The cover of a kind with two passes.
use Rattle.std.proofs.Common.{◌≡◌, ℕ, ◌≤◌, Bool, true, false, cond, not, ◌&&◌, ◌||◌, eqb, nat_lt, List, [], ◌∷◌, ◌++◌, map, filter, IsPermutation, refl, ap, sym, ◌∙◌, subst, arith, inl, inr, ◌⊎◌, eqb-true, eq-eqb}
use Rattle.std.proofs.lemmas.Bool.{cases_Bool, and_parts, and_from, and_left, and_right, or_cases, or_left, or_right, ne_eqb, le-ltb, eqb-false, cond-true, cond-false}
use Rattle.std.proofs.lemmas.List.Sorted.{IsPermutation-map, IsPermutation-sym, IsPermutation-trans}
use Rattle.ch_lists.specs.Members.{In, Each, AreDifferent}
use Rattle.ch_lists.proofs.Members.{In-filter, In-filter_from, same_members, AreDifferent-filter, In-map, In-map_from}
use Rattle.ch_protocol.specs.Packets.{Name}
use Rattle.ch_protocol.specs.Receiver.{has}
use Rattle.ch_protocol.specs.Machine.{IsReached, Entry, Config, State, passes, row_at, entries_of, seen, confirmed, stopped}
use Rattle.ch_cover.specs.Rows.{AreRows, Row}
use Rattle.ch_cover.specs.Cover.{CoversTwice, DoKeptStayAfter}
use Rattle.ch_protocol.specs.Received.{all_rows, rows_received}
use Rattle.ch_protocol.specs.Invariant.{AreLawful, IsSettled, IsSound, IsWhole}
use Rattle.ch_protocol.proofs.Tests.{any_same-true, any_same-from}
use Rattle.ch_protocol_laws.proofs.Names.{names_of, names-In, names-from, names-different, names-rows, named_rows, map-append, map-map}
use Rattle.ch_protocol_laws.proofs.Entries.{lawful_at, mark_in, processed_later, test_different, marked, marked-rows, marked-stays}
use Rattle.ch_protocol_laws.proofs.Done.{all_settled, received_rows}
use Rattle.ch_protocol_laws.proofs.Once.{filter_all, split_off}
use Rattle.ch_protocol_laws.proofs.Reached.{reached_sound}

-- whether the entry is of a pass, and of epoch 0
abbrev pub is_of : ℕ → Entry → Bool
is_of p y = eqb y.name.pass p && eqb y.epoch 0

-- the rows of a pass that were processed in epoch 0
abbrev pub processed_rows : Config → ℕ → List Entry → List Row
processed_rows c p ys = map (row_at c) (map (λ y. y.name) (filter (is_of p) ys))

no_second : (ys : List Entry) → Each (λ y. y.name.pass ≤ 1) ys → filter (is_of 2) ys ≡ []
no_second [] h = refl
no_second (x ∷ ys) h = go (eqb x.name.pass 2) refl (no_second ys (λ y j. h y (inr j)))
  where
    go : (b : Bool) → eqb x.name.pass 2 ≡ b → filter (is_of 2) ys ≡ [] → cond (b && eqb x.epoch 0) (x ∷ filter (is_of 2) ys) (filter (is_of 2) ys) ≡ []
    go true t ih = absurd (omega (arith, eqb-true x.name.pass 2 t, h x (inl refl)))
    go false t ih = ih

-- the rows of epoch 0 are those of pass 2 after those of pass 1
seen-split : (c : Config) (ys : List Entry) → AreLawful c ys → Each (λ y. (1 ≤ y.name.pass) × (y.name.pass ≤ 2)) ys
    → map (λ y. seen c y.name) (entries_of 0 ys) ≡ map (λ r. (2, r)) (processed_rows c 2 ys) ++ map (λ r. (1, r)) (processed_rows c 1 ys)
seen-split c [] l h = refl
seen-split c (x ∷ ys) l h = go (eqb x.name.pass 2) (eqb x.name.pass 1) (eqb x.epoch 0) refl refl refl (seen-split c ys l.1 (λ y j. h y (inr j)))
  where
    go : (second first now : Bool) → eqb x.name.pass 2 ≡ second → eqb x.name.pass 1 ≡ first → eqb x.epoch 0 ≡ now
        → map (λ y. seen c y.name) (entries_of 0 ys) ≡ map (λ r. (2, r)) (processed_rows c 2 ys) ++ map (λ r. (1, r)) (processed_rows c 1 ys)
        → map (λ y. seen c y.name) (cond now (x ∷ entries_of 0 ys) (entries_of 0 ys))
        ≡ map (λ r. (2, r)) (map (row_at c) (map (λ y. y.name) (cond (second && now) (x ∷ filter (is_of 2) ys) (filter (is_of 2) ys)))) ++ map (λ r. (1, r)) (map (row_at c) (map (λ y. y.name) (cond (first && now) (x ∷ filter (is_of 1) ys) (filter (is_of 1) ys))))
    go true true now s f n ih = absurd (omega (arith, eqb-true x.name.pass 2 s, eqb-true x.name.pass 1 f))
    go true false true s f n ih = λ i. ((eqb-true x.name.pass 2 s) i, row_at c x.name) ∷ ih i
    go true false false s f n ih = ih
    go false true false s f n ih = ih
    go false true true s f n ih =
        let none : filter (is_of 2) ys ≡ [] = no_second ys (λ y j. omega (arith, l.0.passes y j, eqb-true x.name.pass 1 f)) in
        let none' : map (λ r. (2, r)) (processed_rows c 2 ys) ≡ [] = ap (λ (zs : List Entry). map (λ r. (2, r)) (map (row_at c) (map (λ y. y.name) zs))) none in
        let rest : map (λ y. seen c y.name) (entries_of 0 ys) ≡ map (λ r. (1, r)) (processed_rows c 1 ys) = ih ∙ ap (λ zs. zs ++ map (λ r. (1, r)) (processed_rows c 1 ys)) none' in
        (λ i. ((eqb-true x.name.pass 1 f) i, row_at c x.name) ∷ rest i) ∙ ap (λ zs. zs ++ ((1, row_at c x.name) ∷ map (λ r. (1, r)) (processed_rows c 1 ys))) (sym none')
    go false false now s f n ih = absurd (omega (arith, h x (inl refl), eqb-false x.name.pass 2 s, eqb-false x.name.pass 1 f))

not_first : (c : Config) (x : Entry) (ys : List Entry) → 2 ≤ x.name.pass → processed_rows c 1 (x ∷ ys) ≡ processed_rows c 1 ys
not_first c x ys le = ap (λ (zs : List Entry). map (row_at c) (map (λ y. y.name) zs)) (cond-false (is_of 1 x) (x ∷ filter (is_of 1) ys) (filter (is_of 1) ys) (and_left (eqb x.name.pass 1) (eqb x.epoch 0) (ne_eqb x.name.pass 1 (λ e. omega arith))))

-- each passes the test, or one doesn't
all_or_one : {X : Type 0} (p : X → Bool) (xs : List X) → Each (λ x. p x ≡ true) xs ⊎ ((x : X) × In x xs × (p x ≡ false))
all_or_one p [] = inl (λ x h. absurd h)
all_or_one {X} p (x ∷ xs) = go (all_or_one p xs) (p x) refl
  where
    go : Each (λ x. p x ≡ true) xs ⊎ ((x : X) × In x xs × (p x ≡ false)) → (b : Bool) → p x ≡ b → Each (λ y. p y ≡ true) (x ∷ xs) ⊎ ((y : X) × In y (x ∷ xs) × (p y ≡ false))
    go ih false e = inr (x, inl refl, e)
    go (inl h) true e = inl (λ y j. elim j [ inl q ↦ ap p q ∙ e | inr k ↦ h y k ])
    go (inr r) true e = inr (r.0, inr r.1, r.2)

-- the verdicts of pass 2 in epoch 0 are the policy's after the rows of pass 2 before, and all of pass 1
kept_stay_after : (c : Config) (stays : Name → Bool) (first : List Row) (ys : List Entry) → AreLawful c ys → Each (λ y. (1 ≤ y.name.pass) × (y.name.pass ≤ 2)) ys
    → Each (λ y. 2 ≤ y.name.pass → processed_rows c 1 ys ≡ first) ys
    → Each (λ y. y.name.pass ≡ 2 → y.epoch ≡ 0 → y.pruned ≡ false → stays y.name ≡ true) ys
    → DoKeptStayAfter c.prunes first (marked c stays (filter (is_of 2) ys))
kept_stay_after c stays first [] l h whole kept = tt
kept_stay_after c stays first (x ∷ ys) l h whole kept =
    go (kept_stay_after c stays first ys l.1 (λ y j. h y (inr j)) (λ y j le. sym (not_first c x ys (omega (arith, l.0.passes y j, le))) ∙ whole y (inr j) le) (λ y j. kept y (inr j))) (is_of 2 x) refl
  where
    here : is_of 2 x ≡ true → c.prunes (map (λ y. (2, y.0)) (marked c stays (filter (is_of 2) ys)) ++ map (λ r. (1, r)) first) (2, row_at c x.name) ≡ false → stays x.name ≡ true
    here t f =
        let both = and_parts (eqb x.name.pass 2) (eqb x.epoch 0) t in
        let p : x.name.pass ≡ 2 = eqb-true x.name.pass 2 both.0 in
        let e : x.epoch ≡ 0 = eqb-true x.epoch 0 both.1 in
        let le : 2 ≤ x.name.pass = omega (arith, p) in
        let v : c.prunes (map (λ y. seen c y.name) (entries_of 0 ys)) (seen c x.name) ≡ x.pruned =
        subst (λ (k : ℕ). c.prunes (map (λ y. seen c y.name) (entries_of k ys)) (seen c x.name) ≡ x.pruned) e
        (sym (l.0.verdict ∙ cond-false (c.two_passes && nat_lt 0 x.epoch) false (c.prunes (map (λ y. seen c y.name) (entries_of x.epoch ys)) (seen c x.name)) (and_right c.two_passes (nat_lt 0 x.epoch) (le-ltb 0 x.epoch (omega (arith, e)))))) in
        let seconds : map (λ (y : Row × Bool). (2, y.0)) (marked c stays (filter (is_of 2) ys)) ≡ map (λ r. (2, r)) (processed_rows c 2 ys) =
        sym (map-map (λ (y : Row × Bool). y.0) (λ r. (2, r)) (marked c stays (filter (is_of 2) ys))) ∙ ap (map (λ r. (2, r))) (marked-rows c stays (filter (is_of 2) ys)) in
        let firsts : processed_rows c 1 ys ≡ first = sym (not_first c x ys le) ∙ whole x (inl refl) le in
        let history : map (λ (y : Row × Bool). (2, y.0)) (marked c stays (filter (is_of 2) ys)) ++ map (λ r. (1, r)) first ≡ map (λ y. seen c y.name) (entries_of 0 ys) =
        sym (seen-split c ys l.1 (λ y j. h y (inr j)) ∙ (λ i. (sym seconds) i ++ map (λ r. (1, r)) (firsts i))) in
        let this : (2, row_at c x.name) ≡ seen c x.name = λ i. ((sym p) i, row_at c x.name) in
        kept x (inl refl) p e (sym v ∙ ((λ i. c.prunes ((sym history) i) ((sym this) i)) ∙ f))

    go : DoKeptStayAfter c.prunes first (marked c stays (filter (is_of 2) ys)) → (b : Bool) → is_of 2 x ≡ b
        → DoKeptStayAfter c.prunes first (marked c stays (cond b (x ∷ filter (is_of 2) ys) (filter (is_of 2) ys)))
    go ih true t = (here t, ih)
    go ih false t = ih

module _ {A : Type 0} (c : Config) (is_row : Row → Bool) (answer : List Row → A) (law : CoversTwice is_row c.prunes answer) (are : AreRows is_row (all_rows c)) (two : c.two_passes ≡ true) (s : State) (i : IsSound c s)
    (all : (x : Name) → In x (names_of c 2) → IsSettled s.received s.processed x) where
  abbrev firsts : List Name
  firsts = map (λ (y : Entry). y.name) (filter (is_of 1) s.processed)

  abbrev ps : List Name
  ps = map (λ (y : Entry). y.name) (filter (is_of 2) s.processed)

  abbrev got : Name → Bool
  got x = has s.received x

  -- the rows that pass 2 of epoch 0 did not process, among those that were received
  abbrev rest : List Name
  rest = filter (λ x. got x && not (has ps x)) (names_of c 2)

  abbrev wider : Name → Bool
  wider x = got x || has ps x

  -- the rows that a pass processed in epoch 0 are of that pass, and different
  different : (p : ℕ) → AreDifferent (map (λ (y : Entry). y.name) (filter (is_of p) s.processed))
  different p = test_different c (is_of p) s.processed (λ x y a b. eqb-true x.epoch 0 (and_parts (eqb x.name.pass p) (eqb x.epoch 0) a).1 ∙ sym (eqb-true y.epoch 0 (and_parts (eqb y.name.pass p) (eqb y.epoch 0) b).1)) i.lawful

  within : (p : ℕ) (x : Name) → In x (map (λ (y : Entry). y.name) (filter (is_of p) s.processed)) → In x (names_of c p)
  within p x h =
      let r = In-map (λ (y : Entry). y.name) x (filter (is_of p) s.processed) h in
      let q = In-filter (is_of p) r.0 s.processed r.1 in
      subst (λ (n : Name). In n (names_of c p)) (sym r.2) (names-from c p r.0.name (eqb-true r.0.name.pass p (and_parts (eqb r.0.name.pass p) (eqb r.0.epoch 0) q.1).0) (i.entries r.0 q.0).known.worker (lawful_at c s.processed r.0 i.lawful q.0).1.row)

  in_two : Each (λ y. (1 ≤ y.name.pass) × (y.name.pass ≤ 2)) s.processed
  in_two y h = let k = (i.entries y h).known in omega (arith, k.first, k.begun, i.in_range, cond-true {A = ℕ} c.two_passes 2 1 two)

  -- the rows of names of the second pass are rows of the configuration
  taken : (xs : List Name) → ((x : Name) → In x xs → In x (names_of c 2)) → AreRows is_row (map (row_at c) xs)
  taken xs inside = named_rows c is_row 2 are xs inside

  -- a row that wasn't received was pruned in pass 2 of epoch 0
  pruned_at : (x : Name) → In x (names_of c 2) → got x ≡ false → (y : Entry) × In y s.processed × (y.name ≡ x) × (y.pruned ≡ true)
  pruned_at x h f = elim (all x h) [
    | inl g ↦ absurd (cc (any_same-from x s.received g, f))
    | inr m ↦ mark_in s.processed x true m
  ]

  wide : (x : Name) → In x (names_of c 2) → wider x ≡ true
  wide x h = elim (cases_Bool (got x)) [
    | inl t ↦ or_left (got x) (has ps x) t
    | inr f ↦ let y = pruned_at x h f in
        let e : y.0.epoch ≡ 0 = (lawful_at c s.processed y.0 i.lawful y.1).1.first_epoch two y.3 in
        let p : y.0.name.pass ≡ 2 = ap (λ (n : Name). n.pass) y.2 ∙ (names-In c 2 x h).0 in
        or_right (got x) (has ps x) (any_same-from x ps (subst (λ (n : Name). In n ps) y.2
        (In-map_from (λ (y : Entry). y.name) y.0 (filter (is_of 2) s.processed) (In-filter_from (is_of 2) y.0 s.processed y.1 (and_from (eqb y.0.name.pass 2) (eqb y.0.epoch 0) (eq-eqb y.0.name.pass 2 p) (eq-eqb y.0.epoch 0 e))))))
  ]

  some : IsPermutation (filter got (names_of c 2)) (rest ++ filter got ps)
  some = split_off got got (names_of c 2) ps (filter got ps) (names-different c 2) (AreDifferent-filter got ps (different 2)) (within 2) (λ x t. t) (λ x n t. t) (λ x h. In-filter got x ps h) (λ x h t. In-filter_from got x ps h t)

  most : IsPermutation (names_of c 2) (rest ++ ps)
  most = subst (λ (zs : List Name). IsPermutation zs (rest ++ ps)) (filter_all wider (names_of c 2) wide)
      (split_off got wider (names_of c 2) ps ps (names-different c 2) (different 2) (within 2) (λ x t. or_left (got x) (has ps x) t)
      (λ x n t. elim (or_cases (got x) (has ps x) t) [ inl h ↦ h | inr h ↦ absurd (n (any_same-true x ps h)) ])
      (λ x h. (h, or_right (got x) (has ps x) (any_same-from x ps h))) (λ x h t. h))

  -- a row that the policy kept was received, since it was not processed again and pruned
  kept : Each (λ y. y.name.pass ≡ 2 → y.epoch ≡ 0 → y.pruned ≡ false → got y.name ≡ true) s.processed
  kept y h p e f = elim (all y.name (names-from c 2 y.name p (i.entries y h).known.worker (lawful_at c s.processed y i.lawful h).1.row)) [
    | inl g ↦ any_same-from y.name s.received g
    | inr m ↦ let r = processed_later c s.processed y.name i.lawful m y h refl f in
        absurd (omega (arith, r.3, (lawful_at c s.processed r.0 i.lawful r.1).1.first_epoch two r.4))
  ]

  -- before an entry of pass 2 that was pruned stand all of pass 1
  firsts_whole : IsWhole c 1 s.processed → IsPermutation firsts (names_of c 1)
  firsts_whole whole = same_members firsts (names_of c 1) (different 1) (names-different c 1) (within 1)
      (λ x h. let q = names-In c 1 x h in
      let w = whole x.worker x.number q.1 q.2 in
      let y : Entry = record { name = record { pass = 1; worker = x.worker; number = x.number }; epoch = 0; pruned = w.0 } in
      subst (λ (n : Name). In n firsts) (λ j. record { pass = (sym q.0) j; worker = x.worker; number = x.number })
      (In-map_from (λ (y : Entry). y.name) y (filter (is_of 1) s.processed) (In-filter_from (is_of 1) y s.processed w.1 refl)))

  -- once a row of pass 2 was pruned, epoch 0 has all of pass 1
  whole_by : (y : Entry) → In y s.processed → y.name.pass ≡ 2 → y.pruned ≡ true → IsWhole c 1 s.processed
  whole_by y h p t w k a b =
      let r = lawful_at c s.processed y i.lawful h in
      let e = r.1.after_whole p t w k a b in
      (e.0, r.2 _ e.1)

  abbrev hs : List (Row × Bool)
  hs = marked c got (filter (is_of 2) s.processed)

  covered : IsWhole c 1 s.processed → answer (map (row_at c) rest ++ map (λ h. h.0) (filter (λ h. h.1) hs)) ≡ answer (map (row_at c) rest ++ map (λ h. h.0) hs)
  covered whole = law.cover (map (row_at c) firsts) (map (row_at c) rest) hs (named_rows c is_row 1 are firsts (within 1))
      (subst (λ (zs : List Row). IsPermutation (map (row_at c) firsts) zs) (map-append (row_at c) rest ps ∙ ap (λ xs. map (row_at c) rest ++ xs) (sym (marked-rows c got (filter (is_of 2) s.processed))))
      (IsPermutation-trans (map (row_at c) firsts) (map (row_at c) (names_of c 2)) (map (row_at c) (rest ++ ps))
      (subst (λ (zs : List Row). IsPermutation (map (row_at c) firsts) zs) (names-rows c 1 ∙ sym (names-rows c 2)) (IsPermutation-map (row_at c) firsts (names_of c 1) (firsts_whole whole)))
      (IsPermutation-map (row_at c) (names_of c 2) (rest ++ ps) most)))
      (kept_stay_after c got (map (row_at c) firsts) s.processed i.lawful in_two (λ y h le. refl) kept)

  drop_some : (y : Entry) → In y s.processed → y.name.pass ≡ 2 → y.pruned ≡ true → answer (map (row_at c) (filter got (names_of c 2))) ≡ answer (map (row_at c) (names_of c 2))
  drop_some y h p t =
      law.order _ _ (taken (filter got (names_of c 2)) (λ x j. (In-filter got x (names_of c 2) j).0)) (IsPermutation-map (row_at c) _ _ some)
      ∙ (ap answer (map-append (row_at c) rest (filter got ps) ∙ ap (λ xs. map (row_at c) rest ++ xs) (sym (marked-stays c got (filter (is_of 2) s.processed))))
      ∙ (covered (whole_by y h p t)
      ∙ (ap answer (ap (λ xs. map (row_at c) rest ++ xs) (marked-rows c got (filter (is_of 2) s.processed)) ∙ sym (map-append (row_at c) rest ps))
      ∙ sym (law.order _ _ (taken (names_of c 2) (λ x j. j)) (IsPermutation-map (row_at c) (names_of c 2) (rest ++ ps) most)))))

  -- either each row was received, or one was pruned in pass 2
  drop_any : answer (map (row_at c) (filter got (names_of c 2))) ≡ answer (map (row_at c) (names_of c 2))
  drop_any = elim (all_or_one got (names_of c 2)) [
    | inl t ↦ ap (λ xs. answer (map (row_at c) xs)) (filter_all got (names_of c 2) t)
    | inr x ↦ let y = pruned_at x.0 x.1 x.2 in drop_some y.0 y.1 (ap (λ (n : Name). n.pass) y.2 ∙ (names-In c 2 x.0 x.1).0) y.3
  ]

  pub twice_covers : answer (rows_received c 2 s.received) ≡ answer (all_rows c)
  twice_covers = sym (law.order _ _ (taken (filter got (names_of c 2)) (λ x j. (In-filter got x (names_of c 2) j).0)) (IsPermutation-sym _ _ (IsPermutation-map (row_at c) _ _ (received_rows c s i 2)))) ∙ (drop_any ∙ ap answer (names-rows c 2))

pub two_pass_answer : {A : Type 0} (c : Config) (is_row : Row → Bool) (answer : List Row → A) (s : State) → c.two_passes ≡ true → CoversTwice is_row c.prunes answer → AreRows is_row (all_rows c) → IsReached c s → stopped c s ≡ true
    → answer (rows_received c (passes c) s.received) ≡ answer (all_rows c)
two_pass_answer c is_row answer s two law are reached stop =
    let i = reached_sound c s reached in
    let t = and_parts (eqb s.pass (passes c)) (confirmed c s) stop in
    let e : passes c ≡ 2 = cond-true {A = ℕ} c.two_passes 2 1 two in
    let p : s.pass ≡ 2 = eqb-true s.pass (passes c) t.0 ∙ e in
    ap (λ n. answer (rows_received c n s.received)) e
    ∙ twice_covers c is_row answer law are two s i (λ x h. all_settled c s i t.1 x (subst (λ (n : ℕ). In x (names_of c n)) (sym p) h))
