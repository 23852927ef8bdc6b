-- The cover over the epochs of a kind with one pass.
use Rattle.std.proofs.Common.{◌≡◌, ℕ, zero, suc, ◌≤◌, Bool, true, false, cond, not, ◌&&◌, ◌||◌, eqb, List, [], ◌∷◌, ◌++◌, map, filter, IsPermutation, refl, ap, sym, ◌∙◌, subst, arith, inl, inr, eqb-true, eq-eqb}
use Rattle.std.proofs.lemmas.Bool.{cases_Bool, cases_eq, and_parts, and_from, or_cases, or_left, or_right, cond-false}
use Rattle.std.proofs.lemmas.List.Sorted.{IsPermutation-map, IsPermutation-sym}
use Rattle.ch_lists.specs.Members.{In, Each, AreDifferent}
use Rattle.ch_lists.proofs.Members.{In-filter, In-filter_from, same_members, AreDifferent-filter, AreDifferent-append, In-append, In-right, In-map, In-map_from, In-left}
use Rattle.ch_protocol.specs.Packets.{Name}
use Rattle.ch_protocol.specs.Receiver.{has}
use Rattle.ch_protocol.specs.Machine.{IsReached, Entry, Config, State, passes, row_at, entries_of, confirmed, stopped}
use Rattle.ch_cover.specs.Rows.{AreRows, Row}
use Rattle.ch_cover.specs.Cover.{CoversOnce}
use Rattle.ch_protocol.specs.Received.{all_rows, rows_received}
use Rattle.ch_protocol.specs.Invariant.{IsSettled, IsSound}
use Rattle.ch_protocol.proofs.Tests.{any_same-true, any_same-from}
use Rattle.ch_protocol_laws.proofs.Names.{names_of, names-In, names-from, names-different, names-rows, named_rows, map-append}
use Rattle.ch_protocol_laws.proofs.Entries.{lawful_at, mark_in, processed_later, epoch_different, marked, kept_stay, marked-rows, marked-stays}
use Rattle.ch_protocol_laws.proofs.Done.{all_settled, received_rows}
use Rattle.ch_protocol_laws.proofs.Reached.{reached_sound}

pub filter_all : {X : Type 0} (p : X → Bool) (xs : List X) → Each (λ x. p x ≡ true) xs → filter p xs ≡ xs
filter_all p [] h = refl
filter_all {X} p (x ∷ xs) h = go (filter_all p xs (λ y j. h y (inr j))) (p x) (h x (inl refl))
  where
    go : filter p xs ≡ xs → (b : Bool) → b ≡ true → cond b (x ∷ filter p xs) (filter p xs) ≡ x ∷ xs
    go ih true e = ap (λ ys. x ∷ ys) ih
    go ih false e = absurd cc

-- Those that p takes outside ps, and stay. Outside ps the tests p and q agree, and stay has those of ps that q takes
pub split_off : (p q : Name → Bool) (xs ps stay : List Name) → AreDifferent xs → AreDifferent stay → ((x : Name) → In x ps → In x xs)
    → ((x : Name) → p x ≡ true → q x ≡ true) → ((x : Name) → (In x ps → ⊥) → q x ≡ true → p x ≡ true)
    → ((x : Name) → In x stay → In x ps × (q x ≡ true)) → ((x : Name) → In x ps → q x ≡ true → In x stay)
    → IsPermutation (filter q xs) (filter (λ x. p x && not (has ps x)) xs ++ stay)
split_off p q xs ps stay dx ds within to from out back = same_members (filter q xs) (filter (λ x. p x && not (has ps x)) xs ++ stay)
    (AreDifferent-filter q xs dx)
    (AreDifferent-append (filter (λ x. p x && not (has ps x)) xs) stay (AreDifferent-filter (λ x. p x && not (has ps x)) xs dx) ds
    (λ x h j. let r = In-filter (λ x. p x && not (has ps x)) x xs h in
    let t = and_parts (p x) (not (has ps x)) r.1 in
    absurd (cc (ap not (any_same-from x ps (out x j).0), t.1))))
    (λ x h. let r = In-filter q x xs h in
    elim (cases_Bool (has ps x)) [
      | inl t ↦ In-right x (filter (λ x. p x && not (has ps x)) xs) stay (back x (any_same-true x ps t) r.1)
      | inr f ↦ In-left x (filter (λ x. p x && not (has ps x)) xs) stay (In-filter_from (λ x. p x && not (has ps x)) x xs r.0 (and_from (p x) (not (has ps x)) (from x (λ j. cc (f, any_same-from x ps j)) r.1) (ap not f)))
    ])
    (λ x h. elim (In-append x (filter (λ x. p x && not (has ps x)) xs) stay h) [
      | inl j ↦ let r = In-filter (λ x. p x && not (has ps x)) x xs j in
          In-filter_from q x xs r.0 (to x (and_parts (p x) (not (has ps x)) r.1).0)
      | inr j ↦ let r = out x j in In-filter_from q x xs (within x r.0) r.1
    ])

module _ {A : Type 0} (c : Config) (is_row : Row → Bool) (answer : List Row → A) (law : CoversOnce is_row c.prunes answer) (are : AreRows is_row (all_rows c)) (one : c.two_passes ≡ false) (s : State) (i : IsSound c s)
    (all : (x : Name) → In x (names_of c 1) → IsSettled s.received s.processed x) where
  -- the answer over the rows that a test takes
  abbrev over : (Name → Bool) → A
  over p = answer (map (row_at c) (filter p (names_of c 1)))

  -- A test that takes each received row, and each that was processed in the epoch j or later, gives the answer
  abbrev Claim : ℕ → Type 0
  Claim j = (p : Name → Bool) → Each (λ x. p x ≡ true) s.received → Each (λ y. j ≤ y.epoch → p y.name ≡ true) s.processed → over p ≡ answer (map (row_at c) (names_of c 1))

  claim_zero : Claim 0
  claim_zero p got late = ap (λ xs. answer (map (row_at c) xs)) (filter_all p (names_of c 1) (λ x h. elim (all x h) [
    | inl j ↦ got x j
    | inr m ↦ let r = mark_in s.processed x true m in ap p (sym r.2) ∙ late r.0 r.1 (omega arith)
  ]))

  -- the rows that a test takes are rows of the configuration
  taken : (p : Name → Bool) → AreRows is_row (map (row_at c) (filter p (names_of c 1)))
  taken p = named_rows c is_row 1 are (filter p (names_of c 1)) (λ x h. (In-filter p x (names_of c 1) h).0)

  -- each entry is of the one pass, and a row
  entry_name : (y : Entry) → In y s.processed → In y.name (names_of c 1)
  entry_name y h =
      let k = (i.entries y h).known in
      let e : passes c ≡ 1 = cond-false {A = ℕ} c.two_passes 2 1 one in
      names-from c 1 y.name (omega (arith, k.first, k.begun, i.in_range, e)) k.worker (lawful_at c s.processed y i.lawful h).1.row

  module _ (j : ℕ) (before : Claim j) (p : Name → Bool) (got : Each (λ x. p x ≡ true) s.received) (late : Each (λ y. suc j ≤ y.epoch → p y.name ≡ true) s.processed) where
    abbrev hs : List Entry
    hs = entries_of j s.processed

    abbrev ps : List Name
    ps = map (λ y. y.name) (entries_of j s.processed)

    abbrev rest : List Name
    rest = filter (λ x. p x && not (has ps x)) (names_of c 1)

    abbrev wider : Name → Bool
    wider x = p x || has ps x

    different : AreDifferent ps
    different = epoch_different c s.processed j i.lawful

    within : (x : Name) → In x ps → In x (names_of c 1)
    within x h =
        let r = In-map (λ (y : Entry). y.name) x hs h in
        subst (λ (n : Name). In n (names_of c 1)) (sym r.2) (entry_name r.0 (In-filter (λ y. eqb y.epoch j) r.0 s.processed r.1).0)

    some : IsPermutation (filter p (names_of c 1)) (rest ++ filter p ps)
    some = split_off p p (names_of c 1) ps (filter p ps) (names-different c 1) (AreDifferent-filter p ps different) within (λ x t. t) (λ x n t. t) (λ x h. In-filter p x ps h) (λ x h t. In-filter_from p x ps h t)

    most : IsPermutation (filter wider (names_of c 1)) (rest ++ ps)
    most = split_off p wider (names_of c 1) ps ps (names-different c 1) different within (λ x t. or_left (p x) (has ps x) t)
        (λ x n t. elim (or_cases (p x) (has ps x) t) [ inl h ↦ h | inr h ↦ absurd (n (any_same-true x ps h)) ])
        (λ x h. (h, or_right (p x) (has ps x) (any_same-from x ps h))) (λ x h t. h)

    -- a row that the policy kept in the epoch was received, or processed later
    kept : Each (λ y. y.epoch ≡ j → y.pruned ≡ false → p y.name ≡ true) s.processed
    kept y h e f = elim (all y.name (entry_name y h)) [
      | inl g ↦ got y.name g
      | inr m ↦ let r = processed_later c s.processed y.name i.lawful m y h refl f in ap p (sym r.2) ∙ late r.0 r.1 (omega (arith, r.3))
    ]

    wide : Each (λ y. j ≤ y.epoch → wider y.name ≡ true) s.processed
    wide y h le = elim (cases_eq y.epoch j) [
      | inl e ↦ or_right (p y.name) (has ps y.name) (any_same-from y.name ps (In-map_from (λ (y : Entry). y.name) y hs (In-filter_from (λ y. eqb y.epoch j) y s.processed h (eq-eqb y.epoch j e))))
      | inr ne ↦ or_left (p y.name) (has ps y.name) (late y h (omega arith))
    ]

    claim_suc : over p ≡ answer (map (row_at c) (names_of c 1))
    claim_suc =
        law.order _ _ (taken p) (IsPermutation-map (row_at c) _ _ some) ∙ (ap answer (map-append (row_at c) rest (filter p ps) ∙ ap (λ xs. map (row_at c) rest ++ xs) (sym (marked-stays c p hs)))
        ∙ (law.cover (map (row_at c) rest) (marked c p hs) (taken (λ x. p x && not (has ps x))) (subst (λ (zs : List Row). AreRows is_row zs) (sym (marked-rows c p hs)) (named_rows c is_row 1 are ps within)) (kept_stay c p j s.processed one i.lawful (λ y h. (names-In c 1 y.name (entry_name y h)).0) kept)
        ∙ (ap answer (ap (λ xs. map (row_at c) rest ++ xs) (marked-rows c p hs) ∙ sym (map-append (row_at c) rest ps))
        ∙ (sym (law.order _ _ (taken wider) (IsPermutation-map (row_at c) _ _ most))
        ∙ before wider (λ x h. or_left (p x) (has ps x) (got x h)) wide))))

  claim : (j : ℕ) → Claim j
  claim zero = claim_zero
  claim (suc j) = λ p got late. claim_suc j (claim j) p got late

  pub once_covers : answer (rows_received c 1 s.received) ≡ answer (all_rows c)
  once_covers =
      sym (law.order _ _ (taken (has s.received)) (IsPermutation-sym _ _ (IsPermutation-map (row_at c) _ _ (received_rows c s i 1))))
      ∙ (claim (suc s.epoch) (has s.received) (λ x h. any_same-from x s.received h) (λ y h le. absurd (omega (arith, (i.entries y h).past)))
      ∙ ap answer (names-rows c 1))

-- where the run has stopped, the answer over the received rows is that over all rows
pub one_pass_answer : {A : Type 0} (c : Config) (is_row : Row → Bool) (answer : List Row → A) (s : State) → c.two_passes ≡ false → CoversOnce is_row c.prunes answer → AreRows is_row (all_rows c) → IsReached c s → stopped c s ≡ true
    → answer (rows_received c (passes c) s.received) ≡ answer (all_rows c)
one_pass_answer c is_row answer s one law are reached stop =
    let i = reached_sound c s reached in
    let t = and_parts (eqb s.pass (passes c)) (confirmed c s) stop in
    let e : passes c ≡ 1 = cond-false {A = ℕ} c.two_passes 2 1 one in
    let p : s.pass ≡ 1 = eqb-true s.pass (passes c) t.0 ∙ e in
    ap (λ n. answer (rows_received c n s.received)) e
    ∙ once_covers c is_row answer law are one s i (λ x h. all_settled c s i t.1 x (subst (λ (n : ℕ). In x (names_of c n)) (sym p) h))
