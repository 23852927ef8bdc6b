-- What lawful entries say of each epoch.
use Rattle.std.proofs.Common.{◌≡◌, ℕ, ◌<◌, Bool, true, false, cond, ◌&&◌, eqb, nat_lt, List, [], ◌∷◌, map, filter, Some, refl, ap, sym, ◌∙◌, subst, arith, inl, inr, eqb-true}
use Rattle.std.proofs.lemmas.Bool.{cases_Bool, cases_eq, cond-true, cond-false}
use Rattle.ch_lists.specs.Members.{In, Each, AreDifferent}
use Rattle.ch_lists.proofs.Members.{In-filter, In-map}
use Rattle.ch_cover.specs.Rows.{Row}
use Rattle.ch_protocol.specs.Packets.{Name, same_name}
use Rattle.ch_protocol.specs.Machine.{Entry, Config, row_at, entries_of, seen}
use Rattle.ch_cover.specs.Cover.{DoKeptStay}
use Rattle.ch_protocol.specs.Invariant.{AreLawful, MayFollow, mark_of}
use Rattle.ch_protocol.proofs.Tests.{same_name-true, same_name-from}

pub lawful_at : (c : Config) (ys : List Entry) (y : Entry) → AreLawful c ys → In y ys → (before : List Entry) × MayFollow c before y × ((z : Entry) → In z before → In z ys)
lawful_at c [] y l h = absurd h
lawful_at c (z ∷ ys) y l (inl e) = (ys, subst (λ (u : Entry). MayFollow c ys u) (sym e) l.0, λ u i. inr i)
lawful_at c (z ∷ ys) y l (inr h) = let r = lawful_at c ys y l.1 h in (r.0, r.1, λ u i. inr (r.2 u i))

-- the entry that a mark is of
pub mark_in : (ys : List Entry) (n : Name) (b : Bool) → mark_of ys n ≡ Some b → (y : Entry) × In y ys × (y.name ≡ n) × (y.pruned ≡ b)
mark_in [] n b e = absurd cc
mark_in (y ∷ ys) n b e = go (mark_in ys n b) (same_name y.name n) refl e
  where
    go : (mark_of ys n ≡ Some b → (y : Entry) × In y ys × (y.name ≡ n) × (y.pruned ≡ b)) → (t : Bool) → same_name y.name n ≡ t → cond t (Some y.pruned) (mark_of ys n) ≡ Some b → (z : Entry) × In z (y ∷ ys) × (z.name ≡ n) × (z.pruned ≡ b)
    go ih true t e = (y, inl refl, same_name-true y.name n t, cc)
    go ih false t e = let r = ih e in (r.0, inr r.1, r.2, r.3)

-- a row that was kept, and pruned when it was processed last, was processed in a later epoch
pub processed_later : (c : Config) (ys : List Entry) (n : Name) → AreLawful c ys → mark_of ys n ≡ Some true → (y : Entry) → In y ys → y.name ≡ n → y.pruned ≡ false → (z : Entry) × In z ys × (z.name ≡ n) × (y.epoch < z.epoch) × (z.pruned ≡ true)
processed_later c [] n l m y h e f = absurd h
processed_later c (x ∷ ys) n l m y h e f = go (λ m j. processed_later c ys n l.1 m y j e f) (same_name x.name n) refl m h
  where
    later : same_name x.name n ≡ true → In y ys → y.epoch < x.epoch
    later t j =
        let same : y.name ≡ x.name = e ∙ sym (same_name-true x.name n t) in
        elim (cases_eq y.epoch x.epoch) [
          | inl eq ↦ absurd (omega (arith, l.0.ascends y j (ap (λ (u : Name). u.pass) same) (ap (λ (u : Name). u.worker) same) eq, ap (λ (u : Name). u.number) same))
          | inr ne ↦ omega (arith, l.0.epochs y j)
        ]

    go : (mark_of ys n ≡ Some true → In y ys → (z : Entry) × In z ys × (z.name ≡ n) × (y.epoch < z.epoch) × (z.pruned ≡ true)) → (t : Bool) → same_name x.name n ≡ t → cond t (Some x.pruned) (mark_of ys n) ≡ Some true → In y (x ∷ ys) → (z : Entry) × In z (x ∷ ys) × (z.name ≡ n) × (y.epoch < z.epoch) × (z.pruned ≡ true)
    go ih true t m (inl q) = absurd (cc (m, f, ap (λ (u : Entry). u.pruned) q))
    go ih true t m (inr j) = (x, inl refl, same_name-true x.name n t, later t j, cc)
    go ih false t m (inl q) = absurd (cc (t, same_name-from x.name n (ap (λ (u : Entry). u.name) (sym q) ∙ e)))
    go ih false t m (inr j) = let r = ih m j in (r.0, inr r.1, r.2, r.3, r.4)

-- in an epoch each name is processed once
pub test_different : (c : Config) (test : Entry → Bool) (ys : List Entry) → ((x y : Entry) → test x ≡ true → test y ≡ true → x.epoch ≡ y.epoch) → AreLawful c ys → AreDifferent (map (λ y. y.name) (filter test ys))
test_different c test [] one l = tt
test_different c test (x ∷ ys) one l = go (test_different c test ys one l.1) (test x) refl
  where
    no : test x ≡ true → In x.name (map (λ y. y.name) (filter test ys)) → ⊥
    no t h =
        let r = In-map (λ y. y.name) x.name (filter test ys) h in
        let q = In-filter test r.0 ys r.1 in
        omega (arith, l.0.ascends r.0 q.0 (ap (λ (u : Name). u.pass) (sym r.2)) (ap (λ (u : Name). u.worker) (sym r.2)) (one r.0 x q.1 t), ap (λ (u : Name). u.number) r.2)

    go : AreDifferent (map (λ y. y.name) (filter test ys)) → (b : Bool) → test x ≡ b → AreDifferent (map (λ y. y.name) (cond b (x ∷ filter test ys) (filter test ys)))
    go ih true t = (no t, ih)
    go ih false t = ih

pub epoch_different : (c : Config) (ys : List Entry) (j : ℕ) → AreLawful c ys → AreDifferent (map (λ y. y.name) (entries_of j ys))
epoch_different c ys j l = test_different c (λ y. eqb y.epoch j) ys (λ x y p q. eqb-true x.epoch j p ∙ sym (eqb-true y.epoch j q)) l

-- each row with whether it stays
abbrev pub marked : Config → (Name → Bool) → List Entry → List (Row × Bool)
marked c stays ys = map (λ y. (row_at c y.name, stays y.name)) ys

seen-first : (c : Config) (stays : Name → Bool) (ys : List Entry) → Each (λ y. y.name.pass ≡ 1) ys → map (λ y. seen c y.name) ys ≡ map (λ h. (1, h.0)) (marked c stays ys)
seen-first c stays [] first = refl
seen-first c stays (y ∷ ys) first =
    let rest = seen-first c stays ys (λ z h. first z (inr h)) in
    λ i. ((first y (inl refl)) i, row_at c y.name) ∷ rest i

-- the verdicts of an epoch are the policy's after the rows of the epoch
pub kept_stay : (c : Config) (stays : Name → Bool) (j : ℕ) (ys : List Entry) → c.two_passes ≡ false → AreLawful c ys → Each (λ y. y.name.pass ≡ 1) ys → Each (λ y. y.epoch ≡ j → y.pruned ≡ false → stays y.name ≡ true) ys → DoKeptStay c.prunes (marked c stays (entries_of j ys))
kept_stay c stays j [] one l first kept = tt
kept_stay c stays j (x ∷ ys) one l first kept = go (kept_stay c stays j ys one l.1 (λ y h. first y (inr h)) (λ y h. kept y (inr h))) (eqb x.epoch j) refl
  where
    verdict_is : x.epoch ≡ j → c.prunes (map (λ y. seen c y.name) (entries_of j ys)) (seen c x.name) ≡ x.pruned
    verdict_is e =
        subst (λ (k : ℕ). c.prunes (map (λ y. seen c y.name) (entries_of k ys)) (seen c x.name) ≡ x.pruned) e
        (sym (l.0.verdict ∙ cond-false (c.two_passes && nat_lt 0 x.epoch) false (c.prunes (map (λ y. seen c y.name) (entries_of x.epoch ys)) (seen c x.name)) (Rattle.std.proofs.lemmas.Bool.and_left c.two_passes (nat_lt 0 x.epoch) one)))

    here : x.epoch ≡ j → c.prunes (map (λ h. (1, h.0)) (marked c stays (entries_of j ys))) (1, row_at c x.name) ≡ false → stays x.name ≡ true
    here e f =
        let p = seen-first c stays (entries_of j ys) (λ y h. first y (inr (In-filter (λ y. eqb y.epoch j) y ys h).0)) in
        let q : seen c x.name ≡ (1, row_at c x.name) = λ i. ((first x (inl refl)) i, row_at c x.name) in
        kept x (inl refl) e (sym (verdict_is e) ∙ ((λ i. c.prunes (p i) (q i)) ∙ f))

    go : DoKeptStay c.prunes (marked c stays (entries_of j ys)) → (b : Bool) → eqb x.epoch j ≡ b → DoKeptStay c.prunes (marked c stays (cond b (x ∷ entries_of j ys) (entries_of j ys)))
    go ih true t = (here (eqb-true x.epoch j t), ih)
    go ih false t = ih

-- the rows and the names of marked entries
pub marked-rows : (c : Config) (stays : Name → Bool) (ys : List Entry) → map (λ h. h.0) (marked c stays ys) ≡ map (row_at c) (map (λ y. y.name) ys)
marked-rows c stays [] = refl
marked-rows c stays (y ∷ ys) = ap (λ zs. row_at c y.name ∷ zs) (marked-rows c stays ys)

pub marked-stays : (c : Config) (stays : Name → Bool) (ys : List Entry) → map (λ h. h.0) (filter (λ h. h.1) (marked c stays ys)) ≡ map (row_at c) (filter stays (map (λ y. y.name) ys))
marked-stays c stays [] = refl
marked-stays c stays (y ∷ ys) = go (marked-stays c stays ys) (stays y.name)
  where
    go : map (λ h. h.0) (filter (λ h. h.1) (marked c stays ys)) ≡ map (row_at c) (filter stays (map (λ y. y.name) ys)) → (b : Bool)
        → map (λ h. h.0) (cond b ((row_at c y.name, stays y.name) ∷ filter (λ h. h.1) (marked c stays ys)) (filter (λ h. h.1) (marked c stays ys))) ≡ map (row_at c) (cond b (y.name ∷ filter stays (map (λ y. y.name) ys)) (filter stays (map (λ y. y.name) ys)))
    go ih true = ap (λ zs. row_at c y.name ∷ zs) ih
    go ih false = ih
