-- The rows that arrived in a pass.
use Rattle.std.proofs.Common.{◌≡◌, ℕ, zero, suc, ◌+◌, ◌*◌, ◌<◌, ◌≤◌, ◌^◌, Bool, true, false, cond, not, ◌&&◌, List, [], ◌∷◌, ◌++◌, length, map, filter, flat_map, reverse, refl, ap, sym, ◌∙◌, arith, subst, inl, inr}
use Rattle.std.specs.Prelude.{if◌then◌else◌, slice_index_or, nat_lt, ◌==◌}
use Rattle.std.proofs.lemmas.Bool.{and_parts}
use Rattle.std.proofs.lemmas.Grind.{reverse_onto}
use Rattle.std.proofs.lemmas.List.{append-nil, length-append, length-map}
use Rattle.std.proofs.lemmas.List.Elements.{filter-append}
use Rattle.ch_lists.specs.Members.{In, AreDifferent}
use Rattle.ch_lists.proofs.Members.{In-append, In-left, In-right}
use Rattle.ch_cover.specs.Rows.{Row}
use Rattle.ch_protocol.specs.Packets.{Name}
use Rattle.ch_protocol.specs.Receiver.{has, collect}
use Rattle.ch_protocol.specs.Received.{all_rows, is_row_of, names_arrived, rows_arrived}
use Rattle.ch_protocol.specs.Machine.{Config, State, size, workers, row_at, tables}
use Rattle.ch_protocol.specs.Invariant.{IsSound}
use Rattle.ch_protocol.proofs.Tests.{same_name-true}
use Rattle.ch_protocol_laws.proofs.Arrived.{arrived_once, arrived_known}
use Rattle.ch_protocol_laws.proofs.Names.{map-append, names_of, names-from, names-rows}
use Rattle.ch_survival.specs.Given.{AreParts}

-- one more name
rows_more : (c : Config) (pass : ℕ) (x : Name) (before : List Name)
    → rows_arrived c pass (x ∷ before) ≡ (if is_row_of c pass x then rows_arrived c pass before ++ row_at c x ∷ [] else rows_arrived c pass before)
rows_more c pass x before =
    ap (λ xs. map (row_at c) (filter (is_row_of c pass) xs)) (reverse_onto before x [])
    ∙ (ap (map (row_at c)) (filter-append (is_row_of c pass) (reverse before) (x ∷ [])) ∙ go (is_row_of c pass x))
  where
    go : (b : Bool) → map (row_at c) (names_arrived c pass before ++ cond b (x ∷ []) []) ≡ (if b then rows_arrived c pass before ++ row_at c x ∷ [] else rows_arrived c pass before)
    go true = map-append (row_at c) (names_arrived c pass before) (x ∷ [])
    go false = ap (map (row_at c)) (append-nil (names_arrived c pass before))

-- the rows that arrived, after a name is collected
pub arrived_more : (c : Config) (pass : ℕ) (received : List Name) (x : Name) (r : Row) → r ≡ record (row_at c x) { side = r.side } → (x.number < size c x.worker → r.side ≡ (row_at c x).side)
    → (if is_row_of c pass x && not (has received x) then rows_arrived c pass received ++ r ∷ [] else rows_arrived c pass received) ≡ rows_arrived c pass (collect received x)
arrived_more c pass received x r same side = go (has received x) (is_row_of c pass x) refl
  where
    rows : List Row
    rows = rows_arrived c pass received

    row : is_row_of c pass x ≡ true → r ≡ row_at c x
    row e =
        let lt : x.number < size c x.worker = Rattle.std.proofs.Common.ltb-true x.number (size c x.worker) (and_parts (x.pass == pass) (nat_lt x.number (size c x.worker)) e).1 in
        same ∙ ap (λ (k : ℕ). record (row_at c x) { side = k }) (side lt)

    go : (b a : Bool) → is_row_of c pass x ≡ a → (if a && not b then rows ++ r ∷ [] else rows) ≡ rows_arrived c pass (if b then received else x ∷ received)
    go true true e = refl
    go true false e = refl
    go false true e = ap (λ (q : Row). rows ++ q ∷ []) (row e) ∙ sym (rows_more c pass x received ∙ ap (λ (b : Bool). if b then rows ++ row_at c x ∷ [] else rows) e)
    go false false e = sym (rows_more c pass x received ∙ ap (λ (b : Bool). if b then rows ++ row_at c x ∷ [] else rows) e)

split_at : {X : Type 0} (x : X) (ys : List X) → In x ys → (front : List X) × (back : List X) × (ys ≡ front ++ x ∷ back)
split_at x [] h = absurd h
split_at x (y ∷ ys) (inl e) = ([], ys, ap (λ z. z ∷ ys) (sym e))
split_at x (y ∷ ys) (inr h) = let r = split_at x ys h in (y ∷ r.0, r.1, ap (λ zs. y ∷ zs) r.2)

-- different members of a list are no more than it has
fewer : {X : Type 0} (xs ys : List X) → AreDifferent xs → ((x : X) → In x xs → In x ys) → length xs ≤ length ys
fewer [] ys d to = omega arith
fewer {X} (x ∷ xs) ys d to =
    let r = split_at x ys (to x (inl refl)) in
    let ih = fewer xs (r.0 ++ r.1) d.1 (λ z h. without z h (to z (inr h))) in
    let n : length ys ≡ suc (length (r.0 ++ r.1)) = ap (λ (zs : List X). length zs) r.2 ∙ longer r.0 r.1 in
    omega (arith, ih, n)
  where
    longer : (front back : List X) → length (front ++ x ∷ back) ≡ suc (length (front ++ back))
    longer [] back = refl
    longer (y ∷ front) back = ap suc (longer front back)

    without : (z : X) → In z xs → In z ys → In z ((split_at x ys (to x (inl refl))).0 ++ (split_at x ys (to x (inl refl))).1)
    without z h i =
        let r = split_at x ys (to x (inl refl)) in
        elim (In-append z r.0 (x ∷ r.1) (subst (λ (zs : List X). In z zs) r.2 i)) [
          | inl j ↦ In-left z r.0 r.1 j
          | inr j ↦ elim j [
            | inl e ↦ absurd (d.0 (subst (λ (y : X). In y xs) e h))
            | inr k ↦ In-right z r.0 r.1 k
          ]
        ]

-- lists of less than 2 ^ 32 rows have together less than that many for each
few_all : (tss : List (List Row)) → ((w : ℕ) → w < length tss → length (slice_index_or tss w []) + 1 < 2 ^ 32) → length (flat_map (λ rows. rows) tss) ≤ length tss * 4294967296
few_all [] h = omega arith
few_all (rows ∷ tss) h =
    let here = h 0 (omega arith) in
    let rest = few_all tss (λ w lt. h (suc w) (omega (arith, lt))) in
    let n = length-append rows (flat_map (λ rs. rs) tss) in
    omega (arith, here, rest, n)

-- far fewer rows arrived than a fold can take
pub arrived_few : (c : Config) (s : State) (pass : ℕ) → AreParts c → IsSound c s → length (rows_arrived c pass s.received) < 2 ^ 63
arrived_few c s pass p i =
    let known = arrived_known c s i pass in
    let few = fewer (names_arrived c pass s.received) (names_of c pass) (arrived_once c s i pass) (λ x h. let k = known x h in names-from c pass x k.0 k.1 k.2) in
    let all : length (names_of c pass) ≡ length (all_rows c) = sym (length-map (names_of c pass) (row_at c)) ∙ ap (λ (rows : List Row). length rows) (names-rows c pass) in
    let mapped : length (rows_arrived c pass s.received) ≡ length (names_arrived c pass s.received) = length-map (names_arrived c pass s.received) (row_at c) in
    let most = few_all (tables c) p.sizes in
    omega (arith, few, all, mapped, most, p.many)
