-- Lists of keys of n words, and the registers that stand for them: column i has the i-th key of each list.
use Rattle.std.proofs.Common.{◌≡◌, ◌<◌, ◌≤◌, ℕ, zero, suc, ◌+◌, Bool, true, false, List, [], ◌∷◌, ◌++◌, ℤ, pos, refl, sym, ◌∙◌, ap, ap₂, arith, Option, Some, None, length, take, inl, inr, nat_eq, replicate}
use Rattle.std.specs.Prelude.{if◌then◌else◌, ◌||◌, ◌&&◌, ◌==◌, not}
use Rattle.std.specs.Ordering.{int_cmp, is_eq}
use Rattle.std.specs.Cmp.Lexicographic.{slice_cmp}
use Rattle.std.proofs.lemmas.Bool.{cases_Bool, cases_eq, eq-eqb, ne_eqb, false_from_ne_true, both_ways}
use Rattle.std.proofs.lemmas.List.{take_all, length-take, length-replicate}
use Rattle.ch_lists.specs.Ordered.{is_among}
use Rattle.ch_lists.proofs.Orders.{eq_exact, eq_itself, ints_exact, lists_exact}
use Rattle.ch_ir.specs.Machine.{Registers, cleared}
use Rattle.ch_words.specs.Policies.{Key, touched, without}
use Rattle.op_moves.specs.Entries.{entries, entries_alike, entries_same}

abbrev pub first_of : List Key → Option Key
first_of [] = None
first_of (x ∷ xs) = Some x

abbrev pub rest_of : List Key → List Key
rest_of [] = []
rest_of (x ∷ xs) = xs

-- a mark and a key; all 0 where there is none
abbrev pub entry_of : ℕ → Option Key → List ℤ
entry_of n None = replicate (suc n) (pos 0)
entry_of n (Some x) = pos 1 ∷ x

abbrev pub encoded : (n left rows : ℕ) → (ℕ → List Key) → Registers
encoded n zero rows lists = []
encoded n (suc left) rows lists = entries rows (λ q. entry_of n (first_of (lists q))) ∷ encoded n left rows (λ q. rest_of (lists q))

abbrev pub changed : ℕ → List Key → (ℕ → List Key) → ℕ → List Key
changed r new lists q = if nat_eq q r then new else lists q

pub encoded_same : (n left rows : ℕ) (f g : ℕ → List Key) → ((q : ℕ) → f q ≡ g q) → encoded n left rows f ≡ encoded n left rows g
encoded_same n zero rows f g h = refl
encoded_same n (suc left) rows f g h =
    ap₂ (λ (c : List (List ℤ)) (cs : Registers). c ∷ cs)
    (entries_same rows (λ q. entry_of n (first_of (f q))) (λ q. entry_of n (first_of (g q))) (λ q k. ap (λ (l : List Key). entry_of n (first_of l)) (h q)))
    (encoded_same n left rows (λ q. rest_of (f q)) (λ q. rest_of (g q)) (λ q. ap rest_of (h q)))

pub unchanged : (r : ℕ) (lists : ℕ → List Key) (q : ℕ) → changed r (lists r) lists q ≡ lists q
unchanged r lists q = elim (cases_eq q r) [
  | inl e ↦ rw (e, eq-eqb r r refl) refl
  | inr n ↦ rw (ne_eqb q r n) refl
]

pub encoded_cleared : (n left rows : ℕ) → encoded n left rows (λ q. []) ≡ cleared (replicate left (record { entries = rows; cells = suc n }))
encoded_cleared n zero rows = refl
encoded_cleared n (suc left) rows = ap₂ (λ (col : List (List ℤ)) (cols : Registers). col ∷ cols) (entries_alike rows (replicate (suc n) (pos 0))) (encoded_cleared n left rows)

-- Keys of n words

abbrev pub IsFormed : ℕ → Option Key → Type 0
IsFormed n None = Unit {0}
IsFormed n (Some x) = length x ≡ n

abbrev pub AreFormed : ℕ → List Key → Type 0
AreFormed n [] = Unit {0}
AreFormed n (x ∷ xs) = (length x ≡ n) × AreFormed n xs

pub first_formed : (n : ℕ) (l : List Key) → AreFormed n l → IsFormed n (first_of l)
first_formed n [] h = tt
first_formed n (x ∷ xs) h = h.0

pub rest_formed : (n : ℕ) (l : List Key) → AreFormed n l → AreFormed n (rest_of l)
rest_formed n [] h = tt
rest_formed n (x ∷ xs) h = h.1

pub entry_long : (n : ℕ) (c : Option Key) → IsFormed n c → length (entry_of n c) ≡ n + 1
entry_long n None f = omega (arith, length-replicate n (pos 0))
entry_long n (Some x) f = omega (arith, f)

taken_formed : (n cols : ℕ) (l : List Key) → AreFormed n l → AreFormed n (take cols l)
taken_formed n zero l h = tt
taken_formed n (suc cols) [] h = tt
taken_formed n (suc cols) (x ∷ xs) h = (h.0, taken_formed n cols xs h.1)

without_formed : (n : ℕ) (k : Key) (l : List Key) → AreFormed n l → AreFormed n (without k l)
without_formed n k [] h = tt
without_formed n k (x ∷ xs) h = go (is_eq (slice_cmp int_cmp x k)) (without_formed n k xs h.1)
  where
    go : (t : Bool) → AreFormed n (without k xs) → AreFormed n (if t then xs else x ∷ without k xs)
    go true ih = h.1
    go false ih = (h.0, ih)

pub touched_formed : (n cols : ℕ) (k : Key) (l : List Key) → length k ≡ n → AreFormed n l → AreFormed n (touched cols k l)
touched_formed n cols k l e h = taken_formed n cols (k ∷ without k l) (e, without_formed n k l h)

pub touched_short : (cols : ℕ) (k : Key) (l : List Key) → length (touched cols k l) ≤ cols
touched_short cols k l = omega (arith, length-take cols (k ∷ without k l))

-- What the columns do to one list

-- the key stands at the front
abbrev pub is_first : Key → Option Key → Bool
is_first k None = false
is_first k (Some x) = is_eq (slice_cmp int_cmp x k)

abbrev pub cons_cell : Option Key → List Key → List Key
cons_cell None l = []
cons_cell (Some x) l = x ∷ l

-- each column takes the carried key and hands its own on, until the key is found
abbrev pub made : ℕ → Bool → Key → Option Key → List Key → List Key
made zero gate k c l = l
made (suc left) gate k c l = if gate then cons_cell c (made left (not (is_first k (first_of l))) k (first_of l) (rest_of l)) else l

-- whether the gate is still open after them
abbrev pub still : ℕ → Bool → Key → List Key → Bool
still zero gate k l = gate
still (suc left) gate k l = still left (gate && not (is_first k (first_of l))) k (rest_of l)

made_none : (left : ℕ) (k : Key) → made left true k None [] ≡ []
made_none zero k = refl
made_none (suc left) k = refl

pub made_shut : (left : ℕ) (k : Key) (c : Option Key) (l : List Key) → made left false k c l ≡ l
made_shut zero k c l = refl
made_shut (suc left) k c l = refl

pub still_shut : (left : ℕ) (k : Key) (l : List Key) → still left false k l ≡ false
still_shut zero k l = refl
still_shut (suc left) k l = still_shut left k (rest_of l)

entry_made : (n : ℕ) (c : Option Key) (xs : List Key) → entry_of n (first_of (cons_cell c xs)) ≡ entry_of n c
entry_made n None xs = refl
entry_made n (Some x) xs = refl

rest_made : (left : ℕ) (k : Key) (c : Option Key) (l : List Key) → (c ≡ None → l ≡ [])
    → rest_of (cons_cell c (made left (not (is_first k (first_of l))) k (first_of l) (rest_of l))) ≡ made left (not (is_first k (first_of l))) k (first_of l) (rest_of l)
rest_made left k (Some x) l h = refl
rest_made left k None l h = rw (h refl) (sym (made_none left k))

-- the columns after an open one
pub encoded_made : (n left rows : ℕ) (lists : ℕ → List Key) (r : ℕ) (k : Key) (c : Option Key) → (c ≡ None → lists r ≡ [])
    → entries rows (λ q. if nat_eq q r then entry_of n c else entry_of n (first_of (lists q)))
    ∷ encoded n left rows (changed r (made left (not (is_first k (first_of (lists r)))) k (first_of (lists r)) (rest_of (lists r))) (λ q. rest_of (lists q)))
    ≡ encoded n (suc left) rows (changed r (made (suc left) true k c (lists r)) lists)
encoded_made n left rows lists r k c h =
    let xs : List Key = made left (not (is_first k (first_of (lists r)))) k (first_of (lists r)) (rest_of (lists r)) in
    ap₂ (λ (col : List (List ℤ)) (cols : Registers). col ∷ cols)
    (entries_same rows (λ q. if nat_eq q r then entry_of n c else entry_of n (first_of (lists q))) (λ q. entry_of n (first_of (changed r (cons_cell c xs) lists q))) (λ q b. front (nat_eq q r) c xs (lists q)))
    (encoded_same n left rows (changed r xs (λ q. rest_of (lists q))) (λ q. rest_of (changed r (cons_cell c xs) lists q)) (λ q. back (nat_eq q r) c xs (lists q) (rest_made left k c (lists r) h)))
  where
    front : (b : Bool) (c : Option Key) (xs l : List Key) → (if b then entry_of n c else entry_of n (first_of l)) ≡ entry_of n (first_of (if b then cons_cell c xs else l))
    front true c xs l = sym (entry_made n c xs)
    front false c xs l = refl

    back : (b : Bool) (c : Option Key) (xs l : List Key) → rest_of (cons_cell c xs) ≡ xs → (if b then xs else rest_of l) ≡ rest_of (if b then cons_cell c xs else l)
    back true c xs l e = sym e
    back false c xs l e = refl

-- That is the policy's list

made_is : (left : ℕ) (k c : Key) (l : List Key) → length l ≤ left → made left true k (Some c) l ≡ take left (c ∷ without k l)
made_is zero k c [] h = refl
made_is zero k c (x ∷ xs) h = absurd (omega arith)
made_is (suc left) k c [] h = ap (λ (l : List Key). c ∷ l) (made_none left k ∙ sym (take_all left [] (omega arith)))
made_is (suc left) k c (x ∷ xs) h =
    let m : length xs ≤ left = omega arith in
    elim (cases_Bool (is_eq (slice_cmp int_cmp x k))) [
      | inl same ↦ rw same (ap (λ (l : List Key). c ∷ l) (made_shut left k (Some x) xs ∙ sym (take_all left xs m)))
      | inr other ↦ rw other (ap (λ (l : List Key). c ∷ l) (made_is left k x xs m))
    ]

pub made_touched : (left : ℕ) (k : Key) (l : List Key) → length l ≤ left → made left true k (Some k) l ≡ touched left k l
made_touched left k l h = made_is left k k l h

eq_turned : (x k : Key) → is_eq (slice_cmp int_cmp x k) ≡ is_eq (slice_cmp int_cmp k x)
eq_turned x k =
    let turn : (a b : Key) → is_eq (slice_cmp int_cmp a b) ≡ true → is_eq (slice_cmp int_cmp b a) ≡ true =
    λ a b h. ap (λ (z : Key). is_eq (slice_cmp int_cmp z a)) (sym (eq_exact (slice_cmp int_cmp) (lists_exact int_cmp ints_exact) a b h)) ∙ eq_itself (slice_cmp int_cmp) (lists_exact int_cmp ints_exact) a in
    elim (cases_Bool (is_eq (slice_cmp int_cmp x k))) [
      | inl t ↦ t ∙ sym (turn x k t)
      | inr f ↦ f ∙ sym (false_from_ne_true (is_eq (slice_cmp int_cmp k x)) (λ u. cc (turn k x u, f)))
    ]

still_not : (left : ℕ) (k : Key) (l : List Key) → length l ≤ left → still left true k l ≡ not (is_among (slice_cmp int_cmp) k l)
still_not zero k [] h = refl
still_not zero k (x ∷ xs) h = absurd (omega arith)
still_not (suc left) k [] h = still_not left k [] (omega arith)
still_not (suc left) k (x ∷ xs) h =
    elim (cases_Bool (is_eq (slice_cmp int_cmp x k))) [
      | inl same ↦ rw (same, sym (eq_turned x k) ∙ same) (still_shut left k xs)
      | inr other ↦ rw (other, sym (eq_turned x k) ∙ other) (still_not left k xs (omega arith))
    ]

-- the gate stays open where it was and the key isn't listed
pub still_is : (left : ℕ) (bit : Bool) (k : Key) (l : List Key) → length l ≤ left → still left bit k l ≡ bit && not (is_among (slice_cmp int_cmp) k l)
still_is left true k l h = still_not left k l h
still_is left false k l h = still_shut left k l

-- the list after an open row, and after one that isn't
pub made_gated : (left : ℕ) (bit : Bool) (k : Key) (l : List Key) → length l ≤ left → made left bit k (Some k) l ≡ (if bit then touched left k l else l)
made_gated left true k l h = made_touched left k l h
made_gated left false k l h = made_shut left k (Some k) l
