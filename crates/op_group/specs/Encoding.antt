-- The registers that stand for lists of pairs, and what the columns make of one list.
use Rattle.std.proofs.Common.{◌≡◌, ◌≤◌, ℕ, zero, suc, ◌-◌, ◌^◌, ◌+◌, Bool, true, false, cond, List, [], ◌∷◌, ◌++◌, ℤ, pos, ◌+ℤ◌, int_lt, int_le, refl, sym, ◌∙◌, ap, ap₂, arith, Option, Some, None, length, map, replicate, ltb, ltb-true, ltb-false, inl, inr, nat_eq}
use Rattle.std.specs.Prelude.{if◌then◌else◌, ◌||◌, ◌&&◌, not}
use Rattle.std.specs.Int.{int_max}
use Rattle.std.proofs.lemmas.Bool.{cases_eq, eq-eqb, ne_eqb, or_parts, lt-ltb, le-ltb}
use Rattle.std.proofs.lemmas.Int.{ints, clamps}
use Rattle.ch_ir.specs.Machine.{Registers, cleared}
use Rattle.ch_words.specs.Policies.{Key}
use Rattle.op_moves.specs.Entries.{entries, entries_alike, entries_same}
use Rattle.op_group.specs.Policy.{Pair, is_key, is_listed, is_beaten, raised, placed}
use Rattle.op_group.specs.Lists.{NoneTwice, key_is}

abbrev pub first_of : List Pair → Option Pair
first_of [] = None
first_of (p ∷ ps) = Some p

abbrev pub rest_of : List Pair → List Pair
rest_of [] = []
rest_of (p ∷ ps) = ps

-- 2^61 and the best, which is above the 0 of a free entry
abbrev pub best_cell : Option Pair → ℤ
best_cell None = pos 0
best_cell (Some p) = pos (2 ^ 61) +ℤ p.best

abbrev pub entry_of : ℕ → Option Pair → List ℤ
entry_of n None = replicate (suc (suc n)) (pos 0)
entry_of n (Some p) = pos 1 ∷ p.key ++ (pos (2 ^ 61) +ℤ p.best) ∷ []

abbrev pub encoded : (n left rows : ℕ) → (ℕ → List Pair) → Registers
encoded n zero rows lists = []
encoded n (suc left) rows lists = entries rows (λ q. entry_of n (first_of (lists q))) ∷ encoded n left rows (λ q. rest_of (lists q))

abbrev pub changed : ℕ → List Pair → (ℕ → List Pair) → ℕ → List Pair
changed r new lists q = if nat_eq q r then new else lists q

pub encoded_same : (n left rows : ℕ) (f g : ℕ → List Pair) → ((q : ℕ) → f q ≡ g q) → encoded n left rows f ≡ encoded n left rows g
encoded_same n zero rows f g h = refl
encoded_same n (suc left) rows f g h =
    ap₂ (λ (c : List (List ℤ)) (cs : Registers). c ∷ cs)
    (entries_same rows (λ q. entry_of n (first_of (f q))) (λ q. entry_of n (first_of (g q))) (λ q k. ap (λ (l : List Pair). entry_of n (first_of l)) (h q)))
    (encoded_same n left rows (λ q. rest_of (f q)) (λ q. rest_of (g q)) (λ q. ap rest_of (h q)))

pub encoded_cleared : (n left rows : ℕ) → encoded n left rows (λ q. []) ≡ cleared (replicate left (record { entries = rows; cells = suc (suc n) }))
encoded_cleared n zero rows = refl
encoded_cleared n (suc left) rows = ap₂ (λ (col : List (List ℤ)) (cols : Registers). col ∷ cols) (entries_alike rows (replicate (suc (suc n)) (pos 0))) (encoded_cleared n left rows)

-- What the columns do to one list

-- the row hits the column
abbrev pub is_hit : Key → Option Pair → Bool
is_hit k None = true
is_hit k (Some p) = is_key k p.key

abbrev pub raised_cell : Key → ℤ → Option Pair → Pair
raised_cell k v None = record { key = k; best = v }
raised_cell k v (Some p) = record { key = p.key; best = int_max p.best v }

-- where it doesn't hit, only the last column takes the row's pair
abbrev pub other_cell : ℕ → Key → ℤ → Option Pair → Option Pair
other_cell zero k v c = Some (record { key = k; best = v })
other_cell (suc left) k v c = c

abbrev pub new_cell : ℕ → Bool → Key → ℤ → Option Pair → Option Pair
new_cell left g k v c = if g then (if is_hit k c then Some (raised_cell k v c) else other_cell left k v c) else c

abbrev pub cons_cell : Option Pair → List Pair → List Pair
cons_cell None l = []
cons_cell (Some p) l = p ∷ l

-- the next column is open
abbrev pub opens : Bool → Key → Option Pair → Bool
opens g k c = g && not (g && is_hit k c)

abbrev pub settled : ℕ → Bool → Key → ℤ → List Pair → List Pair
settled zero g k v l = l
settled (suc left) g k v l = cons_cell (new_cell left g k v (first_of l)) (settled left (opens g k (first_of l)) k v (rest_of l))

-- the column prunes the row
abbrev pub beats : Bool → Key → ℤ → Option Pair → Bool
beats g k v c = (g && is_hit k c) && int_le (pos (2 ^ 61) +ℤ v) (if g then best_cell c else pos 0)

abbrev pub some_beat : ℕ → Bool → Key → ℤ → List Pair → Bool
some_beat zero g k v l = false
some_beat (suc left) g k v l = beats g k v (first_of l) || some_beat left (opens g k (first_of l)) k v (rest_of l)

pub settled_off : (left : ℕ) (k : Key) (v : ℤ) (l : List Pair) → settled left false k v l ≡ l
settled_off zero k v l = refl
settled_off (suc left) k v [] = refl
settled_off (suc left) k v (p ∷ ps) = ap (λ (l : List Pair). p ∷ l) (settled_off left k v ps)

pub some_beat_off : (left : ℕ) (k : Key) (v : ℤ) (l : List Pair) → some_beat left false k v l ≡ false
some_beat_off zero k v l = refl
some_beat_off (suc left) k v l = some_beat_off left k v (rest_of l)

raised_same : (k : Key) (v : ℤ) (ps : List Pair) → is_listed k ps ≡ false → map (raised k v) ps ≡ ps
raised_same k v [] h = refl
raised_same k v (p ∷ ps) h =
    let parts = or_parts (is_key k p.key) (is_listed k ps) h in
    ap₂ (λ (x : Pair) (xs : List Pair). x ∷ xs) (ap (λ (b : Bool). cond {A = Pair} (b && int_lt p.best v) (record { key = p.key; best = v }) p) parts.0) (raised_same k v ps parts.1)

raised_is : (k : Key) (v : ℤ) (p : Pair) → is_key k p.key ≡ true → raised k v p ≡ raised_cell k v (Some p)
raised_is k v p h = ap (λ (b : Bool). cond {A = Pair} (b && int_lt p.best v) (record { key = p.key; best = v }) p) h ∙ go (int_lt p.best v) refl
  where
    go : (b : Bool) → int_lt p.best v ≡ b → cond {A = Pair} b (record { key = p.key; best = v }) p ≡ record { key = p.key; best = int_max p.best v }
    go true e = ap (λ (x : ℤ). record { key = p.key; best = x }) (let h : v ≡ int_max p.best v = grind (arith, ints, clamps) in h)
    go false e = ap (λ (x : ℤ). record { key = p.key; best = x }) (let h : p.best ≡ int_max p.best v = grind (arith, ints, clamps) in h)

lt_both : (a b : ℕ) → ltb (suc a) (suc b) ≡ ltb a b
lt_both a b = go (ltb a b) refl
  where
    go : (x : Bool) → ltb a b ≡ x → ltb (suc a) (suc b) ≡ x
    go true e = let l = ltb-true a b e in lt-ltb (suc a) (suc b) (omega arith)
    go false e = let l = ltb-false a b e in le-ltb (suc a) (suc b) (omega arith)

-- a key that is the first one's isn't among the others
fresh : (k : Key) (p : Pair) (ps : List Pair) → NoneTwice (p ∷ ps) → is_key k p.key ≡ true → is_listed k ps ≡ false
fresh k p ps once e = ap (λ (x : Key). is_listed x ps) (sym (key_is k p.key e)) ∙ once.0

settled_is : (left : ℕ) (k : Key) (v : ℤ) (l : List Pair) → 1 ≤ left → length l ≤ left → NoneTwice l → settled left true k v l ≡ placed left k v l
settled_is zero k v l some short once = absurd (omega arith)
settled_is (suc left) k v [] some short once =
    let room : ltb 0 (suc left) ≡ true = lt-ltb 0 (suc left) (omega arith) in
    rw room (ap (λ (l : List Pair). record { key = k; best = v } ∷ l) (settled_off left k v []))
settled_is (suc zero) k v (p ∷ q ∷ ps) some short once = absurd (omega arith)
settled_is (suc zero) k v (p ∷ []) some short once = go (is_key k p.key) refl
  where
    go : (b : Bool) → is_key k p.key ≡ b → settled 1 true k v (p ∷ []) ≡ placed 1 k v (p ∷ [])
    go true e = rw e (ap (λ (x : Pair). x ∷ []) (sym (raised_is k v p e) ∙ ap (λ (b : Bool). cond {A = Pair} (b && int_lt p.best v) (record { key = p.key; best = v }) p) e))
    go false e = rw e refl
settled_is (suc (suc left)) k v (p ∷ ps) some short once = go (settled_is (suc left) k v ps (omega arith) (omega arith) once.1) (is_key k p.key) refl
  where
    placed_more : is_key k p.key ≡ false → (a b : Bool) → is_listed k ps ≡ a → ltb (length ps) (suc left) ≡ b → ltb (suc (length ps)) (suc (suc left)) ≡ b
        → p ∷ placed (suc left) k v ps ≡ placed (suc (suc left)) k v (p ∷ ps)
    placed_more e true b ea eb ec = rw (e, ea) refl
    placed_more e false true ea eb ec = rw (e, ea, eb, ec) refl
    placed_more e false false ea eb ec = let one : suc left - 1 ≡ left = omega arith in let two : suc (suc left) - 1 ≡ suc left = omega arith in rw (e, ea, eb, ec, one, two) refl

    go : settled (suc left) true k v ps ≡ placed (suc left) k v ps → (b : Bool) → is_key k p.key ≡ b → settled (suc (suc left)) true k v (p ∷ ps) ≡ placed (suc (suc left)) k v (p ∷ ps)
    go ih true e = rw e (ap₂ (λ (x : Pair) (xs : List Pair). x ∷ xs) (sym (raised_is k v p e) ∙ ap (λ (b : Bool). cond {A = Pair} (b && int_lt p.best v) (record { key = p.key; best = v }) p) e)
        (settled_off (suc left) k v ps ∙ sym (raised_same k v ps (fresh k p ps once e))))
    go ih false e =
        let step : settled (suc (suc left)) true k v (p ∷ ps) ≡ p ∷ settled (suc left) true k v ps = rw e refl in
        step ∙ ap (λ (l : List Pair). p ∷ l) ih ∙ placed_more e (is_listed k ps) (ltb (length ps) (suc left)) refl refl (lt_both (length ps) (suc left))

-- after an open row, and after one that isn't
pub settled_gated : (left : ℕ) (bit : Bool) (k : Key) (v : ℤ) (l : List Pair) → 1 ≤ left → length l ≤ left → NoneTwice l → settled left bit k v l ≡ (if bit then placed left k v l else l)
settled_gated left true k v l some short once = settled_is left k v l some short once
settled_gated left false k v l some short once = settled_off left k v l

not_beaten : (k : Key) (v : ℤ) (ps : List Pair) → is_listed k ps ≡ false → is_beaten k v ps ≡ false
not_beaten k v [] h = refl
not_beaten k v (p ∷ ps) h = let parts = or_parts (is_key k p.key) (is_listed k ps) h in rw parts.0 (not_beaten k v ps parts.1)

both_raised : (a b : ℤ) → int_le (pos (2 ^ 61) +ℤ a) (pos (2 ^ 61) +ℤ b) ≡ int_le a b
both_raised a b = grind (arith, ints)

-- a list of at most `left` pairs is looked through whole
pub some_beat_is : (left : ℕ) (k : Key) (v : ℤ) (l : List Pair) → int_le (pos (2 ^ 61) +ℤ v) (pos 0) ≡ false → length l ≤ left → NoneTwice l → some_beat left true k v l ≡ is_beaten k v l
some_beat_is zero k v [] above short once = refl
some_beat_is zero k v (p ∷ ps) above short once = absurd (omega arith)
some_beat_is (suc left) k v [] above short once = rw above (some_beat_off left k v [])
some_beat_is (suc left) k v (p ∷ ps) above short once = go (some_beat_is left k v ps above (omega arith) once.1) (is_key k p.key) refl
  where
    go : some_beat left true k v ps ≡ is_beaten k v ps → (b : Bool) → is_key k p.key ≡ b → some_beat (suc left) true k v (p ∷ ps) ≡ is_beaten k v (p ∷ ps)
    go ih true e = rw e (ap₂ (λ (a b : Bool). a || b) (both_raised v p.best) (some_beat_off left k v ps ∙ sym (not_beaten k v ps (fresh k p ps once e))))
    go ih false e = rw e ih

-- The registers after a column

entry_made : (n : ℕ) (c : Option Pair) (xs : List Pair) → entry_of n (first_of (cons_cell c xs)) ≡ entry_of n c
entry_made n None xs = refl
entry_made n (Some p) xs = refl

rest_made : (left : ℕ) (g : Bool) (k : Key) (v : ℤ) (l : List Pair)
    → rest_of (cons_cell (new_cell left g k v (first_of l)) (settled left (opens g k (first_of l)) k v (rest_of l))) ≡ settled left (opens g k (first_of l)) k v (rest_of l)
rest_made left true k v [] = refl
rest_made left false k v [] = sym (settled_off left k v [])
rest_made left false k v (p ∷ ps) = refl
rest_made left true k v (p ∷ ps) = go left (is_key k p.key)
  where
    go : (m : ℕ) (b : Bool) → rest_of (cons_cell (if b then Some (raised_cell k v (Some p)) else other_cell m k v (Some p)) (settled left (not b) k v ps)) ≡ settled left (not b) k v ps
    go m true = refl
    go zero false = refl
    go (suc m) false = refl

pub encoded_made : (n left rows : ℕ) (lists : ℕ → List Pair) (r : ℕ) (g : Bool) (k : Key) (v : ℤ)
    → entries rows (λ q. if nat_eq q r then entry_of n (new_cell left g k v (first_of (lists r))) else entry_of n (first_of (lists q)))
    ∷ encoded n left rows (changed r (settled left (opens g k (first_of (lists r))) k v (rest_of (lists r))) (λ q. rest_of (lists q)))
    ≡ encoded n (suc left) rows (changed r (settled (suc left) g k v (lists r)) lists)
encoded_made n left rows lists r g k v =
    let c : Option Pair = new_cell left g k v (first_of (lists r)) in
    let xs : List Pair = settled left (opens g k (first_of (lists r))) k v (rest_of (lists r)) in
    ap₂ (λ (col : List (List ℤ)) (cols : Registers). col ∷ cols)
    (entries_same rows (λ q. if nat_eq q r then entry_of n c else entry_of n (first_of (lists q))) (λ q. entry_of n (first_of (changed r (cons_cell c xs) lists q))) (λ q b. front (nat_eq q r) c xs (lists q)))
    (encoded_same n left rows (changed r xs (λ q. rest_of (lists q))) (λ q. rest_of (changed r (cons_cell c xs) lists q)) (λ q. back (nat_eq q r) c xs (lists q) (rest_made left g k v (lists r))))
  where
    front : (b : Bool) (c : Option Pair) (xs l : List Pair) → (if b then entry_of n c else entry_of n (first_of l)) ≡ entry_of n (first_of (if b then cons_cell c xs else l))
    front true c xs l = sym (entry_made n c xs)
    front false c xs l = refl

    back : (b : Bool) (c : Option Pair) (xs l : List Pair) → rest_of (cons_cell c xs) ≡ xs → (if b then xs else rest_of l) ≡ rest_of (if b then cons_cell c xs else l)
    back true c xs l e = sym e
    back false c xs l e = refl
