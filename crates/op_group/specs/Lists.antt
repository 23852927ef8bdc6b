-- A hash row lists at most so many pairs, no key twice, and keys of n words.
use Rattle.std.proofs.Common.{◌≡◌, ◌≤◌, ℕ, zero, suc, ◌-◌, ltb, ltb-true, ℤ, int_lt, Bool, true, false, cond, ◌||◌, ◌&&◌, List, [], ◌∷◌, ◌++◌, map, length, take, refl, sym, ◌∙◌, ap, ap₂, arith, length-take, length-append, nat_eq, inl, inr}
use Rattle.std.specs.List.{list_any}
use Rattle.std.specs.Ordering.{int_cmp, is_eq}
use Rattle.std.specs.Cmp.Lexicographic.{slice_cmp}
use Rattle.std.proofs.lemmas.Bool.{or_cases, or_from, or_left, or_parts, or_right, false_from_ne_true}
use Rattle.std.proofs.lemmas.List.Folds.{list_any-append}
use Rattle.ch_lists.proofs.Orders.{eq_exact, eq_itself, ints_exact, lists_exact}
use Rattle.ch_cover.specs.Rows.{Row}
use Rattle.ch_words.specs.Policies.{Key}
use Rattle.op_moves.specs.Values.{word_at}
use Rattle.op_group.specs.Sizes.{Sizes}
use Rattle.op_group.specs.Policy.{Pair, hash_row, is_key, is_listed, key_of, pairs_after, placed, raised, value_of}

pub key_is : (k x : Key) → is_key k x ≡ true → x ≡ k
key_is k x h = eq_exact (slice_cmp int_cmp) (lists_exact int_cmp ints_exact) x k h

pub key_itself : (k : Key) → is_key k k ≡ true
key_itself k = eq_itself (slice_cmp int_cmp) (lists_exact int_cmp ints_exact) k

-- how many

length-raised : (f : Pair → Pair) (ps : List Pair) → length (map f ps) ≡ length ps
length-raised f [] = refl
length-raised f (p ∷ ps) = ap suc (length-raised f ps)

placed_short : (cols : ℕ) (k : Key) (v : ℤ) (ps : List Pair) → 1 ≤ cols → length ps ≤ cols → length (placed cols k v ps) ≤ cols
placed_short cols k v ps some short = go (is_listed k ps) (ltb (length ps) cols) refl
  where
    last : Pair
    last = record { key = k; best = v }

    go : (l r : Bool) → ltb (length ps) cols ≡ r → length (cond l (map (raised k v) ps) (cond r (ps ++ last ∷ []) (take (cols - 1) ps ++ last ∷ []))) ≤ cols
    go true r e = omega (arith, length-raised (raised k v) ps, short)
    go false true e = omega (arith, length-append ps (last ∷ []), ltb-true (length ps) cols e)
    go false false e = omega (arith, length-append (take (cols - 1) ps) (last ∷ []), length-take (cols - 1) ps)

pub pairs_short : (s : Sizes) (before : List (ℕ × Row)) (i : ℕ) → 1 ≤ s.cols → length (pairs_after s before i) ≤ s.cols
pairs_short s [] i some = omega arith
pairs_short s (x ∷ before) i some = go (x.1.bit && nat_eq (hash_row s (key_of s x.1)) i) (pairs_short s before i some)
  where
    go : (t : Bool) → length (pairs_after s before i) ≤ s.cols → length (cond t (placed s.cols (key_of s x.1) (value_of s x.1) (pairs_after s before i)) (pairs_after s before i)) ≤ s.cols
    go true ih = placed_short s.cols (key_of s x.1) (value_of s x.1) (pairs_after s before i) some ih
    go false ih = ih

-- no key twice

abbrev pub NoneTwice : List Pair → Type 0
NoneTwice [] = Unit {0}
NoneTwice (p ∷ ps) = (is_listed p.key ps ≡ false) × NoneTwice ps

raised_key : (k : Key) (v : ℤ) (p : Pair) → (raised k v p).key ≡ p.key
raised_key k v p = go (is_key k p.key && int_lt p.best v)
  where
    go : (b : Bool) → (cond {A = Pair} b (record { key = p.key; best = v }) p).key ≡ p.key
    go true = refl
    go false = refl

listed_raised : (j k : Key) (v : ℤ) (ps : List Pair) → is_listed j (map (raised k v) ps) ≡ is_listed j ps
listed_raised j k v [] = refl
listed_raised j k v (p ∷ ps) = ap₂ (λ (x : Key) (b : Bool). is_key j x || b) (raised_key k v p) (listed_raised j k v ps)

raised_once : (k : Key) (v : ℤ) (ps : List Pair) → NoneTwice ps → NoneTwice (map (raised k v) ps)
raised_once k v [] none = tt
raised_once k v (p ∷ ps) none = (ap (λ (x : Key). is_listed x (map (raised k v) ps)) (raised_key k v p) ∙ (listed_raised p.key k v ps ∙ none.0), raised_once k v ps none.1)

listed_pushed : (j : Key) (ps : List Pair) (q : Pair) → is_listed j ps ≡ false → is_key j q.key ≡ false → is_listed j (ps ++ q ∷ []) ≡ false
listed_pushed j [] q h e = ap (λ (b : Bool). b || false) e
listed_pushed j (p ∷ ps) q h e = let parts = or_parts (is_key j p.key) (is_listed j ps) h in or_from (is_key j p.key) (is_listed j (ps ++ q ∷ [])) parts.0 (listed_pushed j ps q parts.1 e)

pushed_once : (ps : List Pair) (q : Pair) → NoneTwice ps → is_listed q.key ps ≡ false → NoneTwice (ps ++ q ∷ [])
pushed_once [] q none fresh = (refl, tt)
pushed_once (p ∷ ps) q none fresh =
    let parts = or_parts (is_key q.key p.key) (is_listed q.key ps) fresh in
    let other : is_key p.key q.key ≡ false =
    false_from_ne_true (is_key p.key q.key) (λ t. cc (parts.0, ap (is_key q.key) (sym (key_is p.key q.key t)) ∙ key_itself q.key)) in
    (listed_pushed p.key ps q none.0 other, pushed_once ps q none.1 parts.1)

listed_taken : (j : Key) (n : ℕ) (ps : List Pair) → is_listed j (take n ps) ≡ true → is_listed j ps ≡ true
listed_taken j zero ps h = absurd cc
listed_taken j (suc n) [] h = h
listed_taken j (suc n) (p ∷ ps) h = elim (or_cases (is_key j p.key) (is_listed j (take n ps)) h) [
  | inl e ↦ or_left (is_key j p.key) (is_listed j ps) e
  | inr e ↦ or_right (is_key j p.key) (is_listed j ps) (listed_taken j n ps e)
]

not_taken : (j : Key) (n : ℕ) (ps : List Pair) → is_listed j ps ≡ false → is_listed j (take n ps) ≡ false
not_taken j n ps h = false_from_ne_true (is_listed j (take n ps)) (λ t. cc (h, listed_taken j n ps t))

taken_once : (n : ℕ) (ps : List Pair) → NoneTwice ps → NoneTwice (take n ps)
taken_once zero ps none = tt
taken_once (suc n) [] none = tt
taken_once (suc n) (p ∷ ps) none = (not_taken p.key n ps none.0, taken_once n ps none.1)

placed_once : (cols : ℕ) (k : Key) (v : ℤ) (ps : List Pair) → NoneTwice ps → NoneTwice (placed cols k v ps)
placed_once cols k v ps none = go (is_listed k ps) refl (ltb (length ps) cols)
  where
    last : Pair
    last = record { key = k; best = v }

    go : (l : Bool) → is_listed k ps ≡ l → (r : Bool) → NoneTwice (cond l (map (raised k v) ps) (cond r (ps ++ last ∷ []) (take (cols - 1) ps ++ last ∷ [])))
    go true e r = raised_once k v ps none
    go false e true = pushed_once ps last none e
    go false e false = pushed_once (take (cols - 1) ps) last (taken_once (cols - 1) ps none) (not_taken k (cols - 1) ps e)

pub pairs_once : (s : Sizes) (before : List (ℕ × Row)) (i : ℕ) → NoneTwice (pairs_after s before i)
pairs_once s [] i = tt
pairs_once s (x ∷ before) i = go (x.1.bit && nat_eq (hash_row s (key_of s x.1)) i) (pairs_once s before i)
  where
    go : (t : Bool) → NoneTwice (pairs_after s before i) → NoneTwice (cond t (placed s.cols (key_of s x.1) (value_of s x.1) (pairs_after s before i)) (pairs_after s before i))
    go true ih = placed_once s.cols (key_of s x.1) (value_of s x.1) (pairs_after s before i) ih
    go false ih = ih

-- keys of n words

abbrev pub AreFormed : ℕ → List Pair → Type 0
AreFormed n [] = Unit {0}
AreFormed n (p ∷ ps) = (length p.key ≡ n) × AreFormed n ps

formed_pushed : (n : ℕ) (ps : List Pair) (p : Pair) → AreFormed n ps → length p.key ≡ n → AreFormed n (ps ++ p ∷ [])
formed_pushed n [] p f e = (e, tt)
formed_pushed n (x ∷ ps) p f e = (f.0, formed_pushed n ps p f.1 e)

formed_taken : (n m : ℕ) (ps : List Pair) → AreFormed n ps → AreFormed n (take m ps)
formed_taken n zero ps f = tt
formed_taken n (suc m) [] f = tt
formed_taken n (suc m) (p ∷ ps) f = (f.0, formed_taken n m ps f.1)

formed_raised : (n : ℕ) (k : Key) (v : ℤ) (ps : List Pair) → AreFormed n ps → AreFormed n (map (raised k v) ps)
formed_raised n k v [] f = tt
formed_raised n k v (p ∷ ps) f = (ap length (raised_key k v p) ∙ f.0, formed_raised n k v ps f.1)

formed_placed : (n cols : ℕ) (k : Key) (v : ℤ) (ps : List Pair) → AreFormed n ps → length k ≡ n → AreFormed n (placed cols k v ps)
formed_placed n cols k v ps f e = go (is_listed k ps) (ltb (length ps) cols)
  where
    last : Pair
    last = record { key = k; best = v }

    go : (a b : Bool) → AreFormed n (cond a (map (raised k v) ps) (cond b (ps ++ last ∷ []) (take (cols - 1) ps ++ last ∷ [])))
    go true b = formed_raised n k v ps f
    go false true = formed_pushed n ps last f e
    go false false = formed_pushed n (take (cols - 1) ps) last (formed_taken n (cols - 1) ps f) e

pub length_key : (r : Row) (places : List ℕ) → length (map (word_at r) places) ≡ length places
length_key r [] = refl
length_key r (p ∷ places) = ap suc (length_key r places)

pub pairs_formed : (s : Sizes) (before : List (ℕ × Row)) (i : ℕ) → AreFormed (length s.key) (pairs_after s before i)
pairs_formed s [] i = tt
pairs_formed s (x ∷ before) i = go (x.1.bit && nat_eq (hash_row s (key_of s x.1)) i) (pairs_formed s before i)
  where
    go : (t : Bool) → AreFormed (length s.key) (pairs_after s before i)
        → AreFormed (length s.key) (cond t (placed s.cols (key_of s x.1) (value_of s x.1) (pairs_after s before i)) (pairs_after s before i))
    go true ih = formed_placed (length s.key) s.cols (key_of s x.1) (value_of s x.1) (pairs_after s before i) ih (length_key x.1 s.key)
    go false ih = ih
