-- What the program makes of the stored points is what the policy makes of them.
use Rattle.std.proofs.Common.{◌≡◌, ◌<◌, ◌≤◌, ℕ, zero, suc, ◌+◌, Bool, true, false, cond, List, [], ◌∷◌, ◌++◌, ℤ, pos, ◌+ℤ◌, ◌≤ℤ◌, ◌<ℤ◌, int_le, int_lt, refl, sym, ◌∙◌, ap, ap₂, arith, Option, Some, None, length, take, inl, inr}
use Rattle.std.specs.Prelude.{if◌then◌else◌, ◌||◌, ◌&&◌, not}
use Rattle.std.specs.List.{list_any}
use Rattle.std.proofs.lemmas.Bool.{and_parts}
use Rattle.std.proofs.lemmas.Int.{ints}
use Rattle.ch_lists.specs.Members.{Each}
use Rattle.op_skyline.specs.Policy.{is_as_good, is_better, dominates, score, inserted, stored_after}
use Rattle.op_skyline.specs.Run.{all_le}
use Rattle.op_skyline.specs.Settled.{largest, old_values, settled, stays}
use Rattle.op_skyline.specs.Stored.{NeverRise}

-- the stored points, and those that aren't there yet
abbrev pub pad : ℕ → List (List ℤ) → List (Option (List ℤ))
pad zero l = []
pad (suc m) [] = None ∷ pad m []
pad (suc m) (p ∷ l) = Some p ∷ pad m l

pub pad_taken : (m : ℕ) (l : List (List ℤ)) → pad m (take m l) ≡ pad m l
pad_taken zero l = refl
pad_taken (suc m) [] = refl
pad_taken (suc m) (p ∷ l) = ap (λ (x : List (Option (List ℤ))). Some p ∷ x) (pad_taken m l)

pub pad_long : (m : ℕ) (l : List (List ℤ)) → length (pad m l) ≡ m
pad_long zero l = refl
pad_long (suc m) [] = ap suc (pad_long m [])
pad_long (suc m) (p ∷ l) = ap suc (pad_long m l)

-- points of n values, with a score below the greatest word
abbrev pub AreGood : ℕ → List (List ℤ) → Type 0
AreGood n [] = Unit {0}
AreGood n (p ∷ l) = ((length p ≡ n) × (int_lt (score p) largest ≡ true)) × AreGood n l

and_false : (b : Bool) → (b && false) ≡ false
and_false true = refl
and_false false = refl

pub settled_off : (n : ℕ) (sx : ℤ) (xs : List ℤ) (ds : List (Option (List ℤ))) (shift : Bool) (c : Option (List ℤ)) → settled n sx xs ds false shift c ≡ ds
settled_off n sx xs [] shift c = refl
settled_off n sx xs (d ∷ ds) shift c =
    ap (λ (g : Bool). d ∷ settled n sx xs ds g false c) (and_false (not (not false && (int_lt sx (pos 0) && all_le xs (old_values n false d)))))
    ∙ ap (λ (x : List (Option (List ℤ))). d ∷ x) (settled_off n sx xs ds false c)

pub stays_off : (n : ℕ) (sx : ℤ) (xs : List ℤ) (ds : List (Option (List ℤ))) (shift : Bool) → stays n sx xs ds false shift ≡ false
stays_off n sx xs [] shift = refl
stays_off n sx xs (d ∷ ds) shift =
    ap (λ (g : Bool). stays n sx xs ds g false) (and_false (not (not false && (int_lt sx (pos 0) && all_le xs (old_values n false d))))) ∙ stays_off n sx xs ds false

shift_none : (n : ℕ) (sx : ℤ) (xs : List ℤ) (m : ℕ) → settled n sx xs (pad m []) true true None ≡ pad m []
shift_none n sx xs zero = refl
shift_none n sx xs (suc m) = ap (λ (x : List (Option (List ℤ))). None ∷ x) (shift_none n sx xs m)

shift_some : (n : ℕ) (sx : ℤ) (xs : List ℤ) (m : ℕ) (l : List (List ℤ)) (c : List ℤ) → AreGood n l → settled n sx xs (pad m l) true true (Some c) ≡ pad m (c ∷ l)
shift_some n sx xs zero l c h = refl
shift_some n sx xs (suc m) [] c h = ap (λ (x : List (Option (List ℤ))). Some c ∷ x) (shift_none n sx xs m)
shift_some n sx xs (suc m) (q ∷ l) c h = rw h.0.1 (ap (λ (x : List (Option (List ℤ))). Some c ∷ x) (shift_some n sx xs m l q h.1))

shift_stays : (n : ℕ) (sx : ℤ) (xs : List ℤ) (m : ℕ) (l : List (List ℤ)) → AreGood n l → stays n sx xs (pad m l) true true ≡ true
shift_stays n sx xs zero l h = refl
shift_stays n sx xs (suc m) [] h = shift_stays n sx xs m [] tt
shift_stays n sx xs (suc m) (q ∷ l) h =
    ap (λ (b : Bool). stays n sx xs (pad m l) (not (not b && (int_lt sx (score q) && all_le xs q)) && true) b) h.0.1 ∙ shift_stays n sx xs m l h.1

lt_true : (a b : ℤ) → int_lt a b ≡ true → a <ℤ b
lt_true a b h = grind (arith, ints)

lt_false : (a b : ℤ) → int_lt a b ≡ false → b ≤ℤ a
lt_false a b h = grind (arith, ints)

le_true : (a b : ℤ) → int_le a b ≡ true → a ≤ℤ b
le_true a b h = grind (arith, ints)

true_le : (a b : ℤ) → a ≤ℤ b → int_le a b ≡ true
true_le a b h = grind (arith, ints)

false_le : (a b : ℤ) → b <ℤ a → int_le a b ≡ false
false_le a b h = grind (arith, ints)

add_lt : (y x a b : ℤ) → y ≤ℤ x → a ≤ℤ b → (int_lt y x || int_lt a b) ≡ int_lt (y +ℤ a) (x +ℤ b)
add_lt y x a b h i = go (int_lt y x) refl (int_lt a b) refl (int_lt (y +ℤ a) (x +ℤ b)) refl
  where
    go : (p : Bool) → int_lt y x ≡ p → (q : Bool) → int_lt a b ≡ q → (r : Bool) → int_lt (y +ℤ a) (x +ℤ b) ≡ r → (p || q) ≡ r
    go true ep q eq true er = refl
    go true ep q eq false er = let e = lt_true y x ep in let f = lt_false (y +ℤ a) (x +ℤ b) er in absurd (omega (arith, ints))
    go false ep true eq true er = refl
    go false ep true eq false er = let e = lt_true a b eq in let f = lt_false (y +ℤ a) (x +ℤ b) er in absurd (omega (arith, ints))
    go false ep false eq false er = refl
    go false ep false eq true er = let e = lt_false y x ep in let f = lt_false a b eq in let g = lt_true (y +ℤ a) (x +ℤ b) er in absurd (omega (arith, ints))

-- a point that is as good as another has no smaller score, and is better where its score is greater
better_is : (q p : List ℤ) → is_as_good q p ≡ true → (score p ≤ℤ score q) × (is_better q p ≡ int_lt (score p) (score q))
better_is [] [] h = (omega (arith, ints), refl)
better_is [] (y ∷ p) h = absurd (cc)
better_is (x ∷ q) [] h = absurd (cc)
better_is (x ∷ q) (y ∷ p) h =
    let parts = and_parts (int_le y x) (is_as_good q p) h in
    let more = better_is q p parts.1 in
    let le = le_true y x parts.0 in
    let rest = more.0 in
    (omega (arith, ints), ap (λ (b : Bool). int_lt y x || b) more.1 ∙ add_lt y x (score p) (score q) le rest)

as_good_is : (q p : List ℤ) → length q ≡ length p → is_as_good q p ≡ all_le p q
as_good_is [] [] h = refl
as_good_is [] (y ∷ p) h = absurd (omega arith)
as_good_is (x ∷ q) [] h = absurd (omega arith)
as_good_is (x ∷ q) (y ∷ p) h = ap (λ (b : Bool). int_le y x && b) (as_good_is q p (omega arith))

-- the test of a stage
test_is : (q p : List ℤ) → length q ≡ length p → (int_lt (score p) (score q) && all_le p q) ≡ dominates q p
test_is q p h = ap (λ (b : Bool). int_lt (score p) (score q) && b) (sym (as_good_is q p h)) ∙ go (is_as_good q p) refl
  where
    and_none : (b : Bool) → (b && false) ≡ false
    and_none true = refl
    and_none false = refl

    and_all : (b : Bool) → (b && true) ≡ b
    and_all true = refl
    and_all false = refl

    go : (g : Bool) → is_as_good q p ≡ g → (int_lt (score p) (score q) && g) ≡ (g && is_better q p)
    go true e = and_all (int_lt (score p) (score q)) ∙ sym (better_is q p e).1
    go false e = and_none (int_lt (score p) (score q))

-- a point of a smaller score doesn't dominate
none_lower : (q p : List ℤ) → score q <ℤ score p → dominates q p ≡ false
none_lower q p h = go (is_as_good q p) refl
  where
    go : (g : Bool) → is_as_good q p ≡ g → (g && is_better q p) ≡ false
    go false e = refl
    go true e = let l = (better_is q p e).0 in absurd (omega (arith, ints))

none_dominates : (l : List (List ℤ)) (p : List ℤ) → Each (λ s. score s <ℤ score p) l → list_any (λ s. dominates s p) l ≡ false
none_dominates [] p h = refl
none_dominates (q ∷ l) p h = rw (none_lower q p (h q (inl refl))) (none_dominates l p (λ s i. h s (inr i)))

none_after : (q : List ℤ) (l : List (List ℤ)) (p : List ℤ) → score q <ℤ score p → Each (λ t. score t ≤ℤ score q) l → list_any (λ s. dominates s p) (q ∷ l) ≡ false
none_after q l p h e = none_dominates (q ∷ l) p (λ s i. elim i [ inl same ↦ Rattle.std.proofs.Common.subst (λ (t : List ℤ). score t <ℤ score p) (sym same) h | inr j ↦ (let le = e s j in let r : score s <ℤ score p = omega (arith, ints) in r) ])

pub stays_is : (n m : ℕ) (p : List ℤ) (l : List (List ℤ)) → length p ≡ n → length l ≤ m → AreGood n l → NeverRise l → stays n (score p) p (pad m l) true false ≡ not (list_any (λ s. dominates s p) l)
stays_is n zero p [] lp short good falls = refl
stays_is n zero p (q ∷ l) lp short good falls = absurd (omega arith)
stays_is n (suc m) p [] lp short good falls = shift_stays n (score p) p m [] tt
stays_is n (suc m) p (q ∷ l) lp short good falls = go (stays_is n m p l lp (omega arith) good.1 falls.1) (int_lt (score q) (score p)) refl (dominates q p) refl
  where
    test : (int_lt (score p) (score q) && all_le p q) ≡ dominates q p
    test = test_is q p (good.0.0 ∙ sym lp)

    go : stays n (score p) p (pad m l) true false ≡ not (list_any (λ s. dominates s p) l) → (h : Bool) → int_lt (score q) (score p) ≡ h → (b : Bool) → dominates q p ≡ b
        → stays n (score p) p (pad (suc m) (q ∷ l)) true false ≡ not (list_any (λ s. dominates s p) (q ∷ l))
    go ih true e b eb =
        ap (λ (h : Bool). stays n (score p) p (pad m l) (not (not h && (int_lt (score p) (score q) && all_le p q)) && true) h) e ∙ shift_stays n (score p) p m l good.1
        ∙ ap not (sym (none_after q l p (lt_true (score q) (score p) e) falls.0))
    go ih false e b eb =
        ap (λ (h : Bool). stays n (score p) p (pad m l) (not (not h && (int_lt (score p) (score q) && all_le p q)) && true) h) e
        ∙ ap (λ (t : Bool). stays n (score p) p (pad m l) (not t && true) false) (test ∙ eb) ∙ rest b
        ∙ ap (λ (t : Bool). not (t || list_any (λ s. dominates s p) l)) (sym eb)
      where
        rest : (t : Bool) → stays n (score p) p (pad m l) (not t && true) false ≡ not (t || list_any (λ s. dominates s p) l)
        rest true = stays_off n (score p) p (pad m l) false
        rest false = ih

whole_is : (n m : ℕ) (p : List ℤ) (l : List (List ℤ)) → length p ≡ n → length l ≤ m → AreGood n l → NeverRise l
    → settled n (score p) p (pad m l) true false (Some p) ≡ pad m (if list_any (λ s. dominates s p) l then l else inserted p l)
whole_is n zero p [] lp short good falls = refl
whole_is n zero p (q ∷ l) lp short good falls = absurd (omega arith)
whole_is n (suc m) p [] lp short good falls = ap (λ (x : List (Option (List ℤ))). Some p ∷ x) (shift_none n (score p) p m)
whole_is n (suc m) p (q ∷ l) lp short good falls = go (whole_is n m p l lp (omega arith) good.1 falls.1) (int_lt (score q) (score p)) refl (dominates q p) refl
  where
    test : (int_lt (score p) (score q) && all_le p q) ≡ dominates q p
    test = test_is q p (good.0.0 ∙ sym lp)

    any : Bool
    any = list_any (λ s. dominates s p) l

    step : Bool → Bool → List (Option (List ℤ))
    step h t = (if h then Some p else Some q) ∷ settled n (score p) p (pad m l) (not (not h && t) && true) h (if h then Some q else Some p)

    pulled : (b : Bool) → Some q ∷ pad m (if b then l else inserted p l) ≡ pad (suc m) (if b then q ∷ l else q ∷ inserted p l)
    pulled true = refl
    pulled false = refl

    go : settled n (score p) p (pad m l) true false (Some p) ≡ pad m (if any then l else inserted p l) → (h : Bool) → int_lt (score q) (score p) ≡ h → (b : Bool) → dominates q p ≡ b
        → settled n (score p) p (pad (suc m) (q ∷ l)) true false (Some p) ≡ pad (suc m) (if (dominates q p || any) then q ∷ l else inserted p (q ∷ l))
    go ih true e b eb =
        let lower = lt_true (score q) (score p) e in
        ap (λ (h : Bool). step h (int_lt (score p) (score q) && all_le p q)) e ∙ ap (λ (x : List (Option (List ℤ))). Some p ∷ x) (shift_some n (score p) p m l q good.1)
        ∙ ap (λ (b : Bool). pad (suc m) (if b then q ∷ inserted p l else p ∷ q ∷ l)) (sym (false_le (score p) (score q) lower))
        ∙ ap (λ (b : Bool). pad (suc m) (if b then q ∷ l else inserted p (q ∷ l))) (sym (none_after q l p lower falls.0))
    go ih false e true eb =
        ap (λ (h : Bool). step h (int_lt (score p) (score q) && all_le p q)) e ∙ ap (step false) (test ∙ eb) ∙ ap (λ (x : List (Option (List ℤ))). Some q ∷ x) (settled_off n (score p) p (pad m l) false (Some p))
        ∙ ap (λ (b : Bool). pad (suc m) (if (b || any) then q ∷ l else inserted p (q ∷ l))) (sym eb)
    go ih false e false eb =
        ap (λ (h : Bool). step h (int_lt (score p) (score q) && all_le p q)) e ∙ ap (step false) (test ∙ eb) ∙ ap (λ (x : List (Option (List ℤ))). Some q ∷ x) ih ∙ pulled any
        ∙ ap (λ (b : Bool). pad (suc m) (if any then q ∷ l else (if b then q ∷ inserted p l else p ∷ q ∷ l))) (sym (true_le (score p) (score q) (lt_false (score q) (score p) e)))
        ∙ ap (λ (b : Bool). pad (suc m) (if (b || any) then q ∷ l else inserted p (q ∷ l))) (sym eb)

pub settled_is : (n m : ℕ) (p : List ℤ) (l : List (List ℤ)) → length p ≡ n → length l ≤ m → AreGood n l → NeverRise l
    → settled n (score p) p (pad m l) true false (Some p) ≡ pad m (stored_after m p l)
settled_is n m p l lp short good falls = whole_is n m p l lp short good falls ∙ cut (list_any (λ s. dominates s p) l)
  where
    cut : (b : Bool) → pad m (if b then l else inserted p l) ≡ pad m (if b then l else take m (inserted p l))
    cut true = refl
    cut false = sym (pad_taken m (inserted p l))
