-- The words at the first places.
use Rattle.std.proofs.Common.{◌≡◌, ℕ, zero, suc, ◌<◌, ◌≤◌, List, [], ◌∷◌, ◌++◌, length, take, refl, ap, sym, ◌∙◌, length-append, arith, add-one, ℤ, pos}
use Rattle.std.specs.Prelude.{slice_index_or}
use Rattle.std.proofs.lemmas.List.{map-append, take_more}
use Rattle.ch_flat.specs.Flat.{pick}
use Rattle.ch_fold_pairs.specs.Places.{firsts}

pub firsts_length : (n : ℕ) → length (firsts n) ≡ n
firsts_length zero = refl
firsts_length (suc n) = omega (arith, length-append (firsts n) (n ∷ []), firsts_length n)

pub pick_append : (ws : List ℤ) (ps qs : List ℕ) → pick ws (ps ++ qs) ≡ pick ws ps ++ pick ws qs
pick_append ws ps qs = map-append (λ place. slice_index_or ws place (pos 0)) ps qs

pub pick_firsts : (ws : List ℤ) (n : ℕ) → n ≤ length ws → pick ws (firsts n) ≡ take n ws
pick_firsts ws zero h = refl
pick_firsts ws (suc n) h =
    let below : n < length ws = omega (arith, h) in
    pick_append ws (firsts n) (n ∷ [])
    ∙ (ap (λ us. us ++ slice_index_or ws n (pos 0) ∷ []) (pick_firsts ws n (omega (arith, h))) ∙ (sym (take_more ws n (pos 0) below) ∙ ap (λ k. take k ws) (add-one n)))

take_all : (ws : List ℤ) → take (length ws) ws ≡ ws
take_all [] = refl
take_all (w ∷ ws) = ap (λ us. w ∷ us) (take_all ws)

pub pick_whole : (ws : List ℤ) (n : ℕ) → length ws ≡ n → pick ws (firsts n) ≡ ws
pick_whole ws n e = pick_firsts ws n (omega (arith, e)) ∙ (ap (λ k. take k ws) (sym e) ∙ take_all ws)

front_all : (xs ys : List ℤ) → take (length xs) (xs ++ ys) ≡ xs
front_all [] ys = refl
front_all (x ∷ xs) ys = ap (λ us. x ∷ us) (front_all xs ys)

pub take_front : (xs ys : List ℤ) (n : ℕ) → length xs ≡ n → take n (xs ++ ys) ≡ xs
take_front xs ys n e = ap (λ k. take k (xs ++ ys)) (sym e) ∙ front_all xs ys

next_all : (xs : List ℤ) (y : ℤ) → slice_index_or (xs ++ y ∷ []) (length xs) (pos 0) ≡ y
next_all [] y = refl
next_all (x ∷ xs) y = next_all xs y

pub next_word : (xs : List ℤ) (y : ℤ) (n : ℕ) → length xs ≡ n → slice_index_or (xs ++ y ∷ []) n (pos 0) ≡ y
next_word xs y n e = ap (λ k. slice_index_or (xs ++ y ∷ []) k (pos 0)) (sym e) ∙ next_all xs y

pub pick_front : (xs ys : List ℤ) (n : ℕ) → length xs ≡ n → pick (xs ++ ys) (firsts n) ≡ xs
pick_front xs ys n e = pick_firsts (xs ++ ys) n (omega (arith, e, length-append xs ys)) ∙ take_front xs ys n e
