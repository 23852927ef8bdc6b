-- The lines of the first keys, and of one key more.
use Rattle.std.proofs.Common.{◌≡◌, ℕ, zero, suc, ◌+◌, ◌<◌, ◌≤◌, Some, slice_get, Bool, true, false, cond, List, [], ◌∷◌, ◌++◌, length, get_or, take, refl, ap, sym, ◌∙◌, arith, add-one, ℤ, pos}
use Rattle.std.specs.Prelude.{int_lt}
use Rattle.std.proofs.lemmas.List.{map-append}
use Rattle.std.proofs.lemmas.Option.{slice_get-get_or}
use Rattle.ch_flat.specs.Flat.{Flat, pick, with_row}
use Rattle.ch_fold_groups.specs.Lines.{key_lines, keys_above, value_lines}

lines_next : (places : List ℕ) (ks : List (List ℤ)) (vs : List ℤ) (i : ℕ) → i < length ks → i < length vs
    → value_lines places (take (suc i) ks) (take (suc i) vs) ≡ value_lines places (take i ks) (take i vs) ++ pick (get_or ks i [] ++ get_or vs i (pos 0) ∷ []) places ∷ []
lines_next places [] vs i h j = absurd (omega arith)
lines_next places (k ∷ ks) [] i h j = absurd (omega arith)
lines_next places (k ∷ ks) (v ∷ vs) zero h j = refl
lines_next places (k ∷ ks) (v ∷ vs) (suc i) h j = ap (λ ls. pick (k ++ v ∷ []) places ∷ ls) (lines_next places ks vs i (omega arith) (omega arith))

above_next : (above : ℤ) (ks : List (List ℤ)) (vs : List ℤ) (i : ℕ) → i < length ks → i < length vs
    → keys_above above (take (suc i) ks) (take (suc i) vs) ≡ keys_above above (take i ks) (take i vs) ++ cond (int_lt above (get_or vs i (pos 0))) (get_or ks i [] ∷ []) []
above_next above [] vs i h j = absurd (omega arith)
above_next above (k ∷ ks) [] i h j = absurd (omega arith)
above_next above (k ∷ ks) (v ∷ vs) zero h j = refl
above_next above (k ∷ ks) (v ∷ vs) (suc i) h j = go (int_lt above v) (above_next above ks vs i (omega arith) (omega arith))
  where
    go : (t : Bool) → keys_above above (take (suc i) ks) (take (suc i) vs) ≡ keys_above above (take i ks) (take i vs) ++ cond (int_lt above (get_or vs i (pos 0))) (get_or ks i [] ∷ []) []
        → cond t (k ∷ keys_above above (take (suc i) ks) (take (suc i) vs)) (keys_above above (take (suc i) ks) (take (suc i) vs))
        ≡ cond t (k ∷ keys_above above (take i ks) (take i vs)) (keys_above above (take i ks) (take i vs)) ++ cond (int_lt above (get_or vs i (pos 0))) (get_or ks i [] ∷ []) []
    go true ih = ap (λ ls. k ∷ ls) ih
    go false ih = ih

pub lines_length : (places : List ℕ) (ks : List (List ℤ)) (vs : List ℤ) → length ks ≡ length vs → length (value_lines places ks vs) ≡ length vs
lines_length places [] [] e = refl
lines_length places [] (v ∷ vs) e = absurd (omega arith)
lines_length places (k ∷ ks) [] e = absurd (omega arith)
lines_length places (k ∷ ks) (v ∷ vs) e = ap suc (lines_length places ks vs (omega arith))

pub lines_more : (places : List ℕ) (ks : List (List ℤ)) (vs : List ℤ) (i : ℕ) → i < length ks → i < length vs
    → value_lines places (take (i + 1) ks) (take (i + 1) vs) ≡ value_lines places (take i ks) (take i vs) ++ pick (get_or ks i [] ++ get_or vs i (pos 0) ∷ []) places ∷ []
lines_more places ks vs i h j = ap (λ n. value_lines places (take n ks) (take n vs)) (add-one i) ∙ lines_next places ks vs i h j

pub above_more : (above : ℤ) (ks : List (List ℤ)) (vs : List ℤ) (i : ℕ) → i < length ks → i < length vs
    → keys_above above (take (i + 1) ks) (take (i + 1) vs) ≡ keys_above above (take i ks) (take i vs) ++ cond (int_lt above (get_or vs i (pos 0))) (get_or ks i [] ∷ []) []
above_more above ks vs i h j = ap (λ n. keys_above above (take n ks) (take n vs)) (add-one i) ∙ above_next above ks vs i h j

-- the value's word at a number
read_key : (ks : List (List ℤ)) (i : ℕ) (key : List ℤ) → i < length ks → slice_get ks i ≡ Some key → get_or ks i [] ≡ key
read_key ks i key h e = cc (slice_get-get_or ks i [] h, e)

pub lines_short : (places : List ℕ) (ks : List (List ℤ)) (vs : List ℤ) (i : ℕ) → length (value_lines places (take i ks) (take i vs)) ≤ i
lines_short places ks vs zero = omega arith
lines_short places [] vs (suc i) = omega arith
lines_short places (k ∷ ks) [] (suc i) = omega arith
lines_short places (k ∷ ks) (v ∷ vs) (suc i) = let h = lines_short places ks vs i in omega (arith, h)

pub above_short : (places : List ℕ) (above : ℤ) (ks : List (List ℤ)) (vs : List ℤ) (i : ℕ) → length (key_lines places (keys_above above (take i ks) (take i vs))) ≤ i
above_short places above ks vs zero = omega arith
above_short places above [] vs (suc i) = omega arith
above_short places above (k ∷ ks) [] (suc i) = omega arith
above_short places above (k ∷ ks) (v ∷ vs) (suc i) = go (int_lt above v) (above_short places above ks vs i)
  where
    go : (t : Bool) → length (key_lines places (keys_above above (take i ks) (take i vs))) ≤ i → length (key_lines places (cond t (k ∷ keys_above above (take i ks) (take i vs)) (keys_above above (take i ks) (take i vs)))) ≤ suc i
    go true h = omega (arith, h)
    go false h = omega (arith, h)

pub lines_step : (places : List ℕ) (ks : List (List ℤ)) (vs : List ℤ) (i : ℕ) (before after : Flat) (key : List ℤ) (v : ℤ) → i < length ks → i < length vs → slice_get ks i ≡ Some key → v ≡ get_or vs i (pos 0)
    → before ≡ record { width = length places; rows = value_lines places (take i ks) (take i vs) } → after ≡ with_row before (pick (key ++ v ∷ []) places)
    → after ≡ record { width = length places; rows = value_lines places (take (i + 1) ks) (take (i + 1) vs) }
lines_step places ks vs i before after key v h j key_is v_is b a =
    a ∙ ((λ t. with_row (b t) (pick (sym (read_key ks i key h key_is) t ++ v_is t ∷ []) places)) ∙ (λ t. record { width = length places; rows = sym (lines_more places ks vs i h j) t }))

pub above_step : (places : List ℕ) (above : ℤ) (ks : List (List ℤ)) (vs : List ℤ) (i : ℕ) (before after : Flat) (key : List ℤ) (v : ℤ) → i < length ks → i < length vs → slice_get ks i ≡ Some key → v ≡ get_or vs i (pos 0) → int_lt above v ≡ true
    → before ≡ record { width = length places; rows = key_lines places (keys_above above (take i ks) (take i vs)) } → after ≡ with_row before (pick (key ++ pos 0 ∷ []) places)
    → after ≡ record { width = length places; rows = key_lines places (keys_above above (take (i + 1) ks) (take (i + 1) vs)) }
above_step places above ks vs i before after key v h j key_is v_is t b a =
    let one : keys_above above (take (i + 1) ks) (take (i + 1) vs) ≡ keys_above above (take i ks) (take i vs) ++ get_or ks i [] ∷ [] =
    above_more above ks vs i h j ∙ ap (λ p. keys_above above (take i ks) (take i vs) ++ cond p (get_or ks i [] ∷ []) []) (ap (int_lt above) (sym v_is) ∙ t) in
    a ∙ ((λ s. with_row (b s) (pick (sym (read_key ks i key h key_is) s ++ pos 0 ∷ []) places))
    ∙ (λ s. record { width = length places; rows = (sym (ap (key_lines places) one ∙ map-append (λ (k : List ℤ). pick (k ++ pos 0 ∷ []) places) (keys_above above (take i ks) (take i vs)) (get_or ks i [] ∷ []))) s }))

nothing : (xs : List (List ℤ)) → xs ++ [] ≡ xs
nothing [] = refl
nothing (x ∷ xs) = ap (λ ys. x ∷ ys) (nothing xs)

pub below_step : (places : List ℕ) (above : ℤ) (ks : List (List ℤ)) (vs : List ℤ) (i : ℕ) (before : Flat) (v : ℤ) → i < length ks → i < length vs → v ≡ get_or vs i (pos 0) → int_lt above v ≡ false
    → before ≡ record { width = length places; rows = key_lines places (keys_above above (take i ks) (take i vs)) }
    → before ≡ record { width = length places; rows = key_lines places (keys_above above (take (i + 1) ks) (take (i + 1) vs)) }
below_step places above ks vs i before v h j v_is t b =
    let one : keys_above above (take (i + 1) ks) (take (i + 1) vs) ≡ keys_above above (take i ks) (take i vs) ++ [] =
    above_more above ks vs i h j ∙ ap (λ p. keys_above above (take i ks) (take i vs) ++ cond p (get_or ks i [] ∷ []) []) (ap (int_lt above) (sym v_is) ∙ t) in
    b ∙ (λ s. record { width = length places; rows = ap (key_lines places) (sym (one ∙ nothing (keys_above above (take i ks) (take i vs)))) s })
