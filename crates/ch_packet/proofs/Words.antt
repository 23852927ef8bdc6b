-- Words and their bytes.
use Rattle.std.proofs.Common.{◌≡◌, ℕ, zero, suc, ◌+◌, ◌-◌, ◌*◌, ◌/◌, ◌^◌, ◌<◌, ◌≤◌, ℤ, List, [], ◌∷◌, ◌++◌, length, take, drop, Some, refl, ap, sym, subst, ◌∙◌, arith, length-drop, inl, inr, lit<}
use Rattle.std.specs.Prelude.{All, FitsSigned, slice_index, slice_get}
use Rattle.std.specs.Int.{w64, to_be_bytes, from_be_bytes, cast_signed, cast_unsigned}
use Rattle.std.specs.List.{flat_map}
use Rattle.std.proofs.Math.Facts.{Fits-of_z, Fits-of_lt, sfits_to_z}
use Rattle.std.proofs.Math.Nat.{div-eq_of_eq-mul_right}
use Rattle.std.proofs.lemmas.Int.{to_z-of_z, of_z-to_z}
use Rattle.std.proofs.lemmas.List.{get_or-take, get_or-drop, get_or_past, length-take, length-take-le, take-append-drop, take_all, drop-drop, append_assoc}
use Rattle.std.proofs.lemmas.List.Elements.{All-head, All-tail, All-cons, All-nil}
use Rattle.std.proofs.lemmas.Bool.{cases_lt}
use Rattle.std.proofs.lemmas.Nat.{be_bytes_8, from_be_bytes-to_be_bytes_8}
use Rattle.ch_packet.specs.Spelling.{word_bytes}
use Rattle.ch_packet.specs.View.{word_of, words_from, words_of}

-- each element is a byte
pub record AreBytes (bytes : List ℕ) : Type 0 where
  pub each : (i : ℕ) → slice_index bytes i < 256

pub word_of-word_bytes : (word : ℤ) → FitsSigned w64 word → word_of (word_bytes word) ≡ word
word_of-word_bytes word fits =
    ap (cast_signed w64) (from_be_bytes-to_be_bytes_8 (cast_unsigned w64 word) (Fits-of_z fits).fits) ∙ to_z-of_z w64 word fits

-- eight bytes are below 2 ^ 64
pub from_be_bytes_8-below : (bytes : List ℕ) → AreBytes bytes → from_be_bytes w64 bytes < 2 ^ 64
from_be_bytes_8-below bytes are =
    let b0 : slice_index bytes 0 < 256 = are.each 0 in
    let b1 : slice_index bytes 1 < 256 = are.each 1 in
    let b2 : slice_index bytes 2 < 256 = are.each 2 in
    let b3 : slice_index bytes 3 < 256 = are.each 3 in
    let b4 : slice_index bytes 4 < 256 = are.each 4 in
    let b5 : slice_index bytes 5 < 256 = are.each 5 in
    let b6 : slice_index bytes 6 < 256 = are.each 6 in
    let b7 : slice_index bytes 7 < 256 = are.each 7 in
    omega arith

pub word_bytes-word_of : (bytes : List ℕ) → length bytes ≡ 8 → AreBytes bytes → word_bytes (word_of bytes) ≡ bytes
word_bytes-word_of bytes eight are =
    ap (to_be_bytes w64) (of_z-to_z w64 (from_be_bytes w64 bytes) (from_be_bytes_8-below bytes are))
    ∙ be_bytes_8 bytes (from_be_bytes w64 bytes) eight are.each refl

pub word_of_fits : (bytes : List ℕ) → AreBytes bytes → FitsSigned w64 (word_of bytes)
word_of_fits bytes are = sfits_to_z (Fits-of_lt (from_be_bytes_8-below bytes are))

pub AreBytes-take : (n : ℕ) (bytes : List ℕ) → AreBytes bytes → AreBytes (take n bytes)
AreBytes-take n bytes are = record {
  each = λ i. elim (cases_lt i n) [
    | inl low ↦ subst (λ b. b < 256) (sym (get_or-take n bytes i 0 low)) (are.each i)
    | inr high ↦ subst (λ b. b < 256) (sym (get_or_past (take n bytes) i 0 (omega (arith, length-take n bytes)))) (lit< tt)
  ];
}

pub AreBytes-drop : (n : ℕ) (bytes : List ℕ) → AreBytes bytes → AreBytes (drop n bytes)
AreBytes-drop n bytes are = record { each = λ i. subst (λ b. b < 256) (sym (get_or-drop n bytes i 0)) (are.each (n + i)) }

pub length-words_from : (n : ℕ) (body : List ℕ) → length (words_from n body) ≡ n
length-words_from zero body = refl
length-words_from (suc n) body = ap suc (length-words_from n (drop 8 body))

-- the bytes of the words of a body are the body
pub flat_map-words_from : (n : ℕ) (body : List ℕ) → length body ≡ 8 * n → AreBytes body → flat_map word_bytes (words_from n body) ≡ body
flat_map-words_from zero [] whole are = refl
flat_map-words_from zero (b ∷ body) whole are = absurd (omega arith)
flat_map-words_from (suc n) body whole are =
    let long : 8 ≤ length body = omega arith in
    let first : word_bytes (word_of (take 8 body)) ≡ take 8 body
    = word_bytes-word_of (take 8 body) (length-take-le 8 body long) (AreBytes-take 8 body are) in
    let short : length (drop 8 body) ≡ 8 * n = omega (arith, length-drop 8 body) in
    let others : flat_map word_bytes (words_from n (drop 8 body)) ≡ drop 8 body
    = flat_map-words_from n (drop 8 body) short (AreBytes-drop 8 body are) in
    ap (λ front. front ++ flat_map word_bytes (words_from n (drop 8 body))) first ∙ ap (λ rest. take 8 body ++ rest) others ∙ take-append-drop 8 body

-- the words of the bytes of words are the words
pub words_from-flat_map : (words : List ℤ) → All (FitsSigned w64) words → words_from (length words) (flat_map word_bytes words) ≡ words
words_from-flat_map [] fit = refl
words_from-flat_map (word ∷ words) fit =
    let first : word_of (word_bytes word) ≡ word = word_of-word_bytes word (All-head (FitsSigned w64) word words fit) in
    let others : words_from (length words) (flat_map word_bytes words) ≡ words = words_from-flat_map words (All-tail (FitsSigned w64) word words fit) in
    ap (λ w. w ∷ words_from (length words) (flat_map word_bytes words)) first ∙ ap (λ ws. word ∷ ws) others

pub length-flat_map-word_bytes : (words : List ℤ) → length (flat_map word_bytes words) ≡ 8 * length words
length-flat_map-word_bytes [] = refl
length-flat_map-word_bytes (word ∷ words) =
    let others : length (flat_map word_bytes words) ≡ 8 * length words = length-flat_map-word_bytes words in
    omega arith

pub words_fit : (n : ℕ) (body : List ℕ) → AreBytes body → All (FitsSigned w64) (words_from n body)
words_fit zero body are = All-nil (FitsSigned w64)
words_fit (suc n) body are =
    All-cons (FitsSigned w64) (word_of (take 8 body)) (words_from n (drop 8 body)) (word_of_fits (take 8 body) (AreBytes-take 8 body are)) (words_fit n (drop 8 body) (AreBytes-drop 8 body are))

pub words_of-flat_map : (words : List ℤ) → All (FitsSigned w64) words → words_of (flat_map word_bytes words) ≡ words
unfolding words_of
words_of-flat_map words fit =
    let count : length (flat_map word_bytes words) / 8 ≡ length words = div-eq_of_eq-mul_right (omega arith) (length-flat_map-word_bytes words) in
    rw count (words_from-flat_map words fit)

pub slice_get-words_from : (n i : ℕ) (body : List ℕ) → i < n → slice_get (words_from n body) i ≡ Some (word_of (take 8 (drop (8 * i) body)))
slice_get-words_from zero i body below = absurd (omega arith)
slice_get-words_from (suc n) zero body below = refl
slice_get-words_from (suc n) (suc i) body below =
    let place : 8 + 8 * i ≡ 8 * suc i = omega arith in
    slice_get-words_from n i (drop 8 body) (omega arith)
    ∙ ap (λ rest. Some (word_of (take 8 rest))) (drop-drop (8 * i) 8 body ∙ ap (λ k. drop k body) place)

-- the word that stands at a place of a body
pub slice_get-words_of : (body chunk : List ℕ) (i at number : ℕ) (word : ℤ) → length body ≡ 8 * length (words_of body) → i < length (words_of body)
    → at ≡ i → chunk ≡ take 8 (take (length body - 8 * at) (drop (8 * at) body)) → number ≡ from_be_bytes w64 chunk → number < 2 ^ 64
    → word ≡ cast_signed w64 number → slice_get (words_of body) i ≡ Some (cast_signed w64 (cast_unsigned w64 word))
unfolding words_of
slice_get-words_of body chunk i at number word whole there place bytes reads small shows =
    let count : length (words_from (length body / 8) body) ≡ length body / 8 = length-words_from (length body / 8) body in
    let below : i < length body / 8 = subst (λ n. i < n) count there in
    let rest : take (length body - 8 * at) (drop (8 * at) body) ≡ drop (8 * i) body
    = take_all (length body - 8 * at) (drop (8 * at) body) (omega (arith, length-drop (8 * at) body)) ∙ ap (λ k. drop (8 * k) body) place in
    let read : number ≡ from_be_bytes w64 (take 8 (drop (8 * i) body)) = reads ∙ ap (from_be_bytes w64) (bytes ∙ ap (take 8) rest) in
    let back : cast_signed w64 (cast_unsigned w64 word) ≡ cast_signed w64 number
    = ap (λ z. cast_signed w64 (cast_unsigned w64 z)) shows ∙ ap (cast_signed w64) (of_z-to_z w64 number small) in
    slice_get-words_from (length body / 8) i body below ∙ ap Some (sym (back ∙ ap (cast_signed w64) read))

-- the front of a list with one more of its items
take_more : {A : Type 0} (xs : List A) (i : ℕ) (x : A) → slice_get xs i ≡ Some x → take (i + 1) xs ≡ take i xs ++ x ∷ []
take_more [] i x h = absurd cc
take_more (y ∷ ys) zero x h = let e : y ≡ x = cc in ap (λ z. z ∷ []) e
take_more (y ∷ ys) (suc i) x h = let e : suc i + 1 ≡ suc (i + 1) = omega arith in rw e (ap (λ zs. y ∷ zs) (take_more ys i x h))

-- behind a front
pub more_behind : {A : Type 0} (front xs items : List A) (i : ℕ) (x : A) → items ≡ front ++ take i xs → slice_get xs i ≡ Some x → items ++ x ∷ [] ≡ front ++ take (i + 1) xs
more_behind front xs items i x e h = ap (λ ys. ys ++ x ∷ []) e ∙ (append_assoc front (take i xs) (x ∷ []) ∙ ap (λ ys. front ++ ys) (sym (take_more xs i x h)))
