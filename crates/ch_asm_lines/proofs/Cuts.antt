-- A text up to a byte, as a loop comes to it.
use Rattle.std.proofs.Common.{◌≡◌, ◌≢◌, ◌<◌, ◌≤◌, ℕ, ◌+◌, ◌-◌, length-drop, true, false, List, [], ◌∷◌, ◌++◌, length, get_or, take, drop, Option, Some, None, refl, sym, ap, ◌∙◌, arith, append_assoc}
use Rattle.std.specs.Prelude.{option_map, ◌==◌}
use Rattle.std.proofs.lemmas.List.{at_drop_more, at_drop_all, take_more, append-nil, take_all}
use Rattle.std.proofs.lemmas.Bool.Decides.{nat_tests}
use Rattle.ch_asm_lines.specs.Reading.{cut_of}

-- what was passed, in front of the first part
abbrev pub with_front : List ℕ → Option (List ℕ × List ℕ) → Option (List ℕ × List ℕ)
with_front front o = option_map (λ c. (front ++ c.0, c.1)) o

front_more : (front : List ℕ) (b : ℕ) (o : Option (List ℕ × List ℕ)) → with_front front (option_map (λ c. (b ∷ c.0, c.1)) o) ≡ with_front (front ++ b ∷ []) o
front_more front b None = refl
front_more front b (Some c) = ap (λ (xs : List ℕ). Some (xs, c.1)) (sym (append_assoc front (b ∷ []) c.0))

passed : (byte b : ℕ) (bs : List ℕ) → b ≢ byte → cut_of byte (b ∷ bs) ≡ option_map (λ c. (b ∷ c.0, c.1)) (cut_of byte bs)
unfolding cut_of
passed byte b bs ne = let t : (b == byte) ≡ false = grind (arith, nat_tests) in rw t refl

met : (byte b : ℕ) (bs : List ℕ) → b ≡ byte → cut_of byte (b ∷ bs) ≡ Some ([], bs)
unfolding cut_of
met byte b bs e = let t : (b == byte) ≡ true = grind (arith, nat_tests) in rw t refl

-- a byte that is another
pub cut_more : (byte : ℕ) (text : List ℕ) (at : ℕ) → at < length text → get_or text at 0 ≢ byte
    → with_front (take at text) (cut_of byte (drop at text)) ≡ with_front (take (at + 1) text) (cut_of byte (drop (at + 1) text))
cut_more byte text at l ne =
    at_drop_more (λ xs. with_front (take at text) (cut_of byte xs)) text at 0 l
    ∙ ap (with_front (take at text)) (passed byte (get_or text at 0) (drop (at + 1) text) ne)
    ∙ front_more (take at text) (get_or text at 0) (cut_of byte (drop (at + 1) text))
    ∙ ap (λ xs. with_front xs (cut_of byte (drop (at + 1) text))) (sym (take_more text at 0 l))

-- the byte
pub cut_met : (byte : ℕ) (text : List ℕ) (at : ℕ) → at < length text → get_or text at 0 ≡ byte
    → with_front (take at text) (cut_of byte (drop at text)) ≡ Some (take at text, drop (at + 1) text)
cut_met byte text at l e =
    at_drop_more (λ xs. with_front (take at text) (cut_of byte xs)) text at 0 l
    ∙ ap (with_front (take at text)) (met byte (get_or text at 0) (drop (at + 1) text) e)
    ∙ ap (λ (xs : List ℕ). Some (xs, drop (at + 1) text)) (append-nil (take at text))

-- no byte is left
pub cut_end : (byte : ℕ) (text : List ℕ) (at : ℕ) → length text ≤ at → with_front (take at text) (cut_of byte (drop at text)) ≡ None
unfolding cut_of
cut_end byte text at l = at_drop_all (λ xs. with_front (take at text) (cut_of byte xs)) text at l

-- what is left of a list
pub take-rest : (xs : List ℕ) (n : ℕ) → take (length xs - n) (drop n xs) ≡ drop n xs
take-rest xs n = take_all (length xs - n) (drop n xs) (omega (arith, length-drop n xs))
