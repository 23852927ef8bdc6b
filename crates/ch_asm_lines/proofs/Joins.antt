-- A list of items, as a loop writes it.
use Rattle.std.proofs.Common.{◌≡◌, ◌≤◌, ℕ, ◌-◌, List, [], ◌∷◌, ◌++◌, length, get_or, take, drop, sym, ap, ap₂, ◌∙◌, append_assoc, map, arith}
use Rattle.std.specs.List.{join_with_byte}
use Rattle.std.proofs.lemmas.List.{append-nil, take_all}
use Rattle.ch_asm_lines.specs.Spelling.{list_text}

-- each with a comma in front
abbrev pub behind_commas : List (List ℕ) → List ℕ
behind_commas [] = []
behind_commas (t ∷ ts) = 44 ∷ (t ++ behind_commas ts)

joined : (t : List ℕ) (ts : List (List ℕ)) → join_with_byte 44 (t ∷ ts) ≡ t ++ behind_commas ts
joined t [] = sym (append-nil t)
joined t (u ∷ us) = ap (λ (xs : List ℕ). t ++ 44 ∷ xs) (joined u us)

-- the first item, and the others
pub parted : {X : Type 0} (xs : List X) (x : X) → 1 ≤ length xs → x ≡ get_or xs 0 x → xs ≡ x ∷ take (length xs - 1) (drop 1 xs)
parted [] x h e = absurd (omega arith)
parted (y ∷ ys) x h e = ap₂ (λ a as'. a ∷ as') (sym e) (sym (take_all (length (y ∷ ys) - 1) ys (omega arith)))

-- the first item is written
pub begun : {X : Type 0} (text : X → List ℕ) (old new : List ℕ) (xs rest : List X) (x : X) → xs ≡ x ∷ rest → new ≡ old ++ text x
    → new ++ behind_commas (map text rest) ≡ old ++ list_text (map text xs)
begun text old new xs rest x parts wrote =
    ap (λ (t : List ℕ). t ++ behind_commas (map text rest)) wrote
    ∙ append_assoc old (text x) (behind_commas (map text rest))
    ∙ ap (λ (t : List ℕ). old ++ t) (sym (joined (text x) (map text rest)))
    ∙ ap (λ ys. old ++ list_text (map text ys)) (sym parts)
