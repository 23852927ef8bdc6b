-- Texts and their ranks.
use Rattle.std.specs.Prelude.{◌≡◌, ℕ, List, [], ◌∷◌, filter, length, bytes_eq, Option, Some, None, if◌then◌else◌}
use Rattle.std.specs.List.{list_any}
use Rattle.std.specs.declared.cmp.Ordering.{Ordering}
use Rattle.std.specs.declared.cmp.Ordering.TheVariants.{Less}
use Rattle.std.specs.Ordering.{nat_cmp, is_lt}
use Rattle.std.specs.Cmp.Lexicographic.{slice_cmp}

-- texts are ordered bytewise
abbrev pub text_cmp : List ℕ → List ℕ → Ordering
text_cmp = slice_cmp nat_cmp

-- each text is below the next one
abbrev pub Ascends : List (List ℕ) → Type 0
Ascends [] = Unit {0}
Ascends (t ∷ []) = Unit {0}
Ascends (t ∷ u ∷ ts) = (text_cmp t u ≡ Less) × Ascends (u ∷ ts)

-- the number of smaller texts
abbrev pub rank_in : List (List ℕ) → List ℕ → ℕ
rank_in texts t = length (filter (λ s. is_lt (text_cmp s t)) texts)

-- of a text that is there
abbrev pub rank_of : List (List ℕ) → List ℕ → Option ℕ
rank_of texts t = if list_any (bytes_eq t) texts then Some (rank_in texts t) else None
