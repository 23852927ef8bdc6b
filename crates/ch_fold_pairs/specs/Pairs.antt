-- Rows with their keys in front, and the pairs of those whose keys are equal.
use Rattle.std.specs.Prelude.{ℕ, ◌==◌, Bool, ◌&&◌, List, [], ◌∷◌, map, filter, flat_map, drop, slice_index_or, ℤ, pos, ◌≤ℤ◌}
use Rattle.std.specs.Ordering.{int_cmp, is_eq}
use Rattle.ch_lists.specs.Members.{Each}
use Rattle.ch_cover.specs.Rows.{Row}
use Rattle.ch_pred.specs.Meaning.{both, line}
use Rattle.ch_pred.specs.Values.{View}
use Rattle.ch_pred.specs.declared.bound.Bound.{Bound}
use Rattle.ch_words.specs.Rows.{words_seen}
use Rattle.ch_words.specs.Words.{asked_of_words}
use Rattle.ch_fold_lines.specs.Rows.{reading}

-- the words of the rows of a side
abbrev pub words_of : ℕ → List Row → List (List ℤ)
words_of side rows = map (λ r. r.words) (filter (λ r. r.side == side) rows)

-- rows with the word at a place in front
abbrev pub keyed : ℕ → List (List ℤ) → List (List ℤ)
keyed place rows = map (λ ws. slice_index_or ws place (pos 0) ∷ ws) rows

abbrev pub key_in : List ℤ → ℤ
key_in row = slice_index_or row 0 (pos 0)

-- a pair of rows with keys in front, as the pair of their words
abbrev pub pair_seen : Bound → List ℤ → List ℤ → View ℤ
pair_seen b left right = both (words_seen b (drop 1 left)) (words_seen b (drop 1 right))

-- a row has this key
abbrev pub has_key : ℤ → List ℤ → Bool
has_key key row = is_eq (int_cmp key (key_in row))

-- the keys are equal, and the pair holds
abbrev pub is_partner : List (List ℕ) → Bound → List ℤ → List ℤ → Bool
is_partner texts b left right = has_key (key_in left) right && (asked_of_words (reading texts b) b).holds (pair_seen b left right)

-- what the pairs of a left row print
abbrev pub partner_lines : List (List ℕ) → Bound → List (List ℤ) → List ℤ → List (List ℤ)
partner_lines texts b rights left = map (λ right. line b.printed (pos 0) (pair_seen b left right)) (filter (is_partner texts b left) rights)

abbrev pub pair_lines : List (List ℕ) → Bound → List (List ℤ) → List (List ℤ) → List (List ℤ)
pair_lines texts b lefts rights = flat_map (partner_lines texts b rights) lefts

-- no key is above a later one
abbrev pub KeysRise : List (List ℤ) → Type 0
KeysRise [] = Unit {0}
KeysRise (row ∷ rows) = Each (λ r. key_in row ≤ℤ key_in r) rows × KeysRise rows
