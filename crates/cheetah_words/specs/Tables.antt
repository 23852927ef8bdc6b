-- Table words: `NAME=FILE`.
use Rattle.std.specs.Prelude.{ℕ, ◌+◌, nat_lt, Bool, true, false, ◌||◌, ◌==◌, List, [], ◌∷◌, length, flat_map, Option, Some, None, is_some, option_map, codes, if◌then◌else◌}
use Rattle.std.specs.List.{before_first, after_first, concat, list_any}
use Rattle.std.specs.Fmt.{decimal}
use Rattle.cheetah_words.specs.declared.table_word.TableWord.{TableWord}

-- a part of a table: the table's name, and the file
pub record Part : Type 0 where
  pub name : List ℕ
  pub file : List ℕ

abbrev pub is_equals_sign : ℕ → Bool
is_equals_sign b = b == 61

abbrev pub is_nil : List ℕ → Bool
is_nil [] = true
is_nil (b ∷ bs) = false

-- the part that a word names, which is cut at its first `=`. Neither side is empty
abbrev pub part_of : List ℕ → Option Part
part_of word =
    if list_any is_equals_sign word
    then (if is_nil (before_first is_equals_sign word) || is_nil (after_first is_equals_sign word) then None else Some (record { name = before_first is_equals_sign word; file = after_first is_equals_sign word }))
    else None

-- the place of the first word that names no part, where they are numbered from `at`
abbrev pub bad_from : ℕ → List (List ℕ) → Option ℕ
bad_from at [] = None
bad_from at (word ∷ words) = if is_some (part_of word) then bad_from (at + 1) words else Some at

abbrev pub listed : {X : Type 0} → Option X → List X
listed None = []
listed (Some x) = x ∷ []

-- the parts that words name
abbrev pub parts_in : List (List ℕ) → List Part
parts_in words = flat_map (λ word. listed (part_of word)) words

abbrev pub too_many_line : ℕ → List ℕ
too_many_line count = concat (codes "usage: " ∷ decimal count ∷ codes " table words, at most 64\n" ∷ [])

abbrev pub bad_word_line : ℕ → List ℕ
bad_word_line at = concat (codes "usage: table word " ∷ decimal at ∷ codes "\n" ∷ [])

-- the line that refuses table words: there are more than 64, or the first that names no part
abbrev pub tables_refusal : List (List ℕ) → Option (List ℕ)
tables_refusal words = if nat_lt 64 (length words) then Some (too_many_line (length words)) else option_map bad_word_line (bad_from 0 words)

-- a part, as the code has it
abbrev pub part_word : TableWord → Part
part_word word = record { name = word.name.now; file = word.file.now }
