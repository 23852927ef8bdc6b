-- The lines of a text, and the fields of a line.
use Rattle.std.specs.Prelude.{ℕ, Bool, true, false, not, if◌then◌else◌, ◌&&◌, ◌||◌, List, [], ◌∷◌, nat_eq}

-- a byte in front of the first list
abbrev pub onto_first : ℕ → List (List ℕ) → List (List ℕ)
onto_first b [] = (b ∷ []) ∷ []
onto_first b (first ∷ others) = (b ∷ first) ∷ others

abbrev pub is_feed : ℕ → Bool
is_feed b = nat_eq b 10

-- a byte of a line
abbrev pub is_inner : ℕ → Bool
is_inner b = not (is_feed b)

abbrev pub begins_with_feed : List ℕ → Bool
begins_with_feed [] = false
begins_with_feed (b ∷ bs) = is_feed b

-- A line ends with a line feed, and a carriage return directly before that is cut. The last line may lack its line feed.
abbrev pub lines_of : List ℕ → List (List ℕ)
lines_of [] = []
lines_of (b ∷ bs) = if is_feed b then [] ∷ lines_of bs else (if nat_eq b 13 && begins_with_feed bs then lines_of bs else onto_first b (lines_of bs))

-- a line that a line feed ends, without the carriage return at its end
abbrev pub without_cr : List ℕ → List ℕ
without_cr [] = []
without_cr (b ∷ []) = if nat_eq b 13 then [] else b ∷ []
without_cr (b ∷ c ∷ cs) = b ∷ without_cr (c ∷ cs)

abbrev pub is_blank : ℕ → Bool
is_blank b = nat_eq b 32 || nat_eq b 9

abbrev pub is_visible : ℕ → Bool
is_visible b = not (is_blank b)

-- whether a field ends before these bytes
abbrev pub ends_field : List ℕ → Bool
ends_field [] = true
ends_field (b ∷ bs) = is_blank b

-- the longest runs of bytes that are no blanks
abbrev pub fields_of : List ℕ → List (List ℕ)
fields_of [] = []
fields_of (b ∷ bs) = if is_blank b then fields_of bs else (if ends_field bs then (b ∷ []) ∷ fields_of bs else onto_first b (fields_of bs))

-- whether fields say something: none do not, and no comment does
abbrev pub says : List (List ℕ) → Bool
says [] = false
says ([] ∷ others) = true
says ((b ∷ bs) ∷ others) = not (nat_eq b 35)
