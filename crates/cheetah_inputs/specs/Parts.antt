-- The texts of tables, by the names of their words.
use Rattle.std.specs.Prelude.{◌≤◌, ℕ, Bool, not, List, [], ◌∷◌, length, map, filter, bytes_eq, All}
use Rattle.std.specs.List.{zip}
use Rattle.ch_command.specs.Reading.{most_bytes}
use Rattle.cheetah_words.specs.Tables.{Part}
use Rattle.cheetah_inputs.specs.declared.parts.PartText.{PartText}

-- the text of a part of the table of this name
pub record NamedText : Type 0 where
  pub name : List ℕ
  pub text : List ℕ

abbrev pub named_texts : List Part → List (List ℕ) → List NamedText
named_texts parts texts = map (λ p. record { name = p.0.name; text = p.1 }) (zip parts texts)

abbrev pub is_of : List ℕ → NamedText → Bool
is_of name part = bytes_eq part.name name

-- each name, where it first stands
abbrev pub different : List (List ℕ) → List (List ℕ)
different [] = []
different (name ∷ names) = name ∷ filter (λ other. not (bytes_eq other name)) (different names)

-- the texts of the parts of a table, in their order
abbrev pub texts_of : List ℕ → List NamedText → List (List ℕ)
texts_of name parts = map (λ part. part.text) (filter (is_of name) parts)

-- a table before it is read: its name and the texts of its parts
pub record TableText : Type 0 where
  pub name : List ℕ
  pub texts : List (List ℕ)

-- the tables that parts give, in the order of their first parts
abbrev pub tables_in : List NamedText → List TableText
tables_in parts = map (λ name. record { name = name; texts = texts_of name parts }) (different (map (λ part. part.name) parts))

-- a part, as the code has it
abbrev pub part_text : PartText → NamedText
part_text part = record { name = part.name.now; text = part.text }

-- no text is longer than a file may be
abbrev pub AreShort : List NamedText → Type 0
AreShort parts = All (λ part. length part.text ≤ most_bytes) parts
