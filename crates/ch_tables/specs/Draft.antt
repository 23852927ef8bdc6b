-- What reading keeps of the rows so far.
use Rattle.std.specs.Prelude.{◌≡◌, ℕ, ◌+◌, ◌<◌, ◌≤◌, ◌^◌, List, [], ◌∷◌, ◌++◌, length, map, sum_by}
use Rattle.std.specs.List.{flat_map, zip}
use Rattle.ch_tables.specs.declared.draft.Draft.{Draft}
use Rattle.ch_tables.specs.declared.draft.Span.{Span}
use Rattle.ch_tables.specs.declared.error.Room.{Room}

-- columns with the fields of a further row
abbrev pub with_row : List (List (List ℕ)) → List (List ℕ) → List (List (List ℕ))
with_row columns fields = map (λ p. p.0 ++ p.1 ∷ []) (zip columns fields)

abbrev pub with_rows : List (List (List ℕ)) → List (List (List ℕ)) → List (List (List ℕ))
with_rows columns [] = columns
with_rows columns (fields ∷ rows) = with_rows (with_row columns fields) rows

-- a draft has a column for each name, and is within the room
pub record IsWithin (room : Room) (draft : Draft) : Type 0 where
  pub width : length draft.columns.items ≡ length draft.header
  pub names : length draft.header < 2 ^ 32
  pub rows : draft.rows ≤ room.rows
  pub cells : draft.cells ≤ room.cells
  pub few_cells : draft.cells < 2 ^ 32

-- the draft gained these rows
pub record AddsRows (old new : Draft) (rows : List (List (List ℕ))) : Type 0 where
  pub header : new.header ≡ old.header
  pub columns : new.columns.items ≡ with_rows old.columns.items rows
  pub more_rows : new.rows ≡ old.rows + length rows
  pub more_cells : new.cells ≡ old.cells + sum_by length rows
  pub spans : new.spans.items ≡ old.spans.items

-- the draft gained a part with these rows
pub record AddsPart (old new : Draft) (body : List (List (List ℕ))) : Type 0 where
  pub header : new.header ≡ old.header
  pub columns : new.columns.items ≡ with_rows old.columns.items body
  pub rows : new.rows ≡ old.rows + length body
  pub cells : new.cells ≡ old.cells + sum_by length body
  pub spans : new.spans.items ≡ old.spans.items ++ record { from = old.rows; to = new.rows } ∷ []

-- all rows of the parts
abbrev pub all_rows : List (List (List (List ℕ))) → List (List (List ℕ))
all_rows bodies = flat_map (λ body. body) bodies

-- where the parts stand among all rows
abbrev pub spans_from : ℕ → List (List (List (List ℕ))) → List Span
spans_from from [] = []
spans_from from (body ∷ bodies) = record { from = from; to = from + length body } ∷ spans_from (from + length body) bodies

-- the draft of parts with this header and these rows
pub record IsDraftOf (draft : Draft) (header : List (List ℕ)) (bodies : List (List (List (List ℕ)))) : Type 0 where
  pub named : draft.header ≡ header
  pub columns : draft.columns.items ≡ with_rows (map (λ _. []) header) (all_rows bodies)
  pub spans : draft.spans.items ≡ spans_from 0 bodies
  pub rows : draft.rows ≡ length (all_rows bodies)
  pub cells : draft.cells ≡ sum_by length (all_rows bodies)
