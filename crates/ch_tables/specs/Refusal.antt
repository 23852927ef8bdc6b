-- Why parts are no table: the first refusal in reading order.
use Rattle.std.specs.Prelude.{ℕ, ◌+◌, ◌==◌, nat_lt, if◌then◌else◌, List, [], ◌∷◌, ◌++◌, length, drop, slice_index_or, sum_by, Option, Some, None, option_map, bytes_eq}
use Rattle.std.specs.Option.{option_or}
use Rattle.std.specs.List.{list_any}
use Rattle.std.specs.Cmp.Lexicographic.{pointwise}
use Rattle.ch_tables.specs.declared.error.Room.{Room}
use Rattle.ch_tables.specs.declared.error.TableError.{TableError}
use Rattle.ch_tables.specs.declared.error.TableError.TheVariants as refused

-- the place of the first name that stands earlier
abbrev pub repeated_from : ℕ → List (List ℕ) → List (List ℕ) → Option ℕ
repeated_from at before [] = None
repeated_from at before (name ∷ names) = if list_any (bytes_eq name) before then Some at else repeated_from (at + 1) (before ++ name ∷ []) names

abbrev pub repeated : List (List ℕ) → Option ℕ
repeated names = repeated_from 0 [] names

-- the first refusal of a part's rows, from the row `row` on. So many rows and cells of the table stand before it.
abbrev pub rows_refusal : Room → ℕ → ℕ → ℕ → ℕ → ℕ → List (List (List ℕ)) → Option TableError
rows_refusal room part width row rows cells [] = None
rows_refusal room part width row rows cells (fields ∷ more) =
    if length fields == width
    then (if nat_lt room.rows (rows + 1) then Some (refused.TooManyRows part row)
    else (if nat_lt room.cells (cells + width) then Some (refused.TooManyCells part row)
    else rows_refusal room part width (row + 1) (rows + 1) (cells + width) more))
    else Some (refused.Ragged part row (length fields) width)

-- the names of a part's columns: its first record
abbrev pub header_of : List (List (List ℕ)) → List (List ℕ)
header_of records = slice_index_or records 0 []

-- the rows of a part: its other records
abbrev pub body_of : List (List (List ℕ)) → List (List (List ℕ))
body_of records = drop 1 records

-- the refusal of part 0, by its records
abbrev pub first_refusal : Room → List (List (List ℕ)) → Option TableError
first_refusal room [] = Some (refused.NoHeader 0)
first_refusal room (header ∷ body) = option_or (option_map refused.DuplicateColumn (repeated header)) (rows_refusal room 0 (length header) 0 0 0 body)

-- the refusal of a later part
abbrev pub part_refusal : Room → List (List ℕ) → ℕ → ℕ → ℕ → List (List (List ℕ)) → Option TableError
part_refusal room header part rows cells [] = Some (refused.NoHeader part)
part_refusal room header part rows cells (names ∷ body) =
    if pointwise bytes_eq names header then rows_refusal room part (length header) 0 rows cells body else Some (refused.HeaderDiffers part)

-- the first refusal of the later parts, from the part `part` on
abbrev pub later_refusal : Room → List (List ℕ) → ℕ → ℕ → ℕ → List (List (List (List ℕ))) → Option TableError
later_refusal room header part rows cells [] = None
later_refusal room header part rows cells (records ∷ parts) =
    option_or (part_refusal room header part rows cells records)
    (later_refusal room header (part + 1) (rows + length (body_of records)) (cells + sum_by length (body_of records)) parts)

-- the first refusal of a table's parts, by their records
abbrev pub refusal : Room → List (List (List (List ℕ))) → Option TableError
refusal room [] = None
refusal room (records ∷ parts) =
    option_or (first_refusal room records)
    (later_refusal room (header_of records) 1 (length (body_of records)) (sum_by length (body_of records)) parts)
