-- The lines that refuse a table.
use Rattle.std.specs.Prelude.{ℕ, List, [], ◌∷◌, codes}
use Rattle.std.specs.Fmt.{decimal}
use Rattle.std.specs.List.{concat}
use Rattle.ch_command.specs.Lines.{memory_line}
use Rattle.ch_tables.specs.declared.TableError.{TableError}
use Rattle.ch_tables.specs.declared.TableError.TheVariants as table

abbrev pub table_line : List ℕ → TableError → List ℕ
table_line name (table.NoHeader part) = concat (codes "input: table " ∷ name ∷ codes " part " ∷ decimal part ∷ codes ": no header\n" ∷ [])
table_line name (table.DuplicateColumn at) = concat (codes "input: table " ∷ name ∷ codes " part 0: column " ∷ decimal at ∷ codes " repeated\n" ∷ [])
table_line name (table.HeaderDiffers part) = concat (codes "input: table " ∷ name ∷ codes " part " ∷ decimal part ∷ codes ": header differs\n" ∷ [])
table_line name (table.Ragged part row have want) =
    concat (codes "input: table " ∷ name ∷ codes " part " ∷ decimal part ∷ codes " row " ∷ decimal row ∷ codes ": ragged, have " ∷ decimal have ∷ codes " want " ∷ decimal want ∷ codes "\n" ∷ [])
table_line name (table.TooManyRows part row) = concat (codes "input: table " ∷ name ∷ codes " part " ∷ decimal part ∷ codes " row " ∷ decimal row ∷ codes ": too many rows\n" ∷ [])
table_line name (table.TooManyCells part row) = concat (codes "input: table " ∷ name ∷ codes " part " ∷ decimal part ∷ codes " row " ∷ decimal row ∷ codes ": too many cells\n" ∷ [])
table_line name table.Memory = memory_line
