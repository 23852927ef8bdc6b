-- The text of an answer.
use Rattle.std.specs.Prelude.{ℕ, List, ◌++◌, map, flat_map}
use Rattle.std.specs.Fmt.{signed_decimal}
use Rattle.csv.specs.Writing.{default_writer, row_text}
use Rattle.ch_cells.specs.declared.Answer.{Answer}
use Rattle.ch_cells.specs.declared.Cell.{Cell}
use Rattle.ch_cells.specs.declared.Cell.TheVariants.{Number, Text}

-- a number is written in its spelling
abbrev pub cell_text : Cell → List ℕ
cell_text (Number n) = signed_decimal n
cell_text (Text text) = text

-- the header's line, then one for each row, as CSV
abbrev pub text_of : Answer → List ℕ
text_of answer = row_text default_writer answer.header ++ flat_map (λ row. row_text default_writer (map cell_text row)) answer.rows
