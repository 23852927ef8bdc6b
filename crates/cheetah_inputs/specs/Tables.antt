-- The tables that parts give, each in the room that those before it leave.
use Rattle.std.specs.Prelude.{ℕ, ◌-◌, ◌*◌, List, [], ◌∷◌, length, flat_map, Result, Ok, Err}
use Rattle.ch_cells.specs.declared.Cell.{Cell}
use Rattle.ch_messages.specs.Table.{table_line}
use Rattle.ch_tables.specs.Table.{table_of}
use Rattle.ch_tables.specs.TableValue.{TableValue}
use Rattle.ch_tables.specs.declared.Room.{Room}
use Rattle.ch_tables.specs.declared.TableError.{TableError}
use Rattle.cheetah_inputs.specs.Parts.{TableText}

-- how much the tables of a command may hold
abbrev pub room : Room
room = record { rows = 4000000; cells = 32000000 }

-- the rows of a table: those of its parts
abbrev pub rows_of : TableValue → List (List Cell)
rows_of table = flat_map (λ rows. rows) table.parts

-- what a table leaves of the room
abbrev pub room_after : Room → TableValue → Room
room_after room table = record { rows = room.rows - length (rows_of table); cells = room.cells - length (rows_of table) * length table.header }

abbrev pub or_line : {X : Type 0} → List ℕ → Result X TableError → Result X (List ℕ)
or_line name (Ok table) = Ok table
or_line name (Err error) = Err (table_line name error)

-- the table of some texts, or the line that refuses it
abbrev pub table_or_line : List ℕ → Room → List (List ℕ) → Result TableValue (List ℕ)
table_or_line name room texts = or_line name (table_of name room texts)

-- a table and those behind it
abbrev pub and_more : TableValue → Result (List TableValue) (List ℕ) → Result (List TableValue) (List ℕ)
and_more table (Ok tables) = Ok (table ∷ tables)
and_more table (Err line) = Err line

abbrev pub with_more : Result TableValue (List ℕ) → (TableValue → Result (List TableValue) (List ℕ)) → Result (List TableValue) (List ℕ)
with_more (Ok table) more = and_more table (more table)
with_more (Err line) more = Err line

-- tables in their order, or the line of the first that is refused
abbrev pub tables_within : Room → List TableText → Result (List TableValue) (List ℕ)
tables_within left [] = Ok []
tables_within left (t ∷ ts) = with_more (table_or_line t.name left t.texts) (λ table. tables_within (room_after left table) ts)
