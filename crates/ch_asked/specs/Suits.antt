-- Tables whose cells are of their columns' kinds, and a query that is bound to them.
use Rattle.std.specs.Prelude.{◌≡◌, ℕ, ◌<◌, ◌≤◌, List, flat_map, map, length, slice_index_or, None, All, pos}
use Rattle.ch_cells.specs.declared.Cell.{Cell}
use Rattle.ch_cells.specs.declared.Cell.TheVariants as cell
use Rattle.ch_cells.specs.declared.Kind.TheVariants as kind
use Rattle.ch_lists.specs.Members.{Each}
use Rattle.ch_pred.specs.Sound.{IsSound, carried_of, kinds_of}
use Rattle.ch_pred.specs.declared.bound.Bound.{Bound}
use Rattle.ch_tables.specs.Table.{IsOfKind}
use Rattle.ch_tables.specs.TableValue.{TableValue}
use Rattle.ch_bind.specs.Sums.{sum_refusal}
use Rattle.ch_parts.specs.Scanned.{side_table}

-- the rows of a table: those of its parts
abbrev pub rows_of : TableValue → List (List Cell)
rows_of table = flat_map (λ part. part) table.parts

abbrev pub cell_in : List Cell → ℕ → Cell
cell_in row at = slice_index_or row at (cell.Number (pos 0))

-- each cell is of its column's kind
abbrev pub IsTyped : TableValue → Type 0
IsTyped table = Each (λ row. (at : ℕ) → at < length table.header → IsOfKind (slice_index_or table.kinds at kind.Void) (cell_in row at)) (rows_of table)

-- there are at most 64 tables, each of 1 to 64 parts with at most 4,000,000 rows each
pub record AreSmall (tables : List TableValue) : Type 0 where
  pub few : length tables ≤ 64
  pub some_parts : Each (λ table. 1 ≤ length table.parts) tables
  pub few_parts : Each (λ table. length table.parts ≤ 64) tables
  pub few_rows : Each (λ table. Each (λ part. length part ≤ 4000000) table.parts) tables

-- The query is sound, its tables are there with the columns that it carries and their kinds, and no cell that it sums is
-- negative
pub record IsBoundTo (b : Bound) (tables : List TableValue) : Type 0 where
  pub sound : IsSound b
  pub there : All (λ number. number < length tables) b.tables
  pub columns : (side : ℕ) → side < length b.tables → All (λ at. at < length (side_table b tables side).header) (carried_of b side)
  pub kinds : (side : ℕ) → side < length b.tables → kinds_of b side ≡ map (λ at. slice_index_or (side_table b tables side).kinds at kind.Void) (carried_of b side)
  pub sums : sum_refusal b tables ≡ None
