-- The tables that are drawn.
use Rattle.std.specs.Prelude.{ℕ, List, [], ◌∷◌, map, codes, pos, ◌<◌, ◌≤◌, ◌^◌}
use Rattle.rand_pcg.specs.Lcg.{Lcg}
use Rattle.ch_cells.specs.declared.cell.Cell.{Cell}
use Rattle.ch_cells.specs.declared.cell.Cell.TheVariants as cell
use Rattle.ch_cells.specs.declared.cell.Kind.TheVariants as kind
use Rattle.ch_generated.specs.Draws.{generator_of}
use Rattle.ch_generated.specs.TableText.{part_from, t_fields, t_part_text, t_rows, u_rows}
use Rattle.ch_generated.specs.declared.Request.{Request}
use Rattle.ch_generated.specs.declared.TableRow.{TableRow}
use Rattle.ch_tables.specs.TableValue.{TableValue}

-- a row of numbers as cells
abbrev pub cells_of : List ℕ → List Cell
cells_of numbers = map (λ n. cell.Number (pos n)) numbers

-- the rows of a part, and the text of it
abbrev pub part_cells : List TableRow → ℕ → List (List Cell)
part_cells rows part = map cells_of (map t_fields (part_from part 0 rows))

abbrev pub rows_of : Request → List TableRow
rows_of request = t_rows request.rows (generator_of request.seed)

abbrev pub t_texts : List TableRow → List (List ℕ)
t_texts rows = map (λ part. t_part_text part rows) (0 ∷ 1 ∷ 2 ∷ 3 ∷ [])

abbrev pub t_table : List TableRow → TableValue
t_table rows = record {
  name = codes "t";
  header = codes "k" ∷ codes "v" ∷ codes "b" ∷ [];
  kinds = kind.Number ∷ kind.Number ∷ kind.Number ∷ [];
  parts = map (part_cells rows) (0 ∷ 1 ∷ 2 ∷ 3 ∷ []);
}

abbrev pub u_table : Lcg → TableValue
u_table generator = record {
  name = codes "u";
  header = codes "k" ∷ codes "y" ∷ [];
  kinds = kind.Number ∷ kind.Number ∷ [];
  parts = map cells_of (u_rows 100 generator) ∷ [];
}

-- a request as words may ask for it
pub record IsInRange (request : Request) : Type 0 where
  pub seed : request.seed < 2 ^ 64
  pub some : 1 ≤ request.rows
  pub few : request.rows ≤ 1000000
