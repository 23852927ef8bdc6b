-- A lent cell.
use Rattle.ch_cells.specs.declared.cell.Cell.{Cell}
use Rattle.ch_cells.specs.declared.cell.Cell.TheVariants as cell
use Rattle.ch_cells.specs.declared.cell_ref.CellRef.{CellRef}
use Rattle.ch_cells.specs.declared.cell_ref.CellRef.TheVariants as lent

-- the cell that is lent
abbrev pub cell_of : CellRef → Cell
cell_of (lent.Number n) = cell.Number n
cell_of (lent.Text text) = cell.Text text.now
