-- The orders of cells and of rows are exact.
use Rattle.std.proofs.Common.{◌≡◌, ap}
use Rattle.std.specs.declared.cmp.Ordering.TheVariants.{Equal}
use Rattle.std.proofs.lemmas.Map.Lookups.{exact_bytes, exact_signed}
use Rattle.ch_lists.specs.Ordered.{IsExactOrder}
use Rattle.ch_lists.proofs.Orders.{lists_exact}
use Rattle.ch_cells.specs.Cell.{cell_cmp}
use Rattle.ch_cells.specs.CellOrder.{cell_total}
use Rattle.ch_cells.specs.Row.{row_cmp}
use Rattle.ch_cells.specs.declared.cell.Cell.{Cell}
use Rattle.ch_cells.specs.declared.cell.Cell.TheVariants.{Number, Text}

equal_cells : (a b : Cell) → cell_cmp a b ≡ Equal → a ≡ b
equal_cells (Number m) (Number n) e = ap Number (exact_signed m n e)
equal_cells (Number m) (Text t) e = cc
equal_cells (Text s) (Number n) e = cc
equal_cells (Text s) (Text t) e = ap Text (exact_bytes s t e)

pub cells_exact : IsExactOrder cell_cmp
cells_exact = record { total = cell_total; exact = equal_cells }

pub rows_exact : IsExactOrder row_cmp
rows_exact = lists_exact cell_cmp cells_exact
