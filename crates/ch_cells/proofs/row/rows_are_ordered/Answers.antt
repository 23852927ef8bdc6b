use Rattle.ch_lists.proofs.Sorting.{ordered_sorted, ordered_permuted}
use Rattle.ch_cells.specs.Row.{row_cmp}
use Rattle.ch_cells.proofs.Exact.{rows_exact}
use Rattle.ch_cells.proofs.row.rows_are_ordered.Goals as goal

pub returns-clause-order : goal.returns-clause-order
returns-clause-order c = rows_exact

pub returns-clause-sorted : goal.returns-clause-sorted
returns-clause-sorted c = ordered_sorted row_cmp rows_exact

pub returns-clause-same : goal.returns-clause-same
returns-clause-same c = ordered_permuted row_cmp
