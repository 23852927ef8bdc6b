use Rattle.ch_lists.proofs.Sorting.{sorted_is_ordered}
use Rattle.ch_cells.specs.Row.{row_cmp}
use Rattle.ch_cells.proofs.Exact.{rows_exact}
use Rattle.ch_cells.proofs.row.sort_rows.Goals as goal

pub returns-clause-ok : goal.returns-clause-ok
returns-clause-ok c = sorted_is_ordered row_cmp rows_exact c.args.rows.now.items c.sort.new.self.items c.sort.ensures.permutation c.in_ok-sort.ensures.sorted
