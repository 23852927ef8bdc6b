use Rattle.ch_lists.specs.Members.{Each}
use Rattle.ch_fold_lines.specs.Rows.{RowFits}
use Rattle.ch_query_rows.proofs.arrivals.arrivals.Given as goal

abbrev pub invariant-loop-side : goal.invariant-loop-side
invariant-loop-side l = Each (λ a. RowFits l.ranks l.query a.side a.words) l.rows
