use Rattle.ch_lists.specs.Members.{Each}
use Rattle.ch_fold_lines.specs.Rows.{RowFits}
use Rattle.ch_query_rows.proofs.arrivals.add_rows.Given as goal

abbrev pub invariant-loop-part : goal.invariant-loop-part
invariant-loop-part l = Each (λ a. RowFits l.ranks l.query a.side a.words) l.rows

abbrev pub invariant-loop-row : goal.invariant-loop-row
invariant-loop-row l = Each (λ a. RowFits l.ranks l.query a.side a.words) l.rows
