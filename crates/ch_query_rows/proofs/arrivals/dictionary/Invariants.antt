use Rattle.std.proofs.Common.{◌≤◌, length}
use Rattle.ch_query_rows.proofs.arrivals.dictionary.Given as goal

abbrev pub invariant-loop-table : goal.invariant-loop-table
invariant-loop-table l = length l.builder ≤ l.added

abbrev pub invariant-loop-at : goal.invariant-loop-at
invariant-loop-at l = length l.builder ≤ l.added
