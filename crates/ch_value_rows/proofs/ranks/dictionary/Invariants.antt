use Rattle.std.proofs.Common.{◌≤◌, length}
use Rattle.ch_value_rows.proofs.ranks.dictionary.Given as goal

abbrev pub invariant-loop-text : goal.invariant-loop-text
invariant-loop-text l = length l.builder ≤ l.added
