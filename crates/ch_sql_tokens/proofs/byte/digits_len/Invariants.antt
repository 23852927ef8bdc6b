use Rattle.std.proofs.Common.{◌≡◌, ◌≤◌, ◌-◌, ◌+◌, length, drop}
use Rattle.ch_sql_tokens.specs.Byte.{run}
use Rattle.ch_cells.specs.Number.{is_digit}
use Rattle.ch_sql_tokens.proofs.byte.digits_len.Given as goal

abbrev pub invariant-loop-at : goal.invariant-loop-at
invariant-loop-at l = record {
  within : l.at ≤ length l.text;
  same : run is_digit (drop l.at l.text) + l.at ≡ run is_digit l.text;
}

abbrev pub decreases-loop-at : goal.decreases-loop-at
decreases-loop-at l = length l.text - l.at
