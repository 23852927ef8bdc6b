use Rattle.std.proofs.Common.{◌≡◌, drop, ◌≤◌}
use Rattle.ch_numbers.specs.Natural.{natural_of, digits_from}
use Rattle.ch_numbers.proofs.decimal.natural.Given as goal

-- the digits left, after those of the value so far, spell what all of them spell
abbrev pub invariant-loop-digit : goal.invariant-loop-digit
invariant-loop-digit l = record {
  small : l.value ≤ l.most;
  same : digits_from l.most l.value (drop l.digit-index l.digits) ≡ natural_of l.most l.digits;
}
