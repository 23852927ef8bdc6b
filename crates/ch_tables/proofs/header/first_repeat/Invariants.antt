use Rattle.std.proofs.Common.{◌≡◌, drop, take}
use Rattle.csv.specs.Records.{fields_of}
use Rattle.ch_tables.specs.Refusal.{repeated, repeated_from}
use Rattle.ch_tables.proofs.header.first_repeat.Given as goal

abbrev pub invariant-loop-at : goal.invariant-loop-at
invariant-loop-at l = record {
  names : l.names ≡ take l.at (fields_of l.fields);
  same : repeated_from l.at (take l.at (fields_of l.fields)) (drop l.at (fields_of l.fields)) ≡ repeated (fields_of l.fields);
}
