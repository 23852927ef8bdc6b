use Rattle.std.proofs.Common.{◌≡◌, take, drop, None}
use Rattle.ch_tables.specs.Refusal.{repeated_from}
use Rattle.ch_bind.proofs.names.names_of.Given as goal

abbrev pub invariant-loop-name : goal.invariant-loop-name
invariant-loop-name l = record {
  names : l.names ≡ take l.name-index l.header;
  left : repeated_from l.name-index (take l.name-index l.header) (drop l.name-index l.header) ≡ None;
}
