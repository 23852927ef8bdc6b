use Rattle.std.proofs.Common.{◌≡◌, drop}
use Rattle.std.specs.Prelude.{bytes_eq}
use Rattle.std.specs.Cmp.Lexicographic.{pointwise}
use Rattle.csv.specs.Records.{fields_of}
use Rattle.ch_tables.proofs.header.has_names.Given as goal

abbrev pub invariant-loop-at : goal.invariant-loop-at
invariant-loop-at l = pointwise bytes_eq (drop l.at (fields_of l.fields)) (drop l.at l.names) ≡ pointwise bytes_eq (fields_of l.fields) l.names
