use Rattle.std.proofs.Common.{◌≡◌, ◌≤◌, length, map}
use Rattle.cheetah_inputs.specs.Parts.{AreShort, part_text, tables_in}
use Rattle.cheetah_inputs.specs.Tables.{tables_within}
use Rattle.cheetah_inputs.proofs.Reading.{behind_them}
use Rattle.cheetah_inputs.proofs.tables.read_tables.Given as goal

-- with the tables that the parts left give they are all of them
abbrev pub invariant-loop-first : goal.invariant-loop-first
invariant-loop-first l = record {
  few : length l.left.items ≤ 64;
  short : AreShort (map part_text l.left.items);
  same : behind_them l.tables (tables_within l.room (tables_in (map part_text l.left.items))) ≡ tables_within l.fn.room (tables_in (map part_text l.fn.parts.items));
}

abbrev pub decreases-loop-first : goal.decreases-loop-first
decreases-loop-first l = length l.left.items
