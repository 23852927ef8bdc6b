use Rattle.std.proofs.Common.{◌≡◌, ◌≤◌, ◌+◌, ◌*◌, drop, length}
use Rattle.std.specs.Prelude.{flat_map}
use Rattle.cheetah_inputs.proofs.tables.rows_of.Given as goal

-- with the rows of the parts left they are all of them
abbrev pub invariant-loop-part : goal.invariant-loop-part
invariant-loop-part l = record {
  same : l.rows + length (flat_map (λ rows. rows) (drop l.part l.table.parts)) ≡ length (flat_map (λ rows. rows) l.table.parts);
  small : l.rows ≤ l.part * 4294967295;
}
