use Rattle.std.proofs.Common.{◌≡◌, All, map, take}
use Rattle.ch_bind.specs.Shapes.{IsShape, shape_of}
use Rattle.ch_bind.proofs.shape.shapes_of.Given as goal

abbrev pub invariant-loop-table : goal.invariant-loop-table
invariant-loop-table l = record {
  same : l.shapes ≡ map shape_of (take l.table-index l.tables);
  all : All IsShape l.shapes;
}
