-- The sizes of the struct.
use Rattle.op_distinct.specs.Sizes.{Sizes}
use Rattle.op_distinct.specs.declared.distinct.Distinct.{Distinct}

abbrev pub sizes : Distinct → Sizes
sizes o = record { width = o.width; rows = o.rows; cols = o.cols; key = o.key }
