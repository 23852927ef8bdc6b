-- The sizes of the struct.
use Rattle.op_group.specs.Sizes.{Sizes}
use Rattle.op_group.specs.declared.group.Group.{Group}

abbrev pub sizes : Group → Sizes
sizes o = record { width = o.width; rows = o.rows; cols = o.cols; key = o.key; value = o.value; is_max = o.max }
