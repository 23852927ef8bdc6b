-- The shapes of tables, and what binding asks of them.
use Rattle.std.specs.Prelude.{◌≡◌, ◌<◌, ◌^◌, List, length, None}
use Rattle.std.specs.List.{All}
use Rattle.ch_tables.specs.Refusal.{repeated}
use Rattle.ch_tables.specs.TableValue.{TableValue}
use Rattle.ch_bind.specs.declared.shape.TableShape.{TableShape}

-- what binding has to know of a table
abbrev pub shape_of : TableValue → TableShape
shape_of table = record { name = table.name; header = table.header; kinds = table.kinds }

-- no name stands twice among those of the columns
pub record IsShape (s : TableShape) : Type 0 where
  pub different : repeated s.header ≡ None
  pub few : length s.header < 2 ^ 32

pub record AreShapes (shapes : List TableShape) : Type 0 where
  pub each : All IsShape shapes
  pub few : length shapes < 2 ^ 32
