-- The gate of a row of words.
use Rattle.std.specs.Prelude.{false}
use Rattle.ch_pred.specs.Plain.{plain_of}
use Rattle.ch_pred.specs.Gate.{part_holds}
use Rattle.ch_pred.specs.declared.bound.Bound.{Bound}
use Rattle.ch_words.specs.Words.{Reading, read_row}
use Rattle.ch_words.specs.Rows.{Gate}

-- a row's gate is whether the part of its side holds of the cells that its words stand for
abbrev pub gate_of : Reading → Bound → Gate
gate_of d b side row = part_holds side false (read_row d row) (plain_of b.filter)
