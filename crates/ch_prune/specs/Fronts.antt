-- Fronts. There is one: of each side it passes the rows whose bit is set.
use Rattle.std.specs.Prelude.{Bool}
use Rattle.ch_cover.specs.Rows.{Row}
use Rattle.ch_ir.specs.declared.program.Operand.{Operand}
use Rattle.ch_ir.specs.declared.program.Operand.TheVariants.{Word}

abbrev pub passes_front : Row → Bool
passes_front r = r.bit

-- the word that tells a program whether the row passes
abbrev pub front_operand : Operand
front_operand = Word 2
