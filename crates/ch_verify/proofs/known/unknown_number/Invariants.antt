use Rattle.std.proofs.Common.{◌≡◌, drop, map}
use Rattle.ch_ir.specs.declared.program.Operand.TheVariants.{Word}
use Rattle.ch_ir.specs.Rules.{first_unknown}
use Rattle.ch_verify.specs.Known.{known_of}
use Rattle.ch_verify.proofs.known.unknown_number.Given as goal

abbrev pub invariant-loop-number : goal.invariant-loop-number
invariant-loop-number l = first_unknown (known_of l.known) (map Word (drop l.number-index l.numbers)) ≡ first_unknown (known_of l.known) (map Word l.numbers)
