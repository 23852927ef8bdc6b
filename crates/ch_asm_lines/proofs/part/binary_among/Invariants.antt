use Rattle.std.proofs.Common.{◌≡◌, drop}
use Rattle.ch_asm_lines.specs.Reading.{binary_among}
use Rattle.ch_asm_lines.proofs.part.binary_among.Given as goal

abbrev pub invariant-loop-binary : goal.invariant-loop-binary
invariant-loop-binary l = binary_among (drop l.binary-index l.binaries) l.name ≡ binary_among l.binaries l.name
