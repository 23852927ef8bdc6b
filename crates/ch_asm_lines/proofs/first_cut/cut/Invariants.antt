use Rattle.std.proofs.Common.{◌≡◌, take, drop}
use Rattle.ch_asm_lines.specs.Reading.{cut_of}
use Rattle.ch_asm_lines.proofs.Cuts.{with_front}
use Rattle.ch_asm_lines.proofs.first_cut.cut.Given as goal

abbrev pub invariant-loop-at : goal.invariant-loop-at
invariant-loop-at l = cut_of l.byte l.text ≡ with_front (take l.at l.text) (cut_of l.byte (drop l.at l.text))
