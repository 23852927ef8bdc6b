use Rattle.std.proofs.Common.{◌≡◌, ◌≤◌, ◌+◌, ◌^◌, drop, map, take}
use Rattle.ch_ir.specs.Measure.{operands_end}
use Rattle.ch_ir.specs.declared.program.Operand.TheVariants.{Word}
use Rattle.ch_pack_laws.specs.Packed.{moved_word}
use Rattle.ch_pack.proofs.ops.moved_words.Given as goal

abbrev pub invariant-loop-word : goal.invariant-loop-word
invariant-loop-word l = record {
  made : l.moved ≡ map (moved_word l.seat) (take l.word-index l.words);
  left : operands_end (map Word (drop l.word-index l.words)) + l.seat.shift ≤ 2 ^ 32;
}
