use Rattle.std.proofs.Common.{◌≡◌, drop, map, take}
use Rattle.ch_pack_laws.specs.Packed.{moved_operand}
use Rattle.ch_pack.specs.Small.{OperandsSmall}
use Rattle.ch_pack.proofs.stages.moved_operands.Given as goal

abbrev pub invariant-loop-operand : goal.invariant-loop-operand
invariant-loop-operand l = record {
  made : l.moved ≡ map (moved_operand l.seat) (take l.operand-index l.operands);
  left : OperandsSmall l.seat (drop l.operand-index l.operands);
}
