use Rattle.std.proofs.Common.{◌≡◌, ◌+◌, ◌++◌, drop}
use Rattle.ch_pack_laws.specs.Packed.{compared}
use Rattle.ch_pack.specs.Plans.{programs_of}
use Rattle.ch_pack.proofs.program.first_stage.Given as goal

abbrev pub invariant-loop-plan : goal.invariant-loop-plan
invariant-loop-plan l = record {
  made : l.ops ++ compared l.selector l.chosen l.number (programs_of (drop l.plan-index l.plans)) ≡ compared l.selector l.fn.chosen 0 (programs_of l.plans);
  chosen : l.chosen ≡ l.fn.chosen + l.plan-index;
  number : l.number ≡ l.plan-index;
}
