use Rattle.std.proofs.Common.{◌≡◌, ◌+◌, ◌++◌, drop, length}
use Rattle.ch_pack_laws.specs.Packed.{all_arrays, bases_from}
use Rattle.ch_pack.specs.Plans.{programs_of}
use Rattle.ch_pack.proofs.program.bases_of.Given as goal

abbrev pub invariant-loop-plan : goal.invariant-loop-plan
invariant-loop-plan l = record {
  made : l.bases ++ bases_from l.base (programs_of (drop l.plan-index l.plans)) ≡ bases_from 0 (programs_of l.plans);
  left : l.base + length (all_arrays (programs_of (drop l.plan-index l.plans))) ≡ length (all_arrays (programs_of l.plans));
}
