use Rattle.std.proofs.Common.{◌≡◌, ◌++◌, drop}
use Rattle.ch_pack_laws.specs.Packed.{all_moved, free_after_all}
use Rattle.ch_pack.specs.Plans.{programs_of}
use Rattle.ch_pack.specs.Small.{ProgramsSmall}
use Rattle.ch_pack.proofs.program.push_programs.Given as goal

abbrev pub invariant-loop-plan : goal.invariant-loop-plan
invariant-loop-plan l = record {
  made : l.stages ++ all_moved l.free l.base l.chosen (programs_of (drop l.plan-index l.plans)) ≡ l.fn.stages ++ all_moved l.fn.free 0 l.fn.chosen (programs_of l.plans);
  last : free_after_all l.free (programs_of (drop l.plan-index l.plans)) ≡ free_after_all l.fn.free (programs_of l.plans);
  small : ProgramsSmall l.free l.base l.chosen (programs_of (drop l.plan-index l.plans));
}
