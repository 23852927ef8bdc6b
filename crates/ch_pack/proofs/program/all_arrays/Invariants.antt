use Rattle.std.proofs.Common.{◌≡◌, ◌++◌, drop}
use Rattle.ch_pack_laws.specs.Packed.{all_arrays}
use Rattle.ch_pack.specs.Plans.{programs_of}
use Rattle.ch_pack.proofs.program.all_arrays.Given as goal

abbrev pub invariant-loop-plan : goal.invariant-loop-plan
invariant-loop-plan l = l.all ++ all_arrays (programs_of (drop l.plan-index l.plans)) ≡ all_arrays (programs_of l.plans)
