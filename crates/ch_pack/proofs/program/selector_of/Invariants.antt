use Rattle.std.proofs.Common.{◌≡◌, drop, max}
use Rattle.ch_pack_laws.specs.Packed.{greatest_width}
use Rattle.ch_pack.specs.Plans.{programs_of}
use Rattle.ch_pack.proofs.program.selector_of.Given as goal

abbrev pub invariant-loop-plan : goal.invariant-loop-plan
invariant-loop-plan l = max l.selector (greatest_width (programs_of (drop l.plan-index l.plans))) ≡ greatest_width (programs_of l.plans)
