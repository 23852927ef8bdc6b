use Rattle.std.proofs.Common.{◌≡◌, ◌+◌, ◌++◌, ◌∷◌, pos, drop}
use Rattle.ch_ir.specs.declared.program.Op.TheVariants.{Set}
use Rattle.ch_ir.specs.declared.program.Operand.TheVariants.{Const}
use Rattle.ch_pack_laws.specs.Packed.{joined}
use Rattle.ch_pack.specs.Plans.{programs_of}
use Rattle.ch_pack.specs.Small.{VerdictsSmall}
use Rattle.ch_pack.proofs.program.last_stage.Given as goal

abbrev pub invariant-loop-plan : goal.invariant-loop-plan
invariant-loop-plan l = record {
  made : l.ops ++ joined l.free l.chosen l.last (programs_of (drop l.plan-index l.plans)) ≡ Set l.fn.last (Const (pos 0)) ∷ joined l.fn.free l.fn.chosen l.fn.last (programs_of l.plans);
  last : l.last ≡ l.fn.last + l.plan-index;
  small : VerdictsSmall l.free l.chosen (programs_of (drop l.plan-index l.plans));
}
