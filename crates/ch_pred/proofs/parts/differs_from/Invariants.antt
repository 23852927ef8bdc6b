use Rattle.std.proofs.Common.{◌≡◌, take, map}
use Rattle.ch_pred.specs.Plain.{Compare, plain_of}
use Rattle.ch_pred.specs.declared.pred.Arg.TheVariants as arg
use Rattle.ch_pred.specs.declared.pred.Cmp.TheVariants as cmp
use Rattle.ch_pred.proofs.parts.differs_from.Given as goal

-- a comparison for each literal so far
abbrev pub invariant-loop-literal : goal.invariant-loop-literal
invariant-loop-literal l = map plain_of l.parts.items ≡ map (λ value. Compare l.col cmp.Ne (arg.Value value)) (take l.literal-index l.literals)
