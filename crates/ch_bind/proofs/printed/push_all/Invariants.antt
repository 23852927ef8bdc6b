use Rattle.std.proofs.Common.{◌≡◌, ◌++◌, map}
use Rattle.std.specs.List.{range_with_len}
use Rattle.ch_pred.specs.declared.bound.Printed.TheVariants as printed
use Rattle.ch_bind.proofs.printed.push_all.Given as goal

abbrev pub invariant-loop-at : goal.invariant-loop-at
invariant-loop-at l = l.printed ≡ l.initial.printed ++ map (λ at. printed.Column (record { side = l.side; at = at })) (range_with_len 0 l.at)
