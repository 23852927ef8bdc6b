use Rattle.std.proofs.Common.{◌≡◌, drop}
use Rattle.ch_bind.specs.Binding.{best_of}
use Rattle.ch_bind.proofs.kinds.best_of.Given as goal

-- the items left decide
abbrev pub invariant-loop-item : goal.invariant-loop-item
invariant-loop-item l = best_of l.scope (drop l.item-index l.items) ≡ best_of l.scope l.items
