use Rattle.std.proofs.Common.{◌≡◌, ◌++◌, drop}
use Rattle.ch_bind.specs.Binding.{printed_of}
use Rattle.ch_bind.proofs.printed.printed_of.Given as goal

-- what the items left add
abbrev pub invariant-loop-item : goal.invariant-loop-item
invariant-loop-item l = l.printed ++ printed_of l.scope (drop l.item-index l.items) ≡ printed_of l.scope l.items
