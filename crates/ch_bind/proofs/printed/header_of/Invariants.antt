use Rattle.std.proofs.Common.{◌≡◌, ◌++◌, drop}
use Rattle.ch_bind.specs.Binding.{header_of}
use Rattle.ch_bind.proofs.printed.header_of.Given as goal

-- what the items left add
abbrev pub invariant-loop-item : goal.invariant-loop-item
invariant-loop-item l = l.names ++ header_of l.scope (drop l.item-index l.items) ≡ header_of l.scope l.items
