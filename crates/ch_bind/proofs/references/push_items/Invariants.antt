use Rattle.std.proofs.Common.{◌≡◌, ◌++◌, drop}
use Rattle.ch_bind.specs.References.{items_references}
use Rattle.ch_bind.proofs.references.push_items.Given as goal

-- what the items left add
abbrev pub invariant-loop-item : goal.invariant-loop-item
invariant-loop-item l = l.refs ++ items_references l.scope (drop l.item-index l.items) ≡ l.initial.refs ++ items_references l.scope l.items
