use Rattle.std.proofs.Common.{◌≡◌, drop, false}
use Rattle.ch_bind.specs.Checks.{allows, refused_item}
use Rattle.ch_bind.proofs.items.refused_item.Given as goal

-- the items left decide
abbrev pub invariant-loop-at : goal.invariant-loop-at
invariant-loop-at l = refused_item (allows l.scope l.tail) l.at l.behind (drop l.at l.items) ≡ refused_item (allows l.scope l.tail) 0 false l.items
