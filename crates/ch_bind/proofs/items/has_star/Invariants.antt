use Rattle.std.proofs.Common.{◌≡◌, drop}
use Rattle.std.specs.List.{list_any}
use Rattle.ch_bind.specs.Checks.{is_star}
use Rattle.ch_bind.proofs.items.has_star.Given as goal

-- the items left decide
abbrev pub invariant-loop-item : goal.invariant-loop-item
invariant-loop-item l = list_any is_star (drop l.item-index l.items) ≡ list_any is_star l.items
