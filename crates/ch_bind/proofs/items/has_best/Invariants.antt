use Rattle.std.proofs.Common.{◌≡◌, drop}
use Rattle.std.specs.List.{list_any}
use Rattle.ch_bind.specs.Checks.{is_best}
use Rattle.ch_bind.proofs.items.has_best.Given as goal

-- the items left decide
abbrev pub invariant-loop-item : goal.invariant-loop-item
invariant-loop-item l = list_any is_best (drop l.item-index l.items) ≡ list_any is_best l.items
