use Rattle.std.proofs.Common.{◌≡◌, ℕ, [], List, map, take}
use Rattle.ch_tables.proofs.draft.new_draft.Given as goal

abbrev pub invariant-loop-name : goal.invariant-loop-name
invariant-loop-name l = l.columns.items ≡ map (λ (name : List ℕ). []) (take l._name-index l._name-items)
