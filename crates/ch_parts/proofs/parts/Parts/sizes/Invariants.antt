use Rattle.std.proofs.Common.{◌≡◌, map, take}
use Rattle.ch_parts.proofs.parts.Parts.sizes.Given as goal

abbrev pub invariant-loop-source : goal.invariant-loop-source
invariant-loop-source l = l.rows.items ≡ map (λ s. s.rows) (take l.source-index l.source-items)
