use Rattle.std.proofs.Common.{◌≡◌, length}
use Rattle.std.specs.Prelude.{◌==◌}
use Rattle.std.specs.List.{slice_split}
use Rattle.ch_asm_lines.specs.Reading.{each_of}
use Rattle.ch_asm_lines.proofs.Lists.{with_items}
use Rattle.ch_asm_lines.proofs.list.read_list.Given as goal

abbrev pub invariant-loop-first : goal.invariant-loop-first
invariant-loop-first g l = each_of g.T.Item.read_of (slice_split (λ b. b == 44) l.fn.text) ≡ with_items l.items (each_of g.T.Item.read_of (slice_split (λ b. b == 44) l.rest))

abbrev pub decreases-loop-first : goal.decreases-loop-first
decreases-loop-first g l = length l.rest
