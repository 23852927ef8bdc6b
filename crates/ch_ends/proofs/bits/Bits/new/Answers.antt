use Rattle.std.proofs.Common.{get_or, ap, ◌∙◌}
use Rattle.ch_ends.proofs.Packing.{unpacked-zeros, zeros_at}
use Rattle.ch_ends.proofs.bits.Bits.new.Goals as goal

pub returns : goal.returns
returns c = unpacked-zeros _ _ (λ i. ap (λ l. get_or l i 0) ((c.in_ok-words.ensures {u = tt}).items_if_clones_equal (λ y e. e)) ∙ zeros_at _ i)
