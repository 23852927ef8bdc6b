use Rattle.std.proofs.Common.{false, length, get_or, replicate, ap, sym, ◌∙◌}
use Rattle.ch_ends.proofs.Packing.{unpacked-zeros, length-unpacked, zeros_at}
use Rattle.ch_ends.proofs.bits.Bits.clear.Goals as goal

pub returns : goal.returns
returns c =
    unpacked-zeros c.self.inside.len c.fill.new.self.items (λ i. ap (λ l. get_or l i 0) (c.fill.ensures.items (λ y e. e)) ∙ zeros_at _ i)
    ∙ ap (λ n. replicate n false) (sym (length-unpacked c.self.inside.len c.self.inside.words.items) ∙ ap (λ l. length l) c.self.view_is)
