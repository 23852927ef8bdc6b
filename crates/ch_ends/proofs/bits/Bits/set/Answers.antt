use Rattle.std.proofs.Common.{◌≡◌, ◌/◌, ◌%◌, ◌<◌, ◌*◌, ◌^◌, true, length, eqb, get_or, set, bit_or, w64, ap, ◌∙◌, arith}
use Rattle.std.specs.Int.{bit_at}
use Rattle.std.proofs.lemmas.List.{get_or_read}
use Rattle.std.proofs.lemmas.Nat.Bits.{bit_at_set_same, bit_at_set_other}
use Rattle.ch_ends.proofs.Packing.{unpacked-set, word_there, within}
use Rattle.ch_ends.proofs.bits.Bits.set.Goals as goal

pub index_mut-requires : goal.index_mut-requires
index_mut-requires c =
    let lt : c.args.at < c.self.inside.len = within c.self.inside.len c.self.inside.words.items c.args.self.now c.args.at c.self.view_is c.requires in
    let there : c.args.at / 64 < length c.self.inside.words.items = word_there c.self.inside.len c.args.at c.self.inside.words.items lt c.self.invariant in
    omega (arith, there, c.self.inside.words.ok.0)

pub returns : goal.returns
returns c =
    let w = c.index_mut.result.now in
    let words = c.self.inside.words.items in
    let k = c.args.at in
    let lt : k < c.self.inside.len = within c.self.inside.len words c.args.self.now k c.self.view_is c.requires in
    let small : k % 64 < 64 = omega arith in
    let read : w ≡ get_or words (k / 64) 0 = get_or_read words (k / 64) w (word_there c.self.inside.len k words lt c.self.invariant) c.index_mut.ensures.value 0 in
    unpacked-set c.self.inside.len k (bit_or w (1 * 2 ^ (k % 64) % 18446744073709551616)) true words lt c.self.invariant
    (ap (λ x. eqb x 1) (bit_at_set_same w64 w (k % 64) small))
    (λ i l ne. bit_at_set_other w64 w (k % 64) small i ne ∙ ap (λ x. bit_at x i) read)
    ∙ ap (λ l. set l k true) c.self.view_is
