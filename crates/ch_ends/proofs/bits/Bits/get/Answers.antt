use Rattle.std.proofs.Common.{◌≡◌, ◌/◌, ◌%◌, ◌<◌, length, eqb, get_or, ap, sym, ◌∙◌, arith}
use Rattle.std.specs.Int.{bit_at}
use Rattle.std.proofs.lemmas.List.{get_or_read}
use Rattle.std.proofs.lemmas.Nat.Bits.{shr_and_one}
use Rattle.ch_ends.specs.Bits.{has_bit}
use Rattle.ch_ends.proofs.Packing.{at-unpacked, word_there, within}
use Rattle.ch_ends.proofs.bits.Bits.get.Goals as goal

pub index-requires : goal.index-requires
index-requires c =
    let lt : c.args.at < c.self.inside.len = within c.self.inside.len c.self.inside.words.items c.args.self.now c.args.at c.self.view_is c.requires in
    let there : c.args.at / 64 < length c.self.inside.words.items = word_there c.self.inside.len c.args.at c.self.inside.words.items lt c.self.invariant in
    omega (arith, there, c.self.inside.words.ok.0)

pub returns : goal.returns
returns c =
    let w = c.index.result.now in
    let words = c.self.inside.words.items in
    let k = c.args.at in
    let lt : k < c.self.inside.len = within c.self.inside.len words c.args.self.now k c.self.view_is c.requires in
    let read : w ≡ get_or words (k / 64) 0 = get_or_read words (k / 64) w (word_there c.self.inside.len k words lt c.self.invariant) c.index.ensures 0 in
    ap (λ x. eqb x 1) (shr_and_one w (k % 64))
    ∙ (ap (λ x. eqb (bit_at x (k % 64)) 1) read
    ∙ (sym (at-unpacked c.self.inside.len words k lt) ∙ ap (λ l. has_bit l k) c.self.view_is))
