use Rattle.std.proofs.Common.{◌≡◌, ◌++◌, pos, take, ap, sym, ◌∙◌, rules}
use Rattle.std.specs.Prelude.{slice_index_or, FitsSigned}
use Rattle.std.specs.Int.{w64, cast_signed, cast_unsigned}
use Rattle.std.specs.List.{flat_map}
use Rattle.std.proofs.lemmas.Int.{to_z-of_z}
use Rattle.std.proofs.lemmas.List.{take_more, flat_map_more}
use Rattle.ch_packet.specs.Spelling.{word_bytes}
use Rattle.ch_packet.proofs.packet.write_words.Goals as goal

pub loop-word-preserved : goal.loop-word-preserved
loop-word-preserved c =
    let i = c.loop-word.word-index in
    let word = slice_index_or c.args.words.now i (pos 0) in
    let fits : FitsSigned w64 word = search rules in
    let same : word_bytes (cast_signed w64 (cast_unsigned w64 word)) ≡ word_bytes word = ap word_bytes (to_z-of_z w64 word fits) in
    c.in_ok-write_i64.ensures.bytes
    ∙ ap (λ bytes. c.loop-word.out.items ++ bytes) same
    ∙ ap (λ out. out ++ word_bytes word) c.loop-word.invariant
    ∙ flat_map_more word_bytes c.args.out.now.items (take i c.args.words.now) word
    ∙ ap (λ words. c.args.out.now.items ++ flat_map word_bytes words) (sym (take_more c.args.words.now i (pos 0) c.loop-word-test.true))
