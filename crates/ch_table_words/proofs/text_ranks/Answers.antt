use Rattle.std.proofs.Common.{rules, ◌≡◌, true}
use Rattle.std.specs.Prelude.{bytes_eq}
use Rattle.std.specs.List.{list_any}
use Rattle.ch_ranks.specs.Dictionary.{rank_in}
use Rattle.ch_tables.specs.Texts.{texts_of}
use Rattle.ch_table_words.proofs.Placed.{all_at, one_more, rank_there}
use Rattle.ch_table_words.proofs.text_ranks.Goals as goal

pub loop-at-preserved : goal.loop-at-preserved
loop-at-preserved c =
    let there = all_at (λ text. list_any (bytes_eq text) c.args.ranks.now ≡ true) (texts_of c.args.table.now) c.loop-at.at c.text.result.now c.requires c.text.ensures in
    let found = rank_there c.args.ranks.now c.text.result.now there in
    let rank : c.unwrap-rank.result ≡ rank_in c.args.ranks.now c.text.result.now = search (rules, found) in
    let grown = one_more c.args.ranks.now (texts_of c.args.table.now) c.loop-at.places c.loop-at.at c.text.result.now c.unwrap-rank.result c.text.ensures rank c.loop-at.invariant in
    search (rules, grown)
