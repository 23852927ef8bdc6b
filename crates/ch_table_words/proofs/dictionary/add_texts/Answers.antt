use Rattle.std.proofs.Common.{◌+◌, ◌∙◌, length, ap, arith}
use Rattle.ch_tables.specs.Texts.{texts_of}
use Rattle.ch_table_words.proofs.Dictionaries.{one_added, one_longer}
use Rattle.ch_table_words.proofs.dictionary.add_texts.Goals as goal

pub loop-at-preserved : goal.loop-at-preserved
loop-at-preserved c = record {
  added = c.in_ok-add.ensures.ok ∙ one_added c.args.builder.now (texts_of c.args.table.now) c.loop-at.builder c.loop-at.at c.text.result.now c.text.ensures c.loop-at.invariant.added;
  few =
      let longer = one_longer c.loop-at.builder c.text.result.now (length c.args.builder.now + c.loop-at.at) c.loop-at.invariant.few in
      let same = ap length c.in_ok-add.ensures.ok in
      omega (arith, longer, same);
}
