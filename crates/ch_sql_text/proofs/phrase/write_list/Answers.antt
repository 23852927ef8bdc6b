use Rattle.std.proofs.Common.{◌∙◌, map, refl}
use Rattle.ch_sql_grammar.specs.declared.terminal.Mark.TheVariants as mark
use Rattle.ch_sql_text.proofs.Puts.{list_step}
use Rattle.ch_sql_text.proofs.phrase.write_list.Goals as goal

pub loop-phrase-preserved : goal.loop-phrase-preserved
loop-phrase-preserved g c =
    list_step (map g.P.Phrase.tokens) g.P.Phrase.tokens (λ y ys. refl) c.args.phrases.now c.loop-phrase.phrase-index c.phrase-item.result c.loop-phrase.behind_one mark.Comma
    c.loop-phrase.writer c.mark_if.new.self c.write.new.writer c.loop-phrase-test.true c.phrase-item.is c.in_ok-mark_if.ensures c.in_ok-write.ensures
    ∙ c.loop-phrase.invariant
