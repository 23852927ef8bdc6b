use Rattle.std.proofs.Common.{◌≡◌, ◌+◌, ◌<◌, [], ◌∷◌, ◌++◌, length, take, sym, ap, subst, ◌∙◌, arith, true, rules}
use Rattle.std.specs.Prelude.{flat_map}
use Rattle.std.specs.Result.{is_ok}
use Rattle.std.proofs.lemmas.List.{take_more}
use Rattle.ch_tables.specs.Columns.{AllStandFor}
use Rattle.ch_tables.specs.Texts.{texts_in, with_texts}
use Rattle.ch_tables.proofs.WordLemmas.{AllStandFor-push, AllStandFor-with_texts, columns-step, sum-step}
use Rattle.ch_tables.proofs.column.all_words.Goals as goal

pub loop-column-preserved : goal.loop-column-preserved
loop-column-preserved c =
    let inv = c.loop-column.invariant in
    let columns = c.args.columns.now in
    let at = c.loop-column.column-index in
    let e = c.in_ok-words_of.ensures in
    let here : at < length columns = omega arith in
    let longer : AllStandFor c.words_of.new.texts c.loop-column.words.items (take at columns) =
    subst (λ texts. AllStandFor texts c.loop-column.words.items (take at columns)) (sym e.texts)
    (AllStandFor-with_texts c.loop-column.texts (texts_in c.column-item.result) c.loop-column.words.items (take at columns) inv.words) in
    let good : is_ok c.push.result ≡ true = search rules in
    let items : c.push.new.self.items ≡ c.loop-column.words.items ++ c.in_ok-words_of.field-0 ∷ [] = rw good at c.push.ensures.items in
    let taken : take (at + 1) columns ≡ take at columns ++ c.column-item.result ∷ [] = take_more columns at c.column-item.result here ∙ ap (λ t. take at columns ++ t ∷ []) (sym c.column-item.is) in
    record {
      words = rw (taken, items) (AllStandFor-push c.words_of.new.texts c.loop-column.words.items (take at columns) c.in_ok-words_of.field-0 c.column-item.result longer e.words);
      same = columns-step (with_texts c.args.texts.now (flat_map texts_in columns)) c.loop-column.texts c.words_of.new.texts columns at c.column-item.result here c.column-item.is e.texts inv.same;
      few = let sum = sum-step columns at c.column-item.result here c.column-item.is in omega (arith, e.few);
    }
