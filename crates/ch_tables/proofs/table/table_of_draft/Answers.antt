use Rattle.std.proofs.Common.{[], ◌∙◌, length, ap, subst, refl, arith}
use Rattle.std.specs.Prelude.{flat_map, sum_by}
use Rattle.ch_tables.specs.Columns.{AllStandFor}
use Rattle.ch_tables.specs.Texts.{texts_in, with_texts}
use Rattle.ch_tables.proofs.TextsOfLemmas.{texts-of-draft}
use Rattle.ch_tables.proofs.ValueLemmas.{columns-AllStandFor, length-AllStandFor, value-of-draft}
use Rattle.ch_tables.proofs.table.table_of_draft.Goals as goal

pub invariant_of-result : goal.invariant_of-result
invariant_of-result c =
    let draft = c.args.draft in
    let whole = c.requires.whole in
    let e = c.in_ok-columns.ensures in
    let words : AllStandFor c.all_words.new.texts c.in_ok-columns.columns.items draft.columns.items =
    subst (AllStandFor c.all_words.new.texts c.in_ok-columns.columns.items) c.as_slice.ensures.value e.words in
    let size = length-AllStandFor c.all_words.new.texts c.in_ok-columns.columns.items draft.columns.items words in
    let none = ap length c.new-texts.ensures in
    let sum = ap (sum_by length) c.as_slice.ensures.value in
    record {
      width = size ∙ whole.width;
      few_columns = whole.few_columns;
      few_parts = whole.few_parts;
      few_texts = let few = e.few in omega arith;
      spans = whole.spans;
      columns = columns-AllStandFor c.all_words.new.texts c.in_ok-columns.columns.items draft.columns.items draft.rows words whole.full;
      names = whole.names;
      texts =
          texts-of-draft draft
          (record { name = c.in_ok-from_slice.field-0; header = draft.header; spans = draft.spans; columns = c.in_ok-columns.columns; texts = c.all_words.new.texts; rows = draft.rows })
          whole.bodies whole.draft_of whole.wide words refl refl
          (e.texts ∙ (ap (λ texts. with_texts texts (flat_map texts_in c.as_slice.result.now)) c.new-texts.ensures
          ∙ ap (λ columns. with_texts [] (flat_map texts_in columns)) c.as_slice.ensures.value));
    }

pub returns : goal.returns
returns c header bodies d w =
    let draft = c.args.draft in
    let words : AllStandFor c.all_words.new.texts c.in_ok-columns.columns.items draft.columns.items =
    subst (AllStandFor c.all_words.new.texts c.in_ok-columns.columns.items) c.as_slice.ensures.value c.in_ok-columns.ensures.words in
    value-of-draft draft
    (record { name = c.in_ok-from_slice.field-0; header = draft.header; spans = draft.spans; columns = c.in_ok-columns.columns; texts = c.all_words.new.texts; rows = draft.rows })
    c.args.name.now header bodies d w words c.in_ok-from_slice.ensures refl refl
