use Rattle.std.proofs.Common.{◌∙◌, List, ℕ, ap}
use Rattle.ch_tables.specs.Texts.{texts_of, with_texts}
use Rattle.ch_table_words.proofs.Dictionaries.{ranked_texts}
use Rattle.ch_value_rows.proofs.row_words.dictionary.Goals as goal

pub returns : goal.returns
returns c = ranked_texts c.in_ok-ranks.ranks c.add_texts.new.builder (texts_of c.args.table.now) c.in_ok-ranks.ensures.same
    (c.in_ok-add_texts.ensures ∙ ap (λ (ts : List (List ℕ)). with_texts ts (texts_of c.args.table.now)) c.new-builder.ensures)
