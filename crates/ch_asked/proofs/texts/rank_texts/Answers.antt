use Rattle.std.proofs.Common.{◌≡◌, ◌∙◌, ◌++◌, ℕ, List, ap}
use Rattle.std.proofs.lemmas.Result.{IfOk-weaker}
use Rattle.ch_pred.specs.Plain.{plain_of}
use Rattle.ch_tables.specs.Texts.{with_texts}
use Rattle.ch_asked.specs.Texts.{asked_texts, dictionary_of, filter_texts, tables_texts}
use Rattle.ch_asked.proofs.Added.{dictionary_is}
use Rattle.ch_asked.proofs.texts.rank_texts.Goals as goal

pub returns-clause-is : goal.returns-clause-is
returns-clause-is c =
    let filtered = filter_texts (plain_of c.args.bound.now.filter) in
    let tabled = tables_texts c.args.tables.now c.as_slice.result.now in
    IfOk-weaker c.finish.result _ (λ (texts : List (List ℕ)). texts ≡ dictionary_of (asked_texts c.args.bound.now c.args.tables.now))
    (λ texts h.
    dictionary_is texts _ filtered tabled h (c.in_ok-gathered.ensures ∙ ap (λ ts. with_texts ts tabled) (c.in_ok-add_filter.ensures ∙ ap (λ (ts : List (List ℕ)). with_texts ts filtered) c.new.ensures))
    ∙ ap (λ ns. dictionary_of (filtered ++ tables_texts c.args.tables.now ns)) c.as_slice.ensures)
    c.finish.ensures.sorted
