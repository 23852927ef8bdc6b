use Rattle.std.proofs.Common.{ℕ, List, ℤ, pos, get_or, take, subst, sym, ap, ◌∙◌, rules}
use Rattle.std.specs.Prelude.{slice_index_or}
use Rattle.std.proofs.lemmas.List.{take_more}
use Rattle.ch_lists.specs.Members.{Each}
use Rattle.ch_pred.specs.Sound.{place_in}
use Rattle.ch_words.specs.Packets.{kinds_read}
use Rattle.ch_words.specs.Rows.{words_seen}
use Rattle.ch_word_cells.specs.Fits.{FitsWord}
use Rattle.ch_fold_lines.proofs.Held.{each_more}
use Rattle.ch_fold_lines.proofs.fits.row_fits.Goals as goal

pub loop-at-preserved : goal.loop-at-preserved
loop-at-preserved c =
    let texts = c.args.ranks.now in
    let b = c.args.query.now in
    let ws = c.args.words.now in
    let cols = c.carried_of-carried.result.now in
    let i = c.loop-at.at-index in
    let col = get_or cols i 0 in
    let given = c.word_fits.ensures c.if-not-word_fits.false in
    let read : FitsWord texts (kinds_read b b.shape c.args.side col) c.word_at-word.result = λ e. let g = given e in search (rules, g) in
    let there : FitsWord texts (kinds_read b b.shape c.args.side col) (words_seen b ws c.args.side col) =
    subst (λ (w : ℤ). FitsWord texts (kinds_read b b.shape c.args.side col) w)
    (c.word_at-word.ensures ∙ ap (λ p. slice_index_or ws p (pos 0)) (c.place_in.ensures ∙ ap (λ cs. place_in cs col) c.carried_of-carried.ensures))
    read in
    subst (λ (xs : List ℕ). Each (λ at. FitsWord texts (kinds_read b b.shape c.args.side at) (words_seen b ws c.args.side at)) xs) (sym (take_more cols i 0 c.loop-at-test.true))
    (each_more (λ (at : ℕ). FitsWord texts (kinds_read b b.shape c.args.side at) (words_seen b ws c.args.side at)) (take i cols) col c.loop-at.invariant there)
