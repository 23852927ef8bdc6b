-- What the fold of a DISTINCT keeps, row by row, and the answer over it.
use Rattle.std.proofs.Common.{◌≡◌, ◌≢◌, ℕ, List, [], ◌∷◌, ◌++◌, map, ap, sym, ◌∙◌, subst, ℤ, pos}
use Rattle.std.specs.Ordering.{int_cmp}
use Rattle.std.specs.Cmp.Lexicographic.{slice_cmp}
use Rattle.std.specs.declared.cmp.Ordering.{Ordering}
use Rattle.std.proofs.lemmas.List.{map-append}
use Rattle.ch_lists.specs.Members.{In}
use Rattle.ch_lists.specs.Ordered.{IsExactOrder, SameBag, once, ordered}
use Rattle.ch_lists.proofs.Different.{once-In}
use Rattle.ch_lists.proofs.Orders.{ints_exact, lists_exact}
use Rattle.ch_lists.proofs.Sorting.{ordered_same}
use Rattle.ch_cells.specs.declared.Cell.{Cell}
use Rattle.ch_cover.specs.Rows.{Row}
use Rattle.ch_pred.specs.Meaning.{in_order, line, meaning_by}
use Rattle.ch_pred.specs.Sound.{IsCarried}
use Rattle.ch_pred.specs.declared.bound.Bound.{Bound}
use Rattle.ch_pred.specs.declared.bound.Shape.{Shape}
use Rattle.ch_pred.specs.declared.bound.Shape.TheVariants as shape
use Rattle.ch_pred.specs.declared.pred.Col.{Col}
use Rattle.ch_words.specs.Readings.{NamesOnly}
use Rattle.ch_words.specs.Rows.{answer_over, side_seen, words_seen}
use Rattle.ch_words.specs.Words.{asked_of_words, read_answer}
use Rattle.ch_word_cells.specs.Fits.{FitsWord}
use Rattle.ch_flat.specs.Flat.{pick}
use Rattle.ch_fold_laws.specs.Kept.{with_key}
use Rattle.ch_fold_laws.proofs.Steps.{keys_step}
use Rattle.ch_fold_lines.specs.Rows.{RowFits, RowsFit, answer_read, held, held_lines, reading}
use Rattle.ch_fold_lines.specs.Shown.{best_kind, printed_kinds, shown_line}
use Rattle.ch_fold_lines.specs.Distinct.{StandsForDistinct}
use Rattle.ch_fold_lines.specs.declared.distinct.DistinctFold.{DistinctFold}
use Rattle.ch_fold_lines.proofs.FilterLaws.{held_line_fits}
use Rattle.ch_fold_lines.proofs.Held.{pick_line}
use Rattle.ch_fold_lines.proofs.Ordered.{ordered-In}
use Rattle.ch_fold_lines.proofs.ShownLaws.{lines_shown, printed_there}

abbrev rows_cmp : List ℤ → List ℤ → Ordering
rows_cmp = slice_cmp int_cmp

rows_exact : IsExactOrder rows_cmp
rows_exact = lists_exact int_cmp ints_exact

pub distinct_alone : (s : Shape) → s ≡ shape.Distinct → (left right : Col) → s ≢ shape.Join left right
distinct_alone s e left right f = cc

none_fits : (texts : List (List ℕ)) (b : Bound) (s : Shape) → s ≡ shape.Distinct → FitsWord texts (best_kind b s) (pos 0)
none_fits texts b s e = subst (λ (t : Shape). FitsWord texts (best_kind b t) (pos 0)) (sym e) (λ k. absurd (cc k))

module _ (texts : List (List ℕ)) (b : Bound) (rows : List Row) (fold : DistinctFold) (s : StandsForDistinct texts b fold rows) where
  pub distinct_stays : (more : List Row) → RowsFit texts b more → held texts b more ≡ held texts b rows → StandsForDistinct texts b fold more
  distinct_stays more fits same = record {
    shape = s.shape;
    places = s.places;
    lines = subst (λ vs. SameBag fold.lines (once rows_cmp (map (line b.printed (pos 0)) vs))) (sym same) s.lines;
    fits = fits;
  }

  pub distinct_takes : (more : List Row) (ws : List ℤ) (new : DistinctFold) → RowsFit texts b more → RowFits texts b 0 ws → held texts b more ≡ held texts b rows ++ words_seen b ws ∷ []
      → new.places ≡ fold.places → new.lines ≡ with_key rows_cmp fold.lines (pick ws fold.places) → StandsForDistinct texts b new more
  distinct_takes more ws new fits f holds p k =
      let l = line b.printed (pos 0) (words_seen b ws) in
      let printed : pick ws fold.places ≡ l = ap (pick ws) s.places ∙ pick_line b ws f.width b.printed in
      let all : held_lines texts b more ≡ held_lines texts b rows ++ l ∷ [] = ap (map (line b.printed (pos 0))) holds ∙ map-append (line b.printed (pos 0)) (held texts b rows) (words_seen b ws ∷ []) in
      record {
        shape = s.shape;
        places = p ∙ s.places;
        lines = subst (λ (ls : List (List ℤ)). SameBag new.lines (once rows_cmp ls)) (sym all)
            (subst (λ (ks : List (List ℤ)). SameBag ks (once rows_cmp (held_lines texts b rows ++ l ∷ []))) (sym (k ∙ ap (with_key rows_cmp fold.lines) printed)) (keys_step rows_cmp rows_exact fold.lines (held_lines texts b rows) l s.lines));
        fits = fits;
      }

  pub distinct_answer : NamesOnly (IsCarried b) b → (lines : List (List ℤ)) (made : List (List Cell)) → made ≡ map (shown_line texts (printed_kinds b)) lines → lines ≡ ordered rows_cmp fold.lines
      → made ≡ answer_read texts b rows
  distinct_answer names lines made m l =
      let different = once rows_cmp (held_lines texts b rows) in
      let sorted : lines ≡ ordered rows_cmp different = l ∙ ordered_same rows_cmp rows_exact fold.lines different s.lines in
      let answered : answer_over (reading texts b) b rows ≡ ordered rows_cmp different =
      ap (λ (t : Shape). in_order int_cmp t (meaning_by t (asked_of_words (reading texts b) b) (side_seen b 0 rows) (side_seen b 1 rows))) s.shape in
      m ∙ (lines_shown texts b (printed_there b names) lines
      (λ ln i. held_line_fits texts b rows (distinct_alone b.shape s.shape) (none_fits texts b b.shape s.shape) s.fits ln
      (once-In rows_cmp rows_exact ln (held_lines texts b rows) (ordered-In rows_cmp ln different (subst (λ (ls : List (List ℤ)). In ln ls) sorted i))))
      ∙ ap (λ (ls : List (List ℤ)). read_answer (reading texts b) b ls) (sorted ∙ sym answered))
