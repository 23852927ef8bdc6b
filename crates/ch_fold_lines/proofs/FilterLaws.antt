-- What the fold of a filter keeps, row by row, and the answer over it.
use Rattle.std.proofs.Common.{◌≡◌, ◌≢◌, ℕ, List, [], ◌∷◌, ◌++◌, map, length, ap, sym, ◌∙◌, subst, ℤ, pos}
use Rattle.std.specs.Ordering.{int_cmp}
use Rattle.std.specs.Cmp.Lexicographic.{slice_cmp}
use Rattle.std.proofs.lemmas.List.{map-append}
use Rattle.ch_lists.specs.Members.{In}
use Rattle.ch_lists.specs.Ordered.{ordered}
use Rattle.ch_lists.proofs.Members.{In-map}
use Rattle.ch_cells.specs.declared.Cell.{Cell}
use Rattle.ch_cover.specs.Rows.{Row}
use Rattle.ch_pred.specs.Meaning.{in_order, line, meaning_by}
use Rattle.ch_pred.specs.Sound.{IsCarried}
use Rattle.ch_pred.specs.declared.bound.Bound.{Bound}
use Rattle.ch_pred.specs.declared.bound.Shape.{Shape}
use Rattle.ch_pred.specs.declared.bound.Shape.TheVariants as shape
use Rattle.ch_pred.specs.declared.pred.Col.{Col}
use Rattle.ch_words.specs.Readings.{NamesOnly}
use Rattle.ch_words.specs.Rows.{answer_over, side_seen, words_seen}
use Rattle.ch_words.specs.Words.{asked_of_words, read_answer}
use Rattle.ch_word_cells.specs.Fits.{FitsWord}
use Rattle.ch_flat.specs.Flat.{Flat, pick, with_row}
use Rattle.ch_fold_lines.specs.Rows.{RowFits, RowsFit, answer_read, held, held_lines, reading}
use Rattle.ch_fold_lines.specs.Shown.{best_kind, printed_kinds, shown_line}
use Rattle.ch_fold_lines.specs.Filter.{StandsForFilter}
use Rattle.ch_fold_lines.specs.declared.filter.FilterFold.{FilterFold}
use Rattle.ch_fold_lines.proofs.WordFits.{words_fit}
use Rattle.ch_fold_lines.proofs.Held.{held_fits, pick_line}
use Rattle.ch_fold_lines.proofs.Ordered.{ordered-In}
use Rattle.ch_fold_lines.proofs.ShownLaws.{LineFits, lines_shown, printed_there}

-- a filter isn't a join
pub filter_alone : (s : Shape) → s ≡ shape.Filter → (left right : Col) → s ≢ shape.Join left right
filter_alone s e left right f = cc

-- what is printed of rows that hold fits, where nothing but columns is printed
pub held_line_fits : (texts : List (List ℕ)) (b : Bound) (rows : List Row) → ((left right : Col) → b.shape ≢ shape.Join left right) → FitsWord texts (best_kind b b.shape) (pos 0) → RowsFit texts b rows
    → (l : List ℤ) → In l (held_lines texts b rows) → LineFits texts b l
held_line_fits texts b rows alone none fits l i =
    let m = In-map (line b.printed (pos 0)) l (held texts b rows) i in
    let h = held_fits texts b rows m.0 fits m.1 in
    record {
      view = words_seen b h.0;
      best = pos 0;
      fits = words_fit texts b h.0 alone h.1;
      best_fits = none;
      is = m.2 ∙ ap (line b.printed (pos 0)) h.2;
    }

-- a number fits where no best value is read
pub none_fits : (texts : List (List ℕ)) (b : Bound) (s : Shape) → s ≡ shape.Filter → FitsWord texts (best_kind b s) (pos 0)
none_fits texts b s e = subst (λ (t : Shape). FitsWord texts (best_kind b t) (pos 0)) (sym e) (λ k. absurd (cc k))

module _ (texts : List (List ℕ)) (b : Bound) (rows : List Row) (fold : FilterFold) (s : StandsForFilter texts b fold rows) where
  pub filter_stays : (more : List Row) → RowsFit texts b more → held texts b more ≡ held texts b rows → StandsForFilter texts b fold more
  filter_stays more fits same = record {
    shape = s.shape;
    places = s.places;
    lines = s.lines ∙ (λ i. record { width = length b.printed; rows = map (line b.printed (pos 0)) (sym same i) });
    fits = fits;
  }

  pub filter_takes : (more : List Row) (ws : List ℤ) (new : FilterFold) → RowsFit texts b more → RowFits texts b 0 ws → held texts b more ≡ held texts b rows ++ words_seen b ws ∷ []
      → new.places ≡ fold.places → new.lines ≡ with_row fold.lines (pick ws fold.places) → StandsForFilter texts b new more
  filter_takes more ws new fits f holds p l =
      let printed : pick ws fold.places ≡ line b.printed (pos 0) (words_seen b ws) = ap (pick ws) s.places ∙ pick_line b ws f.width b.printed in
      let all : held_lines texts b more ≡ held_lines texts b rows ++ line b.printed (pos 0) (words_seen b ws) ∷ [] = ap (map (line b.printed (pos 0))) holds ∙ map-append (line b.printed (pos 0)) (held texts b rows) (words_seen b ws ∷ []) in
      record {
        shape = s.shape;
        places = p ∙ s.places;
        lines = l ∙ ((λ i. with_row (s.lines i) (printed i)) ∙ (λ i. record { width = length b.printed; rows = sym all i }));
        fits = fits;
      }

  pub filter_answer : NamesOnly (IsCarried b) b → (lines : List (List ℤ)) (made : List (List Cell)) → made ≡ map (shown_line texts (printed_kinds b)) lines → lines ≡ ordered (slice_cmp int_cmp) fold.lines.rows
      → made ≡ answer_read texts b rows
  filter_answer names lines made m l =
      let sorted : lines ≡ ordered (slice_cmp int_cmp) (held_lines texts b rows) = l ∙ ap (λ (f : Flat). ordered (slice_cmp int_cmp) f.rows) s.lines in
      let answered : answer_over (reading texts b) b rows ≡ ordered (slice_cmp int_cmp) (held_lines texts b rows) =
      ap (λ (t : Shape). in_order int_cmp t (meaning_by t (asked_of_words (reading texts b) b) (side_seen b 0 rows) (side_seen b 1 rows))) s.shape in
      m ∙ (lines_shown texts b (printed_there b names) lines
      (λ ln i. held_line_fits texts b rows (filter_alone b.shape s.shape) (none_fits texts b b.shape s.shape) s.fits ln (ordered-In (slice_cmp int_cmp) ln (held_lines texts b rows) (subst (λ (ls : List (List ℤ)). In ln ls) sorted i)))
      ∙ ap (λ (ls : List (List ℤ)). read_answer (reading texts b) b ls) (sorted ∙ sym answered))
