-- Words that fit: of a row, and of the rows that are sent.
use Rattle.std.proofs.Common.{◌≢◌, ℕ, List, sym, subst, inl, inr}
use Rattle.std.specs.Prelude.{ℤ}
use Rattle.std.proofs.lemmas.List.{length-map}
use Rattle.ch_cells.specs.declared.Cell.{Cell}
use Rattle.ch_lists.proofs.Members.{In-map, In-append}
use Rattle.ch_cover.specs.Rows.{Row}
use Rattle.ch_pred.specs.Sound.{IsCarried, carried_of}
use Rattle.ch_pred.specs.declared.bound.Bound.{Bound}
use Rattle.ch_pred.specs.declared.bound.Shape.TheVariants as shape
use Rattle.ch_pred.specs.declared.pred.Col.{Col}
use Rattle.ch_words.specs.Packets.{AreSound, TableFits, all_sent, kinds_read, sent_row, sent_rows, table_of}
use Rattle.ch_words.specs.Rows.{Gate, words_seen}
use Rattle.ch_word_cells.specs.Fits.{FitsWord, WordsFit}
use Rattle.ch_word_cells.proofs.Sent.{side_fits, first_alone}
use Rattle.ch_fold_lines.specs.Rows.{RowFits, RowsFit}

-- the words of a row, unless the query is a join
pub words_fit : (texts : List (List ℕ)) (b : Bound) (ws : List ℤ) → ((left right : Col) → b.shape ≢ shape.Join left right) → RowFits texts b 0 ws → WordsFit texts b (words_seen b ws)
words_fit texts b ws alone f side at h =
    let g = first_alone b.shape alone (IsCarried b) side at h in
    subst (λ (s : ℕ). FitsWord texts (kinds_read b b.shape s at) (words_seen b ws s at)) (sym g.1) (f.words at (subst (λ (s : ℕ). IsCarried b s at) g.1 g.0))

module _ (texts : List (List ℕ)) (b : Bound) (gate : Gate) where
  side_rows_fit : (side : ℕ) (table : List (List Cell)) → TableFits texts (kinds_read b b.shape) b side table → RowsFit texts b (sent_rows texts gate b side table)
  side_rows_fit side table fits r i =
      let m = In-map (sent_row texts gate b side) r table i in
      subst (λ (q : Row). RowFits texts b q.side q.words) (sym m.2) (record {
        width = length-map (carried_of b side) _;
        words = side_fits texts b side m.0 (fits m.0 m.1);
      })

  pub sent_fit : (tables : List (List (List Cell))) → AreSound texts (kinds_read b b.shape) b tables → RowsFit texts b (all_sent texts gate b tables)
  sent_fit tables s r i = elim (In-append r (sent_rows texts gate b 0 (table_of tables 0)) (sent_rows texts gate b 1 (table_of tables 1)) i) [
    | inl j ↦ side_rows_fit 0 (table_of tables 0) s.first r j
    | inr j ↦ side_rows_fit 1 (table_of tables 1) s.second r j
  ]
