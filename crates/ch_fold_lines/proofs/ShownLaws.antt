-- Lines of words that fit are shown as the cells that they stand for.
use Rattle.std.proofs.Common.{◌≡◌, ℕ, zero, suc, ◌<◌, List, [], ◌∷◌, map, length, Some, None, slice_get, refl, ap, sym, ◌∙◌, subst, arith, inl, inr, ℤ, pos, negsuc}
use Rattle.std.specs.Prelude.{◌≤ℤ◌, ◌<ℤ◌}
use Rattle.std.proofs.lemmas.Int.{ints}
use Rattle.ch_cells.specs.declared.Kind.{Kind}
use Rattle.ch_cells.specs.declared.Kind.TheVariants as kind
use Rattle.ch_lists.specs.Members.{In}
use Rattle.ch_lists.proofs.Carried.{map_members}
use Rattle.ch_pred.specs.Meaning.{line}
use Rattle.ch_pred.specs.Sound.{IsCarried}
use Rattle.ch_pred.specs.Values.{View}
use Rattle.ch_pred.specs.declared.bound.Bound.{Bound}
use Rattle.ch_pred.specs.declared.bound.Printed.{Printed}
use Rattle.ch_pred.specs.declared.bound.Printed.TheVariants as printed
use Rattle.ch_pred.specs.declared.bound.Shape.{Shape}
use Rattle.ch_pred.specs.declared.bound.Shape.TheVariants as shape
use Rattle.ch_pred.specs.declared.pred.Col.{Col}
use Rattle.ch_words.specs.Packets.{kinds_read}
use Rattle.ch_words.specs.Ranks.{column_cell, text_at, text_cell}
use Rattle.ch_words.specs.Readings.{AllCols, AllPrinted, IsCol, NamesOnly, NamesShape, right_of, rows_have}
use Rattle.ch_words.specs.Words.{answer_reads, best_reads, printed_reads, read_answer, read_line}
use Rattle.ch_word_cells.specs.Fits.{FitsWord, WordsFit}
use Rattle.ch_fold_lines.specs.Rows.{reading}
use Rattle.ch_fold_lines.specs.Shown.{best_kind, printed_kind, printed_kinds, shown_cell, shown_line, shown_rank, shown_text}

found : (last : List ℕ) (texts : List (List ℕ)) (r : ℕ) → r < length texts → slice_get texts r ≡ Some (text_at last texts r)
found last [] r h = absurd (omega arith)
found last (t ∷ ts) zero h = refl
found last (t ∷ ts) (suc r) h = found t ts r (omega arith)

ranked : (texts : List (List ℕ)) (w : ℤ) → (pos 0 ≤ℤ w) × (w <ℤ pos (length texts)) → shown_rank texts w ≡ text_cell texts w
ranked texts (pos r) h = let high = h.1 in let below : r < length texts = grind (arith, ints, high) in ap (λ o. shown_text o (pos r)) (found [] texts r below)
ranked texts (negsuc n) h = refl

pub shown_fits : (texts : List (List ℕ)) (k : Kind) (w : ℤ) → FitsWord texts k w → shown_cell texts k w ≡ column_cell texts k w
shown_fits texts kind.Number w f = refl
shown_fits texts kind.Text w f = ranked texts w (f refl)
shown_fits texts kind.Void w f = refl

best_is : (texts : List (List ℕ)) (b : Bound) (s : Shape) (w : ℤ) → best_reads (reading texts b) s w ≡ column_cell texts (best_kind b s) w
best_is texts b shape.Filter w = refl
best_is texts b shape.Distinct w = refl
best_is texts b (shape.Top by descending limit) w = refl
best_is texts b (shape.Group keys max value) w = refl
best_is texts b (shape.Having keys sum above) w = refl
best_is texts b (shape.Join left right) w = refl
best_is texts b (shape.Skyline dims) w = refl
best_is texts b (shape.Semi key inner) w = refl

-- what a row, or a pair, prints whose words fit, with the best value of a group
pub record LineFits (texts : List (List ℕ)) (b : Bound) (l : List ℤ) : Type 0 where
  pub view : View ℤ
  pub best : ℤ
  pub fits : WordsFit texts b view
  pub best_fits : FitsWord texts (best_kind b b.shape) best
  pub is : l ≡ line b.printed best view

module _ (texts : List (List ℕ)) (b : Bound) where
  line_shown : (view : View ℤ) (best : ℤ) → WordsFit texts b view → FitsWord texts (best_kind b b.shape) best → (items : List Printed) → AllPrinted (rows_have b.shape (IsCarried b)) items
      → shown_line texts (map (printed_kind b) items) (line items best view) ≡ read_line (map (printed_reads (reading texts b) (best_reads (reading texts b) b.shape)) items) (line items best view)
  line_shown view best fits best_fits [] names = refl
  line_shown view best fits best_fits (printed.Column c ∷ items) names =
      λ i. shown_fits texts (kinds_read b b.shape c.side c.at) (view c.side c.at) (fits c.side c.at names.0) i ∷ line_shown view best fits best_fits items names.1 i
  line_shown view best fits best_fits (printed.Best ∷ items) names =
      λ i. (shown_fits texts (best_kind b b.shape) best best_fits ∙ sym (best_is texts b b.shape best)) i ∷ line_shown view best fits best_fits items names.1 i

  pub lines_shown : AllPrinted (rows_have b.shape (IsCarried b)) b.printed → (ls : List (List ℤ)) → ((l : List ℤ) → In l ls → LineFits texts b l)
      → map (shown_line texts (printed_kinds b)) ls ≡ read_answer (reading texts b) b ls
  lines_shown names ls fit = map_members (shown_line texts (printed_kinds b)) (read_line (answer_reads (reading texts b) b)) ls one
    where
      one : (l : List ℤ) → In l ls → shown_line texts (printed_kinds b) l ≡ read_line (answer_reads (reading texts b) b) l
      one l i =
          let k = fit l i in
          ap (shown_line texts (printed_kinds b)) k.is
          ∙ (line_shown k.view k.best k.fits k.best_fits b.printed names ∙ ap (read_line (answer_reads (reading texts b) b)) (sym k.is))

-- what is printed is there
module _ (has : ℕ → ℕ → Type 0) where
  key_there : (keys : List Col) (side at : ℕ) → AllCols has keys → IsCol keys side at → has side at
  key_there [] side at all i = absurd i
  key_there (c ∷ cs) side at all (inl e) = subst (λ (n : ℕ). has n at) e.0 (subst (λ (n : ℕ). has c.side n) e.1 all.0)
  key_there (c ∷ cs) side at all (inr i) = key_there cs side at all.1 i

  keys_there : (keys : List Col) → AllCols has keys → (items : List Printed) → AllPrinted (IsCol keys) items → AllPrinted has items
  keys_there keys all [] p = tt
  keys_there keys all (printed.Column c ∷ items) p = (key_there keys c.side c.at all p.0, keys_there keys all items p.1)
  keys_there keys all (printed.Best ∷ items) p = (tt, keys_there keys all items p.1)

  shape_there : (inner : ℕ → ℕ → Type 0) (items : List Printed) (s : Shape) → NamesShape has inner items s → AllPrinted has items
  shape_there inner items shape.Filter n = n
  shape_there inner items shape.Distinct n = n
  shape_there inner items (shape.Top by descending limit) n = n.0
  shape_there inner items (shape.Group keys max value) n = keys_there keys n.1 items n.0
  shape_there inner items (shape.Having keys None above) n = keys_there keys n.1 items n.0
  shape_there inner items (shape.Having keys (Some value) above) n = keys_there keys n.1 items n.0
  shape_there inner items (shape.Join left right) n = n.0
  shape_there inner items (shape.Skyline dims) n = n.0
  shape_there inner items (shape.Semi key within) n = n.0

pub printed_there : (b : Bound) → NamesOnly (IsCarried b) b → AllPrinted (rows_have b.shape (IsCarried b)) b.printed
printed_there b n = shape_there (rows_have b.shape (IsCarried b)) (right_of (IsCarried b)) b.printed b.shape n.shape
