-- The answer over the tables is the answer over the rows of packets that they give, read.
use Rattle.std.proofs.Common.{◌≡◌, ◌≢◌, ℕ, suc, Bool, true, false, cond, eqb, eqb-true, eq-eqb, List, [], ◌∷◌, ◌++◌, map, filter, Some, None, IsPermutation, refl, sym, ◌∙◌, ap, inl, inr, subst, length, ◌<◌, ◌≤◌, arith}
use Rattle.std.specs.Prelude.{ℤ, pos, slice_index_or}
use Rattle.std.proofs.lemmas.List.Elements.{filter-append}
use Rattle.std.proofs.lemmas.List.{get_or_past, append-nil}
use Rattle.std.proofs.lemmas.Bool.{and_from, cases_lt}
use Rattle.ch_cells.specs.declared.Cell.{Cell}
use Rattle.ch_cells.specs.declared.Cell.TheVariants as cell
use Rattle.ch_cells.specs.declared.Kind.{Kind}
use Rattle.ch_cells.specs.declared.Kind.TheVariants as kind
use Rattle.ch_lists.specs.Members.{In, Each}
use Rattle.ch_lists.proofs.Members.{In-map, In-append}
use Rattle.ch_cover.specs.Rows.{Row, AreRows, same_bit}
use Rattle.ch_pred.specs.Values.{cells_seen, number_in}
use Rattle.ch_pred.specs.Meaning.{answer_to, answer, table_seen}
use Rattle.ch_pred.specs.declared.bound.Bound.{Bound}
use Rattle.ch_pred.specs.declared.bound.Shape.{Shape}
use Rattle.ch_pred.specs.declared.bound.Shape.TheVariants as shape
use Rattle.ch_words.specs.Words.{Reading, asked_of_words, read_answer}
use Rattle.ch_words.specs.Readings.{FitsShape, IsReading, AllStandFor, left_of, right_of}
use Rattle.ch_words.specs.Rows.{words_seen, row_seen, side_seen, answer_over, Gate, is_sided, is_gated}
use Rattle.ch_words.specs.Ranks.{column_cell, read_by, word_of}
use Rattle.ch_pred.specs.Sound.{IsCarried, carried_of, has_one_table, place_in}
use Rattle.ch_ranks.specs.Dictionary.{Ascends}
use Rattle.ch_words.specs.Packets.{packed, sent_row, sent_rows, FitsKind, TableFits, KindsFit, table_of, all_sent, AreSound}
use Rattle.ch_words.proofs.Tied.{answer_read}
use Rattle.ch_words.proofs.Ranks.{column_rises, word_read}
use Rattle.ch_words.proofs.OneTable.{over_order}

-- the word at a carried column's place
word_at : (f : ℕ → ℤ) (cs : List ℕ) (at : ℕ) → In at cs → slice_index_or (map f cs) (place_in cs at) (pos 0) ≡ f at
word_at f [] at h = absurd h
word_at f (c ∷ cs) at h = go (eqb c at) refl h (word_at f cs at)
  where
    go : (t : Bool) → eqb c at ≡ t → In at (c ∷ cs) → (In at cs → slice_index_or (map f cs) (place_in cs at) (pos 0) ≡ f at) → slice_index_or (map f (c ∷ cs)) (cond t 0 (suc (place_in cs at))) (pos 0) ≡ f at
    go true e h ih = ap f (eqb-true c at e)
    go false e (inl s) ih = absurd (cc (e, eq-eqb c at (sym s)))
    go false e (inr j) ih = ih j

module _ (texts : List (List ℕ)) (ascends : Ascends texts) (kinds : ℕ → ℕ → Kind) (b : Bound) where
  abbrev d : Reading
  d = read_by texts kinds

  summed : (k : Kind) → (k ≢ kind.Text) → (w : ℤ) → number_in (column_cell texts k w) ≡ w
  summed kind.Number n w = refl
  summed kind.Text n w = absurd (n refl)
  summed kind.Void n w = refl

  fits_shape : (s : Shape) → KindsFit kinds s → FitsShape d s
  fits_shape shape.Filter f = tt
  fits_shape shape.Distinct f = tt
  fits_shape (shape.Top by descending limit) f = tt
  fits_shape (shape.Group keys max value) f = tt
  fits_shape (shape.Having keys None above) f = tt
  fits_shape (shape.Having keys (Some value) above) f = summed (kinds value.side value.at) f
  fits_shape (shape.Join left right) f = λ w. ap (λ k. column_cell texts k w) f
  fits_shape (shape.Skyline dims) f = tt
  fits_shape (shape.Semi key within) f = λ w. ap (λ k. column_cell texts k w) f

  pub is_reading : KindsFit kinds b.shape → IsReading d b
  is_reading f = record { rises = (λ side at. column_rises texts ascends (kinds side at)); fits = fits_shape b.shape f }

  -- the packed words of a row stand for its cells
  pub packed_stand : (side : ℕ) (row : List Cell) → Each (λ at. FitsKind texts (kinds side at) (slice_index_or row at (cell.Number (pos 0)))) (carried_of b side)
      → (at : ℕ) → IsCarried b side at → cells_seen row side at ≡ d side at (words_seen b (packed texts b side row) side at)
  packed_stand side row f at c =
      word_read texts ascends (kinds side at) (slice_index_or row at (cell.Number (pos 0))) (f at c)
      ∙ ap (d side at) (sym (word_at (λ at. word_of texts (slice_index_or row at (cell.Number (pos 0)))) (carried_of b side) at c))

  -- side by side, a table and the rows that it gives
  table_stands : (has : ℕ → ℕ → Type 0) (side : ℕ) → ((s at : ℕ) → has s at → IsCarried b s at × (s ≡ side)) → (gate : Gate) (table : List (List Cell)) → TableFits texts kinds b side table
      → AllStandFor d has (map cells_seen table) (map (row_seen b) (sent_rows texts gate b side table))
  unfolding row_seen
  table_stands has side only gate [] f = tt
  table_stands has side only gate (row ∷ table) f = (
    (λ s at h. let p = only s at h in
        subst (λ (k : ℕ). cells_seen row k at ≡ d k at (words_seen b (packed texts b side row) k at)) (sym p.1)
        (packed_stand side row (f row (inl refl)) at (subst (λ (k : ℕ). IsCarried b k at) p.1 p.0))),
    table_stands has side only gate table (λ r i. f r (inr i)),
  )

  -- of the rows of a table those of its own side are all, and those of another are none
  own_side : (gate : Gate) (side : ℕ) (table : List (List Cell)) → filter (λ r. eqb r.side side) (sent_rows texts gate b side table) ≡ sent_rows texts gate b side table
  own_side gate side [] = refl
  own_side gate side (row ∷ table) = ap (λ t. cond t (sent_row texts gate b side row ∷ filter (λ r. eqb r.side side) (sent_rows texts gate b side table)) (filter (λ r. eqb r.side side) (sent_rows texts gate b side table))) (eq-eqb side side refl)
      ∙ ap (λ zs. sent_row texts gate b side row ∷ zs) (own_side gate side table)

  other_side : (gate : Gate) (side other : ℕ) → eqb side other ≡ false → (table : List (List Cell)) → filter (λ r. eqb r.side other) (sent_rows texts gate b side table) ≡ []
  other_side gate side other ne [] = refl
  other_side gate side other ne (row ∷ table) = ap (λ t. cond t (sent_row texts gate b side row ∷ filter (λ r. eqb r.side other) (sent_rows texts gate b side table)) (filter (λ r. eqb r.side other) (sent_rows texts gate b side table))) ne
      ∙ other_side gate side other ne table

pub two_sides : (b : Bound) → length b.carried ≤ 2 → (s at : ℕ) → IsCarried b s at → (s ≡ 0 → ⊥) → s ≡ 1
two_sides b le s at c ne = elim (cases_lt s 2) [
  | inl l ↦ omega (arith, le_one s l (λ e. ne e))
  | inr g ↦ absurd (subst (λ (cs : List ℕ). In at cs) (get_or_past b.carried s [] (omega arith)) c)
]
  where
    le_one : (s : ℕ) → s < 2 → (s ≡ 0 → ⊥) → s ≡ 1
    le_one s l n = omega (arith, n)

module _ (texts : List (List ℕ)) (kinds : ℕ → ℕ → Kind) (b : Bound) (tables : List (List (List Cell))) (gate : Gate) (sound : AreSound texts kinds b tables) where
  abbrev reading : Reading
  reading = read_by texts kinds

  abbrev sent : ℕ → List Row
  sent side = sent_rows texts gate b side (table_of tables side)

  side_zero : side_seen b 0 (all_sent texts gate b tables) ≡ map (row_seen b) (sent 0)
  side_zero = ap (map (row_seen b)) (filter-append (λ r. eqb r.side 0) (sent 0) (sent 1)
      ∙ ((λ i. (own_side texts sound.ascends kinds b gate 0 (table_of tables 0)) i ++ (other_side texts sound.ascends kinds b gate 1 0 refl (table_of tables 1)) i) ∙ append-nil (sent 0)))

  side_one : side_seen b 1 (all_sent texts gate b tables) ≡ map (row_seen b) (sent 1)
  side_one = ap (map (row_seen b)) (filter-append (λ r. eqb r.side 1) (sent 0) (sent 1)
      ∙ (λ i. (other_side texts sound.ascends kinds b gate 0 1 refl (table_of tables 0)) i ++ (own_side texts sound.ascends kinds b gate 1 (table_of tables 1)) i))

  -- the answer over the tables is the answer over the rows that they give, read
  pub tables_read : answer b tables ≡ read_answer reading b (answer_over reading b (all_sent texts gate b tables))
  tables_read =
      answer_read b reading (is_reading texts sound.ascends kinds b sound.kinds_fit) (IsCarried b) (table_seen tables 0) (table_seen tables 1) (map (row_seen b) (sent 0)) (map (row_seen b) (sent 1))
      (table_stands texts sound.ascends kinds b (left_of (IsCarried b)) 0 (λ s at h. h) gate (table_of tables 0) sound.first)
      (table_stands texts sound.ascends kinds b (right_of (IsCarried b)) 1 (λ s at h. (h.0, two_sides b sound.sides s at h.0 h.1)) gate (table_of tables 1) sound.second) sound.names
      ∙ ap (read_answer reading b) (λ i. answer_to (asked_of_words reading b) ((sym side_zero) i) ((sym side_one) i))

  -- in whatever order they come
  pub rows_read : (rows : List Row) → IsPermutation (all_sent texts gate b tables) rows → answer b tables ≡ read_answer reading b (answer_over reading b rows)
  rows_read rows p = tables_read ∙ ap (read_answer reading b) (over_order reading b (all_sent texts gate b tables) rows p)

  same_bit-itself : (t : Bool) → same_bit t t ≡ true
  same_bit-itself true = refl
  same_bit-itself false = refl

  sent_gated : (side : ℕ) → ((r : Row) → r.side ≡ side → is_sided b.shape r ≡ true) → (table : List (List Cell)) → AreRows (is_gated gate b) (sent_rows texts gate b side table)
  unfolding row_seen
  sent_gated side sided table r h =
      let q = In-map (sent_row texts gate b side) r table h in
      subst (λ (x : Row). is_gated gate b x ≡ true) (sym q.2)
      (and_from (is_sided b.shape (sent_row texts gate b side q.0)) (same_bit (gate side (words_seen b (packed texts b side q.0))) (gate side (words_seen b (packed texts b side q.0))))
      (sided (sent_row texts gate b side q.0) refl) (same_bit-itself (gate side (words_seen b (packed texts b side q.0)))))

  zero_sided : (r : Row) → r.side ≡ 0 → is_sided b.shape r ≡ true
  zero_sided r e = go (has_one_table b.shape) (eqb r.side 0) (eq-eqb r.side 0 e)
    where
      go : (t s : Bool) → s ≡ true → cond t s (cond s true (eqb r.side 1)) ≡ true
      go true s e = e
      go false true e = refl
      go false false e = absurd cc

  one_sided : has_one_table b.shape ≡ false → (r : Row) → r.side ≡ 1 → is_sided b.shape r ≡ true
  one_sided two r e = ap (λ t. cond t (eqb r.side 0) (cond (eqb r.side 0) true (eqb r.side 1))) two ∙ go (eqb r.side 0) (eq-eqb r.side 1 e)
    where
      go : (s : Bool) → eqb r.side 1 ≡ true → cond s true (eqb r.side 1) ≡ true
      go true e = refl
      go false e = e

  -- and each of them is a row whose bit is its gate
  pub sent_are : AreRows (is_gated gate b) (all_sent texts gate b tables)
  sent_are r h = elim (In-append r (sent 0) (sent 1) h) [
    | inl i ↦ sent_gated 0 zero_sided (table_of tables 0) r i
    | inr i ↦ second (has_one_table b.shape) refl i
  ]
    where
      second : (t : Bool) → has_one_table b.shape ≡ t → In r (sent 1) → is_gated gate b r ≡ true
      second true e i = absurd (subst (λ (table : List (List Cell)). In r (sent_rows texts gate b 1 table)) (sound.alone e) i)
      second false e i = sent_gated 1 (one_sided e) (table_of tables 1) r i
