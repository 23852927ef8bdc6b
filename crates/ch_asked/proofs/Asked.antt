-- What a query that is bound to its tables asks of them.
use Rattle.std.proofs.Common.{◌≡◌, ◌≢◌, ◌^◌, ℕ, zero, suc, ◌+◌, ◌<◌, ◌≤◌, Bool, true, false, cond, eqb, eqb-true, eq-eqb, ◌||◌, List, [], ◌∷◌, ◌++◌, map, filter, length, Option, Some, None, refl, sym, ◌∙◌, ap, inl, inr, subst, arith}
use Rattle.std.specs.Prelude.{ℤ, pos, negsuc, bytes_eq, nat_abs, int_le, int_lt, flat_map, filter_map, slice_index_or, slice_get, option_map, option_and_then}
use Rattle.std.specs.Int.RustNames.{unsigned_abs}
use Rattle.std.specs.List.{list_any, range_with_len}
use Rattle.std.specs.Option.{option_or}
use Rattle.std.specs.Ordering.{is_lt}
use Rattle.std.proofs.lemmas.Bool.{cases_lt, le-leb, lt-ltb}
use Rattle.std.proofs.lemmas.List.{get_or-map, get_or_past, length-map}
use Rattle.std.proofs.lemmas.List.Folds.{list_any-append}
use Rattle.ch_cells.specs.Number.{greatest_magnitude}
use Rattle.ch_cells.specs.declared.Cell.{Cell}
use Rattle.ch_cells.specs.declared.Cell.TheVariants as cell
use Rattle.ch_cells.specs.declared.Kind.{Kind}
use Rattle.ch_cells.specs.declared.Kind.TheVariants as kind
use Rattle.ch_cover.specs.Rows.{Row}
use Rattle.ch_lists.specs.Members.{In, Each}
use Rattle.ch_lists.proofs.Members.{All-from_Each, Each-from_All, In-append, In-left, In-map, In-map_from, In-right}
use Rattle.ch_pred.specs.Meaning.{at}
use Rattle.ch_pred.specs.Named.{inner_cols, named, outer_named, pred_cols, printed_cols, shape_cols}
use Rattle.ch_pred.specs.Plain.{plain_of}
use Rattle.ch_pred.specs.Sound.{IsCarried, carried_of, has_one_table, kind_of, place_in}
use Rattle.ch_pred.specs.declared.bound.Bound.{Bound}
use Rattle.ch_pred.specs.declared.bound.Shape.{Shape}
use Rattle.ch_pred.specs.declared.bound.Shape.TheVariants as shape
use Rattle.ch_pred.specs.declared.pred.Col.{Col}
use Rattle.ch_prune.specs.Sent.{is_cell_word, is_countable}
use Rattle.ch_ranks.specs.Dictionary.{Ascends, rank_in, text_cmp}
use Rattle.ch_ranks.proofs.Ascending.{among_from}
use Rattle.ch_parts.specs.Asked.{asked_gate}
use Rattle.ch_parts.specs.InRange.{AreInRange}
use Rattle.ch_table_words.proofs.Dictionaries.{all_there}
use Rattle.ch_tables.specs.Table.{IsOfKind}
use Rattle.ch_tables.specs.TableValue.{TableValue}
use Rattle.ch_tables.specs.Texts.{cell_text, column_cells, texts_of, with_texts}
use Rattle.ch_words.specs.Packets.{FitsKind, TableFits, all_sent, column, packed, sent_row, sent_rows, table_of}
use Rattle.ch_words.specs.Ranks.{word_of}
use Rattle.ch_words.specs.Rows.{Gate, row_seen, words_seen}
use Rattle.ch_bind.specs.First.{first, first_from}
use Rattle.ch_bind.specs.Sums.{column_refusal, has_negative, is_negative, negative_from, part_refusal, summed_column, table_refusal}
use Rattle.ch_bind.specs.declared.error.SumError.{SumError}
use Rattle.ch_bind.specs.declared.error.SumError.TheVariants as error
use Rattle.ch_parts.specs.Scanned.{AreTables, asked_tables, side_table, table_at}
use Rattle.ch_asked.specs.Suits.{IsBoundTo, IsTyped, cell_in, rows_of}
use Rattle.ch_asked.specs.Texts.{asked_texts, filter_texts, tables_texts}
use Rattle.ch_asked.proofs.Dictionary.{any_in}

-- ---- texts

any_left : (p : List ℕ → Bool) (xs ys : List (List ℕ)) → list_any p xs ≡ true → list_any p (xs ++ ys) ≡ true
any_left p xs ys h = list_any-append p xs ys ∙ ap (λ b. b || list_any p ys) h

any_right : (p : List ℕ → Bool) (xs ys : List (List ℕ)) → list_any p ys ≡ true → list_any p (xs ++ ys) ≡ true
any_right p xs ys h = list_any-append p xs ys ∙ (ap (λ b. list_any p xs || b) h ∙ or_true (list_any p xs))
  where
    or_true : (b : Bool) → (b || true) ≡ true
    or_true true = refl
    or_true false = refl

any_flat : {X : Type 0} (p : List ℕ → Bool) (f : X → List (List ℕ)) (x : X) (xs : List X) → In x xs → list_any p (f x) ≡ true → list_any p (flat_map f xs) ≡ true
any_flat p f x [] i h = absurd i
any_flat p f x (y ∷ ys) (inl e) h = any_left p (f y) (flat_map f ys) (ap (λ z. list_any p (f z)) (sym e) ∙ h)
any_flat p f x (y ∷ ys) (inr i) h = any_right p (f y) (flat_map f ys) (any_flat p f x ys i h)

in_flat : {X Y : Type 0} (f : X → List Y) (x : X) (xs : List X) (y : Y) → In x xs → In y (f x) → In y (flat_map f xs)
in_flat f x [] y i j = absurd i
in_flat f x (z ∷ zs) y (inl e) j = In-left y (f z) (flat_map f zs) (subst (λ w. In y (f w)) e j)
in_flat f x (z ∷ zs) y (inr i) j = In-right y (f z) (flat_map f zs) (in_flat f x zs y i j)

in_some : (cells : List Cell) (t : List ℕ) → In (cell.Text t) cells → In t (filter_map cell_text cells)
in_some [] t i = absurd i
in_some (c ∷ cells) t (inl e) = subst (λ d. In t (filter_map cell_text (d ∷ cells))) e (inl refl)
in_some (cell.Number n ∷ cells) t (inr i) = in_some cells t i
in_some (cell.Text u ∷ cells) t (inr i) = inr (in_some cells t i)

in_range : (a n k : ℕ) → a ≤ k → k < a + n → In k (range_with_len a n)
in_range a zero k le lt = absurd (omega (arith, le, lt))
in_range a (suc n) k le lt = go (eqb k a) refl (in_range (a + 1) n k)
  where
    go : (b : Bool) → eqb k a ≡ b → (a + 1 ≤ k → k < (a + 1) + n → In k (range_with_len (a + 1) n)) → In k (range_with_len a (suc n))
    go true e ih = inl (eqb-true k a e)
    go false e ih = let differ : k ≢ a = λ s. cc (e, eq-eqb k a s) in ih_in (ih (omega (arith, le, differ)) (omega (arith, lt)))
      where
        ih_in : In k (range_with_len (a + 1) n) → In k (range_with_len a (suc n))
        ih_in j = inr j

-- the text of a cell is one of the table's
text_in_table : (table : TableValue) (row : List Cell) (col : ℕ) (t : List ℕ) → In row (rows_of table) → col < length table.header → cell_in row col ≡ cell.Text t
    → list_any (bytes_eq t) (texts_of table) ≡ true
unfolding texts_of
text_in_table table row col t i lt e =
    let texts = flat_map (λ col. filter_map cell_text (column_cells table col)) (range_with_len 0 (length table.header)) in
    let cells : In (cell.Text t) (column_cells table col) = subst (λ c. In c (column_cells table col)) e (In-map_from (λ (r : List Cell). slice_index_or r col (cell.Number (pos 0))) row (rows_of table) i) in
    let there : In t texts = in_flat (λ col. filter_map cell_text (column_cells table col)) col (range_with_len 0 (length table.header)) t (in_range 0 (length table.header) col (omega arith) (omega (arith, lt))) (in_some (column_cells table col) t cells) in
    Each-from_All (λ text. list_any (bytes_eq text) (with_texts [] texts) ≡ true) texts (all_there [] texts) t there

at_place : (ns : List ℕ) (side : ℕ) → side < length ns → In (slice_index_or ns side 0) ns
at_place [] side lt = absurd (omega (arith, lt))
at_place (n ∷ ns) zero lt = inl refl
at_place (n ∷ ns) (suc side) lt = inr (at_place ns side (omega (arith, lt)))

-- ---- words

pub abs_same : (n : ℤ) → unsigned_abs n ≡ nat_abs n
abs_same (pos n) = refl
abs_same (negsuc n) = refl

filter_shorter : (p : List ℕ → Bool) (xs : List (List ℕ)) → length (filter p xs) ≤ length xs
filter_shorter p [] = omega arith
filter_shorter p (x ∷ xs) = go (p x) (filter_shorter p xs)
  where
    go : (b : Bool) → length (filter p xs) ≤ length xs → length (cond b (x ∷ filter p xs) (filter p xs)) ≤ suc (length xs)
    go true h = omega (arith, h)
    go false h = omega (arith, h)

cell_ranged : (texts : List (List ℕ)) (k : Kind) (c : Cell) → length texts ≤ 2 ^ 32 → IsOfKind k c → is_cell_word (word_of texts c) ≡ true
cell_ranged texts kind.Number (cell.Number n) few h = le-leb (nat_abs n) greatest_magnitude (subst (λ m. m ≤ greatest_magnitude) (abs_same n) h)
cell_ranged texts kind.Number (cell.Text t) few h = absurd h
cell_ranged texts kind.Text (cell.Number n) few h = absurd h
cell_ranged texts kind.Text (cell.Text t) few h =
    let shorter = filter_shorter (λ s. is_lt (text_cmp s t)) texts in
    le-leb (rank_in texts t) greatest_magnitude (omega (arith, shorter, few))
cell_ranged texts kind.Void (cell.Number n) few h = absurd h
cell_ranged texts kind.Void (cell.Text t) few h = absurd h

cell_fits : (texts : List (List ℕ)) (k : Kind) (c : Cell) → ((t : List ℕ) → c ≡ cell.Text t → In t texts) → IsOfKind k c → FitsKind texts k c
cell_fits texts kind.Number (cell.Number n) f h = tt
cell_fits texts kind.Number (cell.Text t) f h = absurd h
cell_fits texts kind.Text (cell.Number n) f h = absurd h
cell_fits texts kind.Text (cell.Text t) f h = f t refl
cell_fits texts kind.Void (cell.Number n) f h = absurd h
cell_fits texts kind.Void (cell.Text t) f h = absurd h

-- what stands at a carried column's place
at_carried : {X : Type 0} (f : ℕ → X) (cs : List ℕ) (at : ℕ) (d : X) → In at cs → slice_index_or (map f cs) (place_in cs at) d ≡ f at
at_carried f [] at d h = absurd h
at_carried f (c ∷ cs) at d h = go (eqb c at) refl h (at_carried f cs at d)
  where
    go : (t : Bool) → eqb c at ≡ t → In at (c ∷ cs) → (In at cs → slice_index_or (map f cs) (place_in cs at) d ≡ f at) → slice_index_or (map f (c ∷ cs)) (cond t 0 (suc (place_in cs at))) d ≡ f at
    go true e h ih = ap f (eqb-true c at e)
    go false e (inl s) ih = absurd (cc (e, eq-eqb c at (sym s)))
    go false e (inr j) ih = ih j

-- ---- sums

not_first : {X : Type 0} (p : X → Bool) (k : ℕ) (xs : List X) → first_from p k xs ≡ None → (x : X) → In x xs → p x ≡ false
not_first {X = X} p k [] e x i = absurd i
not_first {X = X} p k (y ∷ ys) e x i = go (p y) refl e i (not_first p (k + 1) ys)
  where
    go : (b : Bool) → p y ≡ b → cond b (Some k) (first_from p (k + 1) ys) ≡ None → In x (y ∷ ys) → (first_from p (k + 1) ys ≡ None → (x : X) → In x ys → p x ≡ false) → p x ≡ false
    go true h e i ih = cc
    go false h e (inl s) ih = ap p s ∙ h
    go false h e (inr j) ih = ih e x j

no_error : (part : ℕ) (o : Option ℕ) → option_map (λ row. error.NegativeSum part row) o ≡ None → o ≡ None
no_error part None e = refl
no_error part (Some n) e = cc

neither : (a b : Option SumError) → option_or a b ≡ None → (a ≡ None) × (b ≡ None)
neither None b e = (refl, e)
neither (Some x) b e = cc

not_negative : (at part : ℕ) (parts : List (List (List Cell))) → negative_from at part parts ≡ None → (row : List Cell) → In row (flat_map (λ part. part) parts) → has_negative at row ≡ false
not_negative at part [] e row i = absurd i
not_negative at part (rows ∷ parts) e row i =
    let n = neither (part_refusal at part rows) (negative_from at (part + 1) parts) e in
    elim (In-append row rows (flat_map (λ part. part) parts) i) [
      | inl j ↦ not_first (has_negative at) 0 rows (no_error part (first (has_negative at) rows) n.0) row j
      | inr j ↦ not_negative at (part + 1) parts n.1 row j
    ]

at_least_0 : (n : ℤ) → int_lt n (pos 0) ≡ false → int_le (pos 0) n ≡ true
at_least_0 (pos n) h = le-leb 0 n (omega arith)
at_least_0 (negsuc n) h = cc

counts : (texts : List (List ℕ)) (k : Kind) (c : Cell) → IsOfKind k c → is_negative c ≡ false → int_le (pos 0) (word_of texts c) ≡ true
counts texts k (cell.Number n) h e = at_least_0 n e
counts texts k (cell.Text t) h e = le-leb 0 (rank_in texts t) (omega arith)

summed_named : (b : Bound) (value : Col) {keys : List Col} {above : ℤ} → b.shape ≡ shape.Having keys (Some value) above → In value (named b)
summed_named b value e =
    In-left value (outer_named b) (inner_cols b.shape)
    (In-right value (pred_cols (plain_of b.filter) ++ printed_cols b.printed) (shape_cols b.shape) (subst (λ s. In value (shape_cols s)) (sym e) (inl refl)))

-- ---- the whole

some_at : (ns : List ℕ) (side : ℕ) → side < length ns → slice_get ns side ≡ Some (slice_index_or ns side 0)
some_at [] side lt = absurd (omega (arith, lt))
some_at (n ∷ ns) zero lt = refl
some_at (n ∷ ns) (suc side) lt = some_at ns side (omega (arith, lt))

some_table : (tables : List TableValue) (n : ℕ) → n < length tables → slice_get tables n ≡ Some (table_at tables n)
some_table [] n lt = absurd (omega (arith, lt))
some_table (t ∷ tables) zero lt = refl
some_table (t ∷ tables) (suc n) lt = some_table tables n (omega (arith, lt))

table_in : (tables : List TableValue) (n : ℕ) → n < length tables → In (table_at tables n) tables
table_in [] n lt = absurd (omega (arith, lt))
table_in (t ∷ tables) zero lt = inl refl
table_in (t ∷ tables) (suc n) lt = inr (table_in tables n (omega (arith, lt)))

module _ (texts : List (List ℕ)) (b : Bound) (tables : List TableValue) (bound : IsBoundTo b tables) (typed : Each IsTyped tables) (ascends : Ascends texts)
    (few : length texts ≤ 2 ^ 32) (there : (text : List ℕ) → list_any (bytes_eq text) (asked_texts b tables) ≡ true → list_any (bytes_eq text) texts ≡ true) where
  number_there : (side : ℕ) → side < length b.tables → slice_index_or b.tables side 0 < length tables
  number_there side lt = Each-from_All (λ n. n < length tables) b.tables bound.there (slice_index_or b.tables side 0) (at_place b.tables side lt)

  -- the rows of a side are those of its table
  side_rows : (side : ℕ) → side < length b.tables → table_of (asked_tables b tables) side ≡ rows_of (side_table b tables side)
  side_rows side lt = get_or-map (λ n. rows_of (table_at tables n)) b.tables side 0 [] lt

  no_rows : (side : ℕ) → length b.tables ≤ side → table_of (asked_tables b tables) side ≡ []
  no_rows side le = get_or_past (asked_tables b tables) side [] (omega (arith, le, length-map b.tables (λ n. rows_of (table_at tables n))))

  text_known : (side : ℕ) → side < length b.tables → (text : List ℕ) → list_any (bytes_eq text) (texts_of (side_table b tables side)) ≡ true → list_any (bytes_eq text) texts ≡ true
  text_known side lt text h =
      there text (any_right (bytes_eq text) (filter_texts (plain_of b.filter)) (tables_texts tables b.tables)
      (any_flat (bytes_eq text) (λ n. texts_of (table_at tables n)) (slice_index_or b.tables side 0) b.tables (at_place b.tables side lt) h))

  kind_is : (side at : ℕ) → side < length b.tables → In at (carried_of b side) → kind_of b (column side at) ≡ slice_index_or (side_table b tables side).kinds at kind.Void
  kind_is side at lt i =
      ap (λ (ks : List Kind). slice_index_or ks (place_in (carried_of b side) at) kind.Void) (bound.kinds side lt)
      ∙ at_carried (λ at. slice_index_or (side_table b tables side).kinds at kind.Void) (carried_of b side) at kind.Void i

  -- a carried cell of a row
  cell_typed : (side at : ℕ) (row : List Cell) → side < length b.tables → In at (carried_of b side) → In row (rows_of (side_table b tables side))
      → (at < length (side_table b tables side).header) × IsOfKind (slice_index_or (side_table b tables side).kinds at kind.Void) (cell_in row at)
  cell_typed side at row lt i j =
      let width = Each-from_All (λ at. at < length (side_table b tables side).header) (carried_of b side) (bound.columns side lt) at i in
      (width, typed (side_table b tables side) (table_in tables (slice_index_or b.tables side 0) (number_there side lt)) row j at width)

  side_fits : (side : ℕ) → side < length b.tables → TableFits texts (λ s at. kind_of b (column s at)) b side (rows_of (side_table b tables side))
  side_fits side lt row j at i =
      let t = cell_typed side at row lt i j in
      subst (λ k. FitsKind texts k (cell_in row at)) (sym (kind_is side at lt i))
      (cell_fits texts (slice_index_or (side_table b tables side).kinds at kind.Void) (cell_in row at)
      (λ text e. any_in text texts (text_known side lt text (text_in_table (side_table b tables side) row at text j t.0 e))) t.1)

  fits : (side : ℕ) → TableFits texts (λ s at. kind_of b (column s at)) b side (table_of (asked_tables b tables) side)
  fits side = elim (cases_lt side (length b.tables)) [
    | inl lt ↦ subst (λ rows. TableFits texts (λ s at. kind_of b (column s at)) b side rows) (sym (side_rows side lt)) (side_fits side lt)
    | inr ge ↦ subst (λ rows. TableFits texts (λ s at. kind_of b (column s at)) b side rows) (sym (no_rows side (omega (arith, ge)))) (λ row i. absurd i)
  ]

  ranged : AreInRange texts b (asked_tables b tables)
  ranged side = elim (cases_lt side (length b.tables)) [
    | inl lt ↦ subst (λ (rows : List (List Cell)). Each (λ row. Each (λ at. is_cell_word (word_of texts (cell_in row at)) ≡ true) (carried_of b side)) rows) (sym (side_rows side lt))
        (λ row j at i. cell_ranged texts (slice_index_or (side_table b tables side).kinds at kind.Void) (cell_in row at) few (cell_typed side at row lt i j).1)
    | inr ge ↦ subst (λ (rows : List (List Cell)). Each (λ row. Each (λ at. is_cell_word (word_of texts (cell_in row at)) ≡ true) (carried_of b side)) rows) (sym (no_rows side (omega (arith, ge))))
        (λ row i. absurd i)
  ]

  -- the cells of a summed column
  sum_counts : (side : ℕ) (value : Col) → summed_column b.shape ≡ Some value → value.side ≡ side → side < length b.tables → In value.at (carried_of b side) → (row : List Cell)
      → In row (rows_of (side_table b tables side)) → int_le (pos 0) (word_of texts (cell_in row value.at)) ≡ true
  sum_counts side value s e lt i row j =
      let t = cell_typed side value.at row lt i j in
      let table = side_table b tables side in
      let one : column_refusal b tables value ≡ None = sym (ap (λ o. option_and_then (column_refusal b tables) o) s) ∙ bound.sums in
      let two : option_and_then (λ number. option_and_then (table_refusal value.at) (slice_get tables number)) (slice_get b.tables side) ≡ None =
      ap (λ k. option_and_then (λ number. option_and_then (table_refusal value.at) (slice_get tables number)) (slice_get b.tables k)) (sym e) ∙ one in
      let three : option_and_then (table_refusal value.at) (slice_get tables (slice_index_or b.tables side 0)) ≡ None =
      sym (ap (λ o. option_and_then (λ number. option_and_then (table_refusal value.at) (slice_get tables number)) o) (some_at b.tables side lt)) ∙ two in
      let four : table_refusal value.at table ≡ None = sym (ap (λ o. option_and_then (table_refusal value.at) o) (some_table tables (slice_index_or b.tables side 0) (number_there side lt))) ∙ three in
      let five : negative_from value.at 0 table.parts ≡ None = sym (ap (λ c. cond c (negative_from value.at 0 table.parts) None) (lt-ltb value.at (length table.header) t.0)) ∙ four in
      counts texts (slice_index_or table.kinds value.at kind.Void) (cell_in row value.at) t.1 (not_negative value.at 0 table.parts five row j)

  one_side : (value : Col) → IsCarried b value.side value.at → has_one_table b.shape ≡ true → value.side ≡ 0
  one_side value i one =
      let sides : length b.carried ≡ 1 = bound.sound.tables.1 ∙ ap (λ c. cond c 1 2) one in
      elim (cases_lt value.side 1) [
        | inl lt ↦ omega (arith, lt)
        | inr ge ↦ absurd (subst (λ (cs : List ℕ). In value.at cs) (get_or_past b.carried value.side [] (omega (arith, ge, sides))) i)
      ]

  sent_counts : (gate : Gate) (value : Col) → summed_column b.shape ≡ Some value → has_one_table b.shape ≡ true → IsCarried b value.side value.at → (row : List Cell)
      → In row (table_of (asked_tables b tables) 0) → int_le (pos 0) (at (row_seen b (sent_row texts gate b 0 row)) value) ≡ true
  unfolding row_seen
  sent_counts gate value s one i row j =
      let side = one_side value i one in
      let size : length b.tables ≡ 1 = bound.sound.tables.0 ∙ ap (λ c. cond c 1 2) one in
      let lt : 0 < length b.tables = omega (arith, size) in
      let carried : In value.at (carried_of b 0) = subst (λ k. In value.at (carried_of b k)) side i in
      let word : at (row_seen b (sent_row texts gate b 0 row)) value ≡ word_of texts (cell_in row value.at) =
      ap (λ k. words_seen b (packed texts b 0 row) k value.at) side ∙ at_carried (λ at. word_of texts (cell_in row at)) (carried_of b 0) value.at (pos 0) carried in
      ap (int_le (pos 0)) word ∙ sum_counts 0 value s side lt carried row (subst (λ (rows : List (List Cell)). In row rows) (side_rows 0 lt) j)

  countable : (gate : Gate) (s : Shape) → b.shape ≡ s → (r : Row) → In r (all_sent texts gate b (asked_tables b tables)) → is_countable b r s ≡ true
  countable gate shape.Filter e r i = refl
  countable gate shape.Distinct e r i = refl
  countable gate (shape.Top by descending limit) e r i = refl
  countable gate (shape.Group keys max value) e r i = refl
  countable gate (shape.Having keys None above) e r i = refl
  countable gate (shape.Having keys (Some value) above) e r i =
      let one : has_one_table b.shape ≡ true = ap has_one_table e in
      let size : length b.tables ≡ 1 = bound.sound.tables.0 ∙ ap (λ c. cond c 1 2) one in
      let carried : IsCarried b value.side value.at = bound.sound.columns value (summed_named b value e) in
      elim (In-append r (sent_rows texts gate b 0 (table_of (asked_tables b tables) 0)) (sent_rows texts gate b 1 (table_of (asked_tables b tables) 1)) i) [
        | inl j ↦ let m = In-map (sent_row texts gate b 0) r (table_of (asked_tables b tables) 0) j in
            subst (λ x. int_le (pos 0) (at (row_seen b x) value) ≡ true) (sym m.2) (sent_counts gate value (ap summed_column e) one carried m.0 m.1)
        | inr j ↦ absurd (subst (λ (rows : List (List Cell)). In r (sent_rows texts gate b 1 rows)) (no_rows 1 (omega (arith, size))) j)
      ]
  countable gate (shape.Join left right) e r i = refl
  countable gate (shape.Skyline dims) e r i = refl
  countable gate (shape.Semi key inner) e r i = refl

  pub are_tables : AreTables texts b tables
  are_tables = record {
    asked = record {
      sound = bound.sound;
      ascends = ascends;
      fits = record { sides = length-map b.tables (λ n. rows_of (table_at tables n)) ∙ bound.sound.tables.0; cells = fits };
      range = ranged;
      sums = λ r i. countable (asked_gate texts b) b.shape refl r i;
    };
    there = bound.there;
    columns = bound.columns;
    texts_in = λ side lt. All-from_Each (λ text. list_any (bytes_eq text) texts ≡ true) (texts_of (side_table b tables side))
        (λ text i. text_known side lt text (among_from (texts_of (side_table b tables side)) text i));
  }
