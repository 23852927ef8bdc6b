-- Rows that are named, as cells and as words.
use Rattle.std.proofs.Common.{◌≡◌, ◌∙◌, ap, sym, refl, subst, ℕ, zero, suc, ◌+◌, ◌<◌, ◌≤◌, ◌==◌, Bool, true, false, cond, eqb, eqb-true, eq-eqb, List, [], ◌∷◌, ◌++◌, filter, flat_map, length, map, inl, inr, arith}
use Rattle.std.specs.Prelude.{slice_index_or}
use Rattle.std.proofs.lemmas.Bool.{cases_lt}
use Rattle.std.proofs.lemmas.List.{append-nil, get_or_past, length-map, map-append}
use Rattle.std.proofs.lemmas.List.Elements.{filter-append}
use Rattle.ch_cells.specs.declared.Cell.{Cell}
use Rattle.ch_cover.specs.Rows.{Row}
use Rattle.ch_lists.specs.Members.{Each, In}
use Rattle.ch_lists.proofs.Members.{In-append, In-filter, In-left, In-map, In-right}
use Rattle.ch_parts.proofs.Reading.{table_is}
use Rattle.ch_parts.specs.Scanned.{AreTables, asked_tables, part_of, parts_by_side, parts_by_table, parts_of, table_at, tuple_of}
use Rattle.ch_pred.specs.Meaning.{answer, answer_to}
use Rattle.ch_pred.specs.Sound.{kind_of}
use Rattle.ch_pred.specs.declared.bound.Bound.{Bound}
use Rattle.ch_protocol.proofs.Lists.{In-numbers}
use Rattle.ch_protocol.specs.Machine.{no_row, rows_in}
use Rattle.ch_protocol.specs.Packets.{Name, Part}
use Rattle.ch_protocol.specs.Sets.{numbers_from}
use Rattle.ch_survival.specs.Asked.{answer_arrived, asked_gate, asked_reading}
use Rattle.ch_tables.specs.TableValue.{TableValue}
use Rattle.ch_words.proofs.Packets.{tables_read}
use Rattle.ch_words.proofs.SoundQueries.{sound_tables}
use Rattle.ch_words.specs.Packets.{TableFits, TablesFit, all_sent, column, kinds_read, sent_row, sent_rows, table_of}
use Rattle.ch_words.specs.Rows.{answer_over, row_seen, side_seen}
use Rattle.ch_words.specs.Words.{asked_of_words, read_answer}
use Rattle.cheetah_audit_laws.specs.Listed.{IsThere, Scan, no_scan, row_named, rows_named, scan_named, scan_of, scans, scans_of_side, scans_of_table}

-- ---- lists

flat_each : {A B C : Type 0} (f : A → List B) (g : A → List C) (h : B → C) → ((a : A) → g a ≡ map h (f a)) → (xs : List A) → flat_map g xs ≡ map h (flat_map f xs)
flat_each f g h same [] = refl
flat_each f g h same (x ∷ xs) = (λ i. same x i ++ flat_each f g h same xs i) ∙ sym (map-append h (f x) (flat_map f xs))

In-flat : {A B : Type 0} (f : A → List B) (y : B) (xs : List A) → In y (flat_map f xs) → (x : A) × In x xs × In y (f x)
In-flat f y [] i = absurd i
In-flat f y (x ∷ xs) i = elim (In-append y (f x) (flat_map f xs) i) [
  | inl here ↦ (x, inl refl, here)
  | inr more ↦ let m = In-flat f y xs more in (m.0, inr m.1, m.2)
]

In-joined : {A : Type 0} (x : A) (xs : List A) (all : List (List A)) → In x xs → In xs all → In x (flat_map (λ ys. ys) all)
In-joined x xs [] i j = absurd j
In-joined x xs (ys ∷ all) i (inl e) = In-left x ys (flat_map (λ zs. zs) all) (subst (In x) e i)
In-joined x xs (ys ∷ all) i (inr j) = In-right x ys (flat_map (λ zs. zs) all) (In-joined x xs all i j)

In-at : {A : Type 0} (xs : List A) (k : ℕ) (d : A) → k < length xs → In (slice_index_or xs k d) xs
In-at [] k d lt = absurd (omega (arith, lt))
In-at (x ∷ xs) zero d lt = inl refl
In-at (x ∷ xs) (suc k) d lt = inr (In-at xs k d (omega (arith, lt)))

-- ---- the parts of the workers, as cells and as words

module _ (texts : List (List ℕ)) (b : Bound) where
  abbrev pub part_from : Scan → Part
  part_from s = part_of texts b s.side s.rows

  module _ (tables : List TableValue) where
    side_from : (number side : ℕ) → parts_by_side (tuple_of texts b) b.tables tables number side ≡ map part_from (scans_of_side b.tables tables number side)
    side_from number side = by (slice_index_or b.tables side 0 == number)
      where
        all : (parts : List (List (List Cell))) → map (part_of texts b side) parts ≡ map part_from (map (scan_of side) parts)
        all [] = refl
        all (p ∷ ps) = ap (λ qs. part_of texts b side p ∷ qs) (all ps)

        by : (t : Bool) → cond t (map (part_of texts b side) (table_at tables number).parts) [] ≡ map part_from (cond t (map (scan_of side) (table_at tables number).parts) [])
        by true = all (table_at tables number).parts
        by false = refl

    table_from : (number : ℕ) → parts_by_table (tuple_of texts b) b.tables tables number ≡ map part_from (scans_of_table b.tables tables number)
    table_from number = flat_each (scans_of_side b.tables tables number) (parts_by_side (tuple_of texts b) b.tables tables number) part_from (side_from number) (numbers_from 0 (length b.tables))

    pub parts_from : parts_of texts b tables ≡ map part_from (scans b.tables tables)
    parts_from = flat_each (scans_of_table b.tables tables) (parts_by_table (tuple_of texts b) b.tables tables) part_from table_from (numbers_from 0 (length tables))

  -- a row of a worker is that of its cells

  abbrev sent : ℕ → List Cell → Row
  sent = sent_row texts (asked_gate texts b) b

  abbrev rows_from : List Scan → ℕ → List Row
  rows_from all worker = slice_index_or (map rows_in (map part_from all)) worker []

  pub size_from : (all : List Scan) (worker : ℕ) → length (rows_from all worker) ≡ length (slice_index_or all worker no_scan).rows
  size_from [] worker = refl
  size_from (s ∷ all) zero = length-map (map (tuple_of texts b s.side) s.rows) _ ∙ length-map s.rows (tuple_of texts b s.side)
  size_from (s ∷ all) (suc worker) = size_from all worker

  pub row_from : (all : List Scan) (worker number : ℕ) → number < length (slice_index_or all worker no_scan).rows
      → slice_index_or (rows_from all worker) number no_row ≡ sent (slice_index_or all worker no_scan).side (slice_index_or (slice_index_or all worker no_scan).rows number [])
  row_from [] worker number lt = absurd (omega (arith, lt))
  row_from (s ∷ all) zero number lt = one s.rows number lt
    where
      one : (rows : List (List Cell)) (k : ℕ) → k < length rows → slice_index_or (rows_in (part_of texts b s.side rows)) k no_row ≡ sent s.side (slice_index_or rows k [])
      one [] k lt = absurd (omega (arith, lt))
      one (row ∷ rows) zero lt = refl
      one (row ∷ rows) (suc k) lt = one rows k (omega (arith, lt))
  row_from (s ∷ all) (suc worker) number lt = row_from all worker number lt

  -- ---- rows of a side

  sides_kept : (side : ℕ) (rows : List (List Cell)) → filter (λ r. r.side == side) (sent_rows texts (asked_gate texts b) b side rows) ≡ sent_rows texts (asked_gate texts b) b side rows
  sides_kept side [] = refl
  sides_kept side (row ∷ rows) =
      ap (λ t. cond t (sent side row ∷ filter (λ r. r.side == side) (map (sent side) rows)) (filter (λ r. r.side == side) (map (sent side) rows))) (eq-eqb side side refl)
      ∙ ap (λ rs. sent side row ∷ rs) (sides_kept side rows)

  sides_left : (side other : ℕ) → eqb side other ≡ false → (rows : List (List Cell)) → filter (λ r. r.side == other) (sent_rows texts (asked_gate texts b) b side rows) ≡ []
  sides_left side other ne [] = refl
  sides_left side other ne (row ∷ rows) =
      ap (λ t. cond t (sent side row ∷ filter (λ r. r.side == other) (map (sent side) rows)) (filter (λ r. r.side == other) (map (sent side) rows))) ne ∙ sides_left side other ne rows

  -- the rows of a side among those that are named
  named_side : (all : List Scan) (side : ℕ) (row : Name → Row) (names : List Name) → Each (λ x. row x ≡ sent (scan_named all x).side (row_named all x)) names
      → filter (λ r. r.side == side) (map row names) ≡ sent_rows texts (asked_gate texts b) b side (rows_named all names side)
  named_side all side row [] is = refl
  named_side all side row (x ∷ names) is =
      ap (λ r. cond (r.side == side) (r ∷ filter (λ r. r.side == side) (map row names)) (filter (λ r. r.side == side) (map row names))) (is x (inl refl))
      ∙ by ((scan_named all x).side == side) refl (named_side all side row names (λ y i. is y (inr i)))
    where
      by : (t : Bool) → ((scan_named all x).side == side) ≡ t → filter (λ r. r.side == side) (map row names) ≡ sent_rows texts (asked_gate texts b) b side (rows_named all names side)
          → cond t (sent (scan_named all x).side (row_named all x) ∷ filter (λ r. r.side == side) (map row names)) (filter (λ r. r.side == side) (map row names))
          ≡ sent_rows texts (asked_gate texts b) b side (map (row_named all) (cond t (x ∷ filter (λ y. (scan_named all y).side == side) names) (filter (λ y. (scan_named all y).side == side) names)))
      by true e more = λ i. sent (eqb-true (scan_named all x).side side e i) (row_named all x) ∷ more i
      by false e more = more

-- ---- which rows there are

-- a part that is scanned is one of its side's table
scan_in : (asked : List ℕ) (tables : List TableValue) (s : Scan) → In s (scans asked tables) → (s.side < length asked) × In s.rows (table_at tables (slice_index_or asked s.side 0)).parts
scan_in asked tables s i =
    let t = In-flat (scans_of_table asked tables) s (numbers_from 0 (length tables)) i in
    let u = In-flat (scans_of_side asked tables t.0) s (numbers_from 0 (length asked)) t.2 in
    by t.0 u.0 (In-numbers u.0 0 (length asked) u.1).1 (slice_index_or asked u.0 0 == t.0) refl u.2
  where
    by : (number side : ℕ) → side < 0 + length asked → (same : Bool) → (slice_index_or asked side 0 == number) ≡ same → In s (cond same (map (scan_of side) (table_at tables number).parts) [])
        → (s.side < length asked) × In s.rows (table_at tables (slice_index_or asked s.side 0)).parts
    by number side lt false e i = absurd i
    by number side lt true e i =
        let m = In-map (scan_of side) s (table_at tables number).parts i in
        let side_is : s.side ≡ side = ap (λ (x : Scan). x.side) m.2 in
        let rows_are : s.rows ≡ m.0 = ap (λ (x : Scan). x.rows) m.2 in
        let number_is : number ≡ slice_index_or asked s.side 0 = sym (eqb-true (slice_index_or asked side 0) number e) ∙ ap (λ k. slice_index_or asked k 0) (sym side_is) in (
          omega (arith, lt, side_is),
          subst (λ rows. In rows (table_at tables (slice_index_or asked s.side 0)).parts) (sym rows_are) (subst (λ n. In m.0 (table_at tables n).parts) number_is m.1),
        )

-- a name of a row names a part
part_there : (all : List Scan) (x : Name) → IsThere all x → In (scan_named all x) all
part_there all x there = elim (cases_lt x.worker (length all)) [
  | inl lt ↦ In-at all x.worker no_scan lt
  | inr past ↦ let none : length (scan_named all x).rows ≡ 0 = ap (λ (s : Scan). length s.rows) (get_or_past all x.worker no_scan (omega (arith, past))) in absurd (omega (arith, none, there))
]

-- the row of a number of a list of rows
at_number : {A : Type 0} (f : ℕ → List A) (first count k : ℕ) → k < count → slice_index_or (map f (numbers_from first count)) k [] ≡ f (first + k)
at_number f first zero k lt = absurd (omega (arith, lt))
at_number f first (suc count) zero lt = ap f (omega arith)
at_number f first (suc count) (suc k) lt = at_number f (suc first) count k (omega (arith, lt)) ∙ ap f (omega arith)

count_numbers : {A : Type 0} (f : ℕ → List A) (first count : ℕ) → length (map f (numbers_from first count)) ≡ count
count_numbers f first zero = refl
count_numbers f first (suc count) = ap suc (count_numbers f (suc first) count)

module _ (texts : List (List ℕ)) (b : Bound) (tables : List TableValue) (t : AreTables texts b tables) (names : List Name) (there : Each (IsThere (scans b.tables tables)) names) where
  abbrev all : List Scan
  all = scans b.tables tables

  -- the named rows, side by side
  abbrev named : List (List (List Cell))
  named = map (rows_named all names) (numbers_from 0 (length b.tables))

  abbrev Fits : ℕ → List (List Cell) → Type 0
  Fits side = TableFits texts (λ s at. kind_of b (column s at)) b side

  -- a named row of a side is one of the side's table
  named_in : (side : ℕ) (row : List Cell) → In row (rows_named all names side) → In row (table_of (asked_tables b tables) side)
  named_in side row i =
      let m = In-map (row_named all) row (filter (λ x. (scan_named all x).side == side) names) i in
      let f = In-filter (λ x. (scan_named all x).side == side) m.0 names m.1 in
      let side_is : (scan_named all m.0).side ≡ side = eqb-true (scan_named all m.0).side side f.1 in
      let is = there m.0 f.0 in
      let s = scan_in b.tables tables (scan_named all m.0) (part_there all m.0 is) in
      let here = In-joined (row_named all m.0) (scan_named all m.0).rows (table_at tables (slice_index_or b.tables (scan_named all m.0).side 0)).parts (In-at (scan_named all m.0).rows m.0.number [] is) s.1 in
      subst (λ r. In r (table_of (asked_tables b tables) side)) (sym m.2)
      (subst (λ k. In (row_named all m.0) (table_of (asked_tables b tables) k)) side_is
      (subst (In (row_named all m.0)) (sym (table_is b tables (scan_named all m.0).side s.0)) here))

  -- there is none of a further side
  none_past : (side : ℕ) → length b.tables ≤ side → (xs : List Name) → Each (IsThere all) xs → filter (λ x. (scan_named all x).side == side) xs ≡ []
  none_past side le [] each = refl
  none_past side le (x ∷ xs) each =
      let s = scan_in b.tables tables (scan_named all x) (part_there all x (each x (inl refl))) in
      by ((scan_named all x).side == side) refl s.0 (none_past side le xs (λ y i. each y (inr i)))
    where
      by : (t : Bool) → ((scan_named all x).side == side) ≡ t → (scan_named all x).side < length b.tables → filter (λ y. (scan_named all y).side == side) xs ≡ []
          → cond t (x ∷ filter (λ y. (scan_named all y).side == side) xs) (filter (λ y. (scan_named all y).side == side) xs) ≡ []
      by true e lt none = let same = eqb-true (scan_named all x).side side e in absurd (omega (arith, same, lt, le))
      by false e lt none = none

  -- the rows of a side, by the list of all sides
  at_side : (side : ℕ) → table_of named side ≡ rows_named all names side
  at_side side = elim (cases_lt side (length b.tables)) [
    | inl lt ↦ at_number (rows_named all names) 0 (length b.tables) side lt ∙ ap (rows_named all names) (omega arith)
    | inr past ↦ get_or_past named side [] (let count = count_numbers (rows_named all names) 0 (length b.tables) in omega (arith, count, past))
        ∙ ap (map (row_named all)) (sym (none_past side (omega (arith, past)) names there))
  ]

  named_fit : TablesFit texts b named
  named_fit = record {
    sides = count_numbers (rows_named all names) 0 (length b.tables) ∙ (sym (length-map b.tables _) ∙ t.asked.fits.sides);
    cells = λ side. subst (Fits side) (sym (at_side side)) (λ row i. t.asked.fits.cells side row (named_in side row i));
  }

  module _ (row : Name → Row) (is : Each (λ x. row x ≡ sent_row texts (asked_gate texts b) b (scan_named all x).side (row_named all x)) names) where
    abbrev of_side : ℕ → List Row
    of_side side = sent_rows texts (asked_gate texts b) b side (table_of named side)

    arrived : (side : ℕ) → filter (λ r. r.side == side) (map row names) ≡ of_side side
    arrived side = named_side texts b all side row names is ∙ ap (sent_rows texts (asked_gate texts b) b side) (sym (at_side side))

    first : filter (λ r. r.side == 0) (all_sent texts (asked_gate texts b) b named) ≡ of_side 0
    first = filter-append (λ r. r.side == 0) (of_side 0) (of_side 1)
        ∙ ((λ i. sides_kept texts b 0 (table_of named 0) i ++ sides_left texts b 1 0 refl (table_of named 1) i) ∙ append-nil (of_side 0))

    second : filter (λ r. r.side == 1) (all_sent texts (asked_gate texts b) b named) ≡ of_side 1
    second = filter-append (λ r. r.side == 1) (of_side 0) (of_side 1)
        ∙ (λ i. sides_left texts b 0 1 refl (table_of named 0) i ++ sides_kept texts b 1 (table_of named 1) i)

    same_answer : answer_over (asked_reading texts b) b (all_sent texts (asked_gate texts b) b named) ≡ answer_over (asked_reading texts b) b (map row names)
    same_answer =
        let one : side_seen b 0 (all_sent texts (asked_gate texts b) b named) ≡ side_seen b 0 (map row names) = ap (map (row_seen b)) (first ∙ sym (arrived 0)) in
        let two : side_seen b 1 (all_sent texts (asked_gate texts b) b named) ≡ side_seen b 1 (map row names) = ap (map (row_seen b)) (second ∙ sym (arrived 1)) in
        λ i. answer_to (asked_of_words (asked_reading texts b) b) (one i) (two i)

    -- the query means over the named rows' cells what it means over their words
    pub answer_is : answer b named ≡ answer_arrived texts b (map row names)
    answer_is =
        tables_read texts (kinds_read b b.shape) b named (asked_gate texts b) (sound_tables texts b named t.asked.sound t.asked.ascends named_fit)
        ∙ ap (read_answer (asked_reading texts b) b) same_answer
