-- The workers' rows are those of the query's tables.
use Rattle.std.proofs.Common.{◌≡◌, ℕ, zero, suc, ◌+◌, ◌<◌, ◌≤◌, Bool, true, false, cond, eqb, List, [], ◌∷◌, ◌++◌, length, map, flat_map, All, IsPermutation, refl, ap, sym, ◌∙◌, arith, subst, inl, inr}
use Rattle.std.specs.Prelude.{slice_index_or, if◌then◌else◌, ◌==◌}
use Rattle.std.proofs.lemmas.Bool.{cases_Bool, cases_eq, eq-eqb, ne_eqb}
use Rattle.std.proofs.lemmas.List.{append-nil, length-map}
use Rattle.std.proofs.lemmas.List.Sorted.{IsPermutation-refl, IsPermutation-sym, IsPermutation-append, IsPermutation-append_comm, IsPermutation-trans}
use Rattle.ch_cells.specs.declared.Cell.{Cell}
use Rattle.ch_cover.specs.Rows.{Row}
use Rattle.ch_pred.specs.declared.bound.Bound.{Bound}
use Rattle.ch_pred.specs.Sound.{has_one_table}
use Rattle.ch_protocol.specs.Packets.{Part}
use Rattle.ch_protocol.specs.Sets.{numbers_from}
use Rattle.ch_protocol.specs.Machine.{Config, rows_in}
use Rattle.ch_protocol.specs.Received.{all_rows}
use Rattle.ch_protocol_laws.proofs.Names.{map-append, map-map}
use Rattle.ch_tables.specs.TableValue.{TableValue}
use Rattle.ch_words.specs.Packets.{all_sent, sent_row, sent_rows, table_of}
use Rattle.ch_stands.specs.Asked.{asked_gate, asked_rows}
use Rattle.ch_parts.specs.Scanned.{AreTables, asked_tables, part_of, parts_of, parts_of_side, parts_of_table, side_table, table_at, tuple_of}
use Rattle.ch_parts.proofs.Listing.{flat_more}
use Rattle.ch_parts.proofs.Reading.{table_is}
use Rattle.ch_parts.proofs.Spelling.{all_at}

appended : {X : Type 0} (xs ys zs : List X) → (xs ++ ys) ++ zs ≡ xs ++ (ys ++ zs)
appended [] ys zs = refl
appended (x ∷ xs) ys zs = ap (λ us. x ∷ us) (appended xs ys zs)

-- all rows of some parts
abbrev rows_all : List Part → List Row
rows_all ps = flat_map (λ rows. rows) (map rows_in ps)

rows_append : (ps qs : List Part) → rows_all (ps ++ qs) ≡ rows_all ps ++ rows_all qs
rows_append [] qs = refl
rows_append (p ∷ ps) qs = ap (λ rows. rows_in p ++ rows) (rows_append ps qs) ∙ sym (appended (rows_in p) (rows_all ps) (rows_all qs))

rows_flat : (f : ℕ → List Part) (ns : List ℕ) → rows_all (flat_map f ns) ≡ flat_map (λ n. rows_all (f n)) ns
rows_flat f [] = refl
rows_flat f (n ∷ ns) = rows_append (f n) (flat_map f ns) ∙ ap (λ rows. rows_all (f n) ++ rows) (rows_flat f ns)

module _ (texts : List (List ℕ)) (b : Bound) where
  abbrev sent_of : ℕ → List (List Cell) → List Row
  sent_of side rows = sent_rows texts (asked_gate texts b) b side rows

  rows_sent : (side : ℕ) (parts : List (List (List Cell))) → rows_all (map (part_of texts b side) parts) ≡ sent_of side (flat_map (λ part. part) parts)
  rows_sent side [] = refl
  rows_sent side (rows ∷ parts) =
      let one : rows_in (part_of texts b side rows) ≡ sent_of side rows = map-map (tuple_of texts b side) (λ t. record { side = side; bit = t.bit; words = t.words }) rows in
      ap (λ rs. rs ++ rows_all (map (part_of texts b side) parts)) one
      ∙ (ap (λ rs. sent_of side rows ++ rs) (rows_sent side parts) ∙ sym (map-append (sent_row texts (asked_gate texts b) b side) rows (flat_map (λ part. part) parts)))

  -- the rows of a table, if it is that of this side
  abbrev of_side : List TableValue → ℕ → ℕ → List Row
  of_side tables side n = if slice_index_or b.tables side 0 == n then sent_of side (flat_map (λ part. part) (table_at tables n).parts) else []

  side_rows : (tables : List TableValue) (n side : ℕ) → rows_all (parts_of_side texts b tables n side) ≡ of_side tables side n
  side_rows tables n side = go (slice_index_or b.tables side 0 == n)
    where
      go : (t : Bool) → rows_all (if t then map (part_of texts b side) (table_at tables n).parts else []) ≡ (if t then sent_of side (flat_map (λ part. part) (table_at tables n).parts) else [])
      go true = rows_sent side (table_at tables n).parts
      go false = refl

-- of lists that are empty but for one number
picked_none : {X : Type 0} (f : ℕ → List X) (t from k : ℕ) → t < from → flat_map (λ n. if t == n then f n else []) (numbers_from from k) ≡ []
picked_none f t from zero lt = refl
picked_none f t from (suc k) lt =
    let no : eqb t from ≡ false = ne_eqb t from (λ e. omega (arith, e, lt)) in
    rw no (picked_none f t (suc from) k (omega (arith, lt)))

picked : {X : Type 0} (f : ℕ → List X) (t from k : ℕ) → from ≤ t → t < from + k → flat_map (λ n. if t == n then f n else []) (numbers_from from k) ≡ f t
picked f t from zero le lt = absurd (omega (arith, le, lt))
picked f t from (suc k) le lt = elim (cases_eq t from) [
  | inl e ↦
      let yes : eqb t from ≡ true = eq-eqb t from e in
      rw yes (ap (λ rows. f from ++ rows) (picked_none f t (suc from) k (omega (arith, e))) ∙ (append-nil (f from) ∙ ap f (sym e)))
  | inr ne ↦
      let no : eqb t from ≡ false = ne_eqb t from ne in
      rw no (picked f t (suc from) k (omega (arith, le, ne)) (omega (arith, lt)))
]

-- two lists for each number, and first all of the first and then all of the second
both_apart : {X : Type 0} (f g : ℕ → List X) (ns : List ℕ) → IsPermutation (flat_map (λ n. f n ++ g n) ns) (flat_map f ns ++ flat_map g ns)
both_apart f g [] = IsPermutation-refl []
both_apart {X} f g (n ∷ ns) =
    let fs = flat_map f ns in
    let gs = flat_map g ns in
    let ih = both_apart f g ns in
    let a : IsPermutation ((f n ++ g n) ++ flat_map (λ k. f k ++ g k) ns) ((f n ++ g n) ++ (fs ++ gs)) = IsPermutation-append (f n ++ g n) (f n ++ g n) (flat_map (λ k. f k ++ g k) ns) (fs ++ gs) (IsPermutation-refl (f n ++ g n)) ih in
    let mid : IsPermutation (g n ++ (fs ++ gs)) (fs ++ (g n ++ gs)) =
    subst (λ (xs : List X). IsPermutation xs (fs ++ (g n ++ gs))) (appended (g n) fs gs)
    (subst (λ (xs : List X). IsPermutation ((g n ++ fs) ++ gs) xs) (appended fs (g n) gs) (IsPermutation-append (g n ++ fs) (fs ++ g n) gs gs (IsPermutation-append_comm (g n) fs) (IsPermutation-refl gs))) in
    let b : IsPermutation (f n ++ (g n ++ (fs ++ gs))) (f n ++ (fs ++ (g n ++ gs))) = IsPermutation-append (f n) (f n) (g n ++ (fs ++ gs)) (fs ++ (g n ++ gs)) (IsPermutation-refl (f n)) mid in
    IsPermutation-trans ((f n ++ g n) ++ flat_map (λ k. f k ++ g k) ns) ((f n ++ g n) ++ (fs ++ gs)) ((f n ++ fs) ++ (g n ++ gs)) a
    (subst (λ (xs : List X). IsPermutation xs ((f n ++ fs) ++ (g n ++ gs))) (sym (appended (f n) (g n) (fs ++ gs)))
    (subst (λ (xs : List X). IsPermutation (f n ++ (g n ++ (fs ++ gs))) xs) (sym (appended (f n) fs (g n ++ gs))) b))

flat_same : {X : Type 0} (f g : ℕ → List X) (ns : List ℕ) → ((n : ℕ) → f n ≡ g n) → flat_map f ns ≡ flat_map g ns
flat_same f g [] e = refl
flat_same f g (n ∷ ns) e = ap (λ xs. xs ++ flat_map f ns) (e n) ∙ ap (λ xs. g n ++ xs) (flat_same f g ns e)

past : (xs : List (List (List Cell))) (i : ℕ) → length xs ≤ i → slice_index_or xs i [] ≡ []
past [] i le = refl
past (x ∷ xs) zero le = absurd (omega (arith, le))
past (x ∷ xs) (suc i) le = past xs i (omega (arith, le))

number_there : (b : Bound) (tables : List TableValue) (side : ℕ) → All (λ n. n < length tables) b.tables → side < length b.tables → slice_index_or b.tables side 0 < length tables
number_there b tables side h lt = all_at (λ n. n < length tables) b.tables side (slice_index_or b.tables side 0) h lt (same b.tables side lt)
  where
    same : (ns : List ℕ) (i : ℕ) → i < length ns → slice_index_or ns i 0 ≡ slice_index_or ns i (slice_index_or ns i 0)
    same [] i lt = absurd (omega (arith, lt))
    same (n ∷ ns) zero lt = refl
    same (n ∷ ns) (suc i) lt = go ns i (omega (arith, lt))
      where
        go : (ns : List ℕ) (i : ℕ) → i < length ns → slice_index_or ns i 0 ≡ slice_index_or ns i (slice_index_or ns i 0)
        go [] i lt = absurd (omega (arith, lt))
        go (n ∷ ns) zero lt = refl
        go (n ∷ ns) (suc i) lt = go ns i (omega (arith, lt))

-- the rows of one side
one_side : (texts : List (List ℕ)) (b : Bound) (tables : List TableValue) (side : ℕ) → AreTables texts b tables → side < length b.tables
    → flat_map (of_side texts b tables side) (numbers_from 0 (length tables)) ≡ sent_of texts b side (table_of (asked_tables b tables) side)
one_side texts b tables side t lt =
    let k = number_there b tables side t.there lt in
    picked (λ n. sent_of texts b side (flat_map (λ part. part) (table_at tables n).parts)) (slice_index_or b.tables side 0) 0 (length tables) (omega arith) (omega (arith, k))
    ∙ ap (sent_of texts b side) (sym (table_is b tables side lt))

pub permuted : (texts : List (List ℕ)) (b : Bound) (tables : List TableValue) → AreTables texts b tables → (c : Config) → c.parts ≡ parts_of texts b tables → IsPermutation (asked_rows texts b (asked_tables b tables)) (all_rows c)
permuted texts b tables t c e =
    subst (λ (ps : List Part). IsPermutation (asked_rows texts b (asked_tables b tables)) (rows_all ps)) (sym e)
    (IsPermutation-sym (rows_all (parts_of texts b tables)) (asked_rows texts b (asked_tables b tables)) (elim (cases_Bool (has_one_table b.shape)) [ inl one ↦ alone (t.asked.sound.tables.0 ∙ ap (λ (o : Bool). cond o 1 2) one) | inr two ↦ paired (t.asked.sound.tables.0 ∙ ap (λ (o : Bool). cond o 1 2) two) ]))
  where
    ns : List ℕ
    ns = numbers_from 0 (length tables)

    each : (n : ℕ) → rows_all (parts_of_table texts b tables n) ≡ flat_map (λ side. of_side texts b tables side n) (numbers_from 0 (length b.tables))
    each n = rows_flat (parts_of_side texts b tables n) (numbers_from 0 (length b.tables)) ∙ flat_same (λ side. rows_all (parts_of_side texts b tables n side)) (λ side. of_side texts b tables side n) (numbers_from 0 (length b.tables)) (λ side. side_rows texts b tables n side)

    whole : rows_all (parts_of texts b tables) ≡ flat_map (λ n. flat_map (λ side. of_side texts b tables side n) (numbers_from 0 (length b.tables))) ns
    whole = rows_flat (parts_of_table texts b tables) ns ∙ flat_same (λ n. rows_all (parts_of_table texts b tables n)) (λ n. flat_map (λ side. of_side texts b tables side n) (numbers_from 0 (length b.tables))) ns each

    alone : length b.tables ≡ 1 → IsPermutation (rows_all (parts_of texts b tables)) (asked_rows texts b (asked_tables b tables))
    alone one =
        let sides : (n : ℕ) → flat_map (λ side. of_side texts b tables side n) (numbers_from 0 (length b.tables)) ≡ of_side texts b tables 0 n =
        λ n. ap (λ k. flat_map (λ side. of_side texts b tables side n) (numbers_from 0 k)) one ∙ append-nil (of_side texts b tables 0 n) in
        let none : table_of (asked_tables b tables) 1 ≡ [] = past (asked_tables b tables) 1 (let m = length-map b.tables (λ number. flat_map (λ part. part) (table_at tables number).parts) in omega (arith, m, one)) in
        let all : rows_all (parts_of texts b tables) ≡ asked_rows texts b (asked_tables b tables) =
        whole
        ∙ (flat_same (λ n. flat_map (λ side. of_side texts b tables side n) (numbers_from 0 (length b.tables))) (of_side texts b tables 0) ns sides
        ∙ (one_side texts b tables 0 t (omega (arith, one))
        ∙ (sym (append-nil (sent_of texts b 0 (table_of (asked_tables b tables) 0))) ∙ ap (λ rows. sent_of texts b 0 (table_of (asked_tables b tables) 0) ++ sent_of texts b 1 rows) (sym none)))) in
        subst (λ (rows : List Row). IsPermutation (rows_all (parts_of texts b tables)) rows) all (IsPermutation-refl (rows_all (parts_of texts b tables)))

    paired : length b.tables ≡ 2 → IsPermutation (rows_all (parts_of texts b tables)) (asked_rows texts b (asked_tables b tables))
    paired two =
        let sides : (n : ℕ) → flat_map (λ side. of_side texts b tables side n) (numbers_from 0 (length b.tables)) ≡ of_side texts b tables 0 n ++ of_side texts b tables 1 n =
        λ n. ap (λ k. flat_map (λ side. of_side texts b tables side n) (numbers_from 0 k)) two ∙ ap (λ rows. of_side texts b tables 0 n ++ rows) (append-nil (of_side texts b tables 1 n)) in
        let all = whole ∙ flat_same (λ n. flat_map (λ side. of_side texts b tables side n) (numbers_from 0 (length b.tables))) (λ n. of_side texts b tables 0 n ++ of_side texts b tables 1 n) ns sides in
        subst (λ (rows : List Row). IsPermutation rows (asked_rows texts b (asked_tables b tables))) (sym all)
        (subst (λ (rows : List Row). IsPermutation (flat_map (λ n. of_side texts b tables 0 n ++ of_side texts b tables 1 n) ns) (rows ++ sent_of texts b 1 (table_of (asked_tables b tables) 1))) (one_side texts b tables 0 t (omega (arith, two)))
        (subst (λ (rows : List Row). IsPermutation (flat_map (λ n. of_side texts b tables 0 n ++ of_side texts b tables 1 n) ns) (flat_map (of_side texts b tables 0) ns ++ rows)) (one_side texts b tables 1 t (omega (arith, two)))
        (both_apart (of_side texts b tables 0) (of_side texts b tables 1) ns)))
