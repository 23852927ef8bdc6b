-- The answer over cells is the answer over the words that stand for them, read.
use Rattle.std.proofs.Common.{◌≡◌, ℕ, suc, Bool, true, false, cond, not, ◌&&◌, ◌||◌, eqb, eqb-true, eq-eqb, List, [], ◌∷◌, map, filter, take, length, Option, Some, None, refl, sym, ◌∙◌, ap, inl, inr, arith}
use Rattle.std.specs.Prelude.{ℤ, pos, ◌⊎◌, int_lt}
use Rattle.std.specs.List.{list_any, list_all, AllZip}
use Rattle.std.specs.declared.cmp.Ordering.{Ordering}
use Rattle.std.specs.Ordering.{int_cmp, is_eq, is_lt, is_le, ordering_then}
use Rattle.std.specs.Cmp.Lexicographic.{slice_cmp}
use Rattle.std.proofs.lemmas.Bool.{and_parts}
use Rattle.ch_cells.specs.declared.Cell.{Cell}
use Rattle.ch_cells.specs.declared.Cell.TheVariants as cell
use Rattle.ch_cells.specs.Cell.{cell_cmp}
use Rattle.ch_lists.specs.Members.{In}
use Rattle.ch_lists.specs.Ordered.{placed, ordered, once, directed}
use Rattle.ch_lists.proofs.Members.{In-filter, In-filter_from, In-map, In-map_from}
use Rattle.ch_lists.proofs.Orders.{ints_exact, lists_exact, eq_itself}
use Rattle.ch_lists.proofs.Different.{once-In}
use Rattle.ch_lists.proofs.Carried.{ordered-map, once-map, take-map, map-map, map_members, filter-map, zip-filter, zip-map, zip-any, zip-made, zip-flat_map}
use Rattle.ch_pred.specs.Values.{View, cells, words, number_in}
use Rattle.ch_pred.specs.Plain.{Plain, Plains, Truth, Compare, Between, Within, Like, And, Or, Not, nil, cons, plain_of}
use Rattle.ch_pred.specs.Holds.{holds_of, all_hold, any_holds, arg_cell, passes, is_between, is_within, is_like}
use Rattle.ch_pred.specs.Names.{Names, NamesArg, AllName}
use Rattle.ch_pred.specs.Meaning.{at, at_each, line, lines, key_seen, top_cmp, first_lines, values_of, different_keys, head_or, best_of, total, amount, both, pairs, dominates, Asked, candidates, of_held, meaning_by, in_order, answer_to, asked_of_cells}
use Rattle.ch_pred.specs.declared.bound.Bound.{Bound}
use Rattle.ch_pred.specs.declared.bound.Dim.{Dim}
use Rattle.ch_pred.specs.declared.bound.Printed.{Printed}
use Rattle.ch_pred.specs.declared.bound.Printed.TheVariants as printed
use Rattle.ch_pred.specs.declared.bound.Shape.{Shape}
use Rattle.ch_pred.specs.declared.bound.Shape.TheVariants as shape
use Rattle.ch_pred.specs.declared.pred.Arg.{Arg}
use Rattle.ch_pred.specs.declared.pred.Arg.TheVariants as arg
use Rattle.ch_pred.specs.declared.pred.Col.{Col}
use Rattle.ch_words.specs.Words.{Reading, read_row, asked_of_words, reads, best_reads, printed_reads, read_line, answer_reads, read_answer}
use Rattle.ch_words.specs.Readings.{AllCols, AllDims, AllPrinted, IsCol, NamesShape, NamesOnly, left_of, right_of, rows_have, FitsShape, IsReading, StandsFor, AllStandFor}

-- a predicate looks at no cell but those of the columns that it names
module _ (has : ℕ → ℕ → Type 0) (x y : View Cell) (same : (side place : ℕ) → has side place → x side place ≡ y side place) where
  arg_same : (a : Arg) → NamesArg has a → arg_cell x a ≡ arg_cell y a
  arg_same (arg.Column c) n = same c.side c.at n
  arg_same (arg.Value v) n = refl

  mutual
    pub holds_same : (p : Plain) → Names has p → holds_of x p ≡ holds_of y p
    holds_same Truth n = refl
    holds_same (Compare c cmp other) n = λ i. passes cmp (cell_cmp ((same c.side c.at n.0) i) ((arg_same other n.1) i))
    holds_same (Between c low high) n = ap (λ z. is_between z low high) (same c.side c.at n)
    holds_same (Within c literals) n = ap (λ z. is_within z literals) (same c.side c.at n)
    holds_same (Like c prefix) n = ap (λ z. is_like z prefix) (same c.side c.at n)
    holds_same (And members) n = all_same members n
    holds_same (Or members) n = any_same members n
    holds_same (Not inner) n = ap not (holds_same inner n)

    all_same : (ps : Plains) → AllName has ps → all_hold x ps ≡ all_hold y ps
    all_same nil n = refl
    all_same (cons p ps) n = λ i. (holds_same p n.0) i && (all_same ps n.1) i

    any_same : (ps : Plains) → AllName has ps → any_holds x ps ≡ any_holds y ps
    any_same nil n = refl
    any_same (cons p ps) n = λ i. (holds_same p n.0) i || (any_same ps n.1) i

-- readings of a row's columns that each rise
abbrev AllRise : List (ℤ → Cell) → Type 0
AllRise [] = Unit {0}
AllRise (r ∷ rs) = ((x y : ℤ) → cell_cmp (r x) (r y) ≡ int_cmp x y) × AllRise rs

read_keeps : (rs : List (ℤ → Cell)) → AllRise rs → (xs ys : List ℤ) → slice_cmp cell_cmp (read_line rs xs) (read_line rs ys) ≡ slice_cmp int_cmp xs ys
read_keeps rs h [] [] = refl
read_keeps [] h [] (y ∷ ys) = refl
read_keeps (r ∷ rs) h [] (y ∷ ys) = refl
read_keeps [] h (x ∷ xs) [] = refl
read_keeps (r ∷ rs) h (x ∷ xs) [] = refl
read_keeps [] h (x ∷ xs) (y ∷ ys) = ap (ordering_then (int_cmp x y)) (read_keeps [] tt xs ys)
read_keeps (r ∷ rs) h (x ∷ xs) (y ∷ ys) = λ i. ordering_then ((h.0 x y) i) ((read_keeps rs h.1 xs ys) i)

directed_keeps : (down : Bool) (r s : ℤ → Cell) (x y : ℤ) → cell_cmp (r x) (s y) ≡ int_cmp x y → cell_cmp (s y) (r x) ≡ int_cmp y x → directed down cell_cmp (r x) (s y) ≡ directed down int_cmp x y
directed_keeps true r s x y e f = f
directed_keeps false r s x y e f = e

head-map : (r : ℤ → Cell) (c : Cell) (w : ℤ) (ws : List ℤ) → (ws ≡ [] → ⊥) → head_or c (map r ws) ≡ r (head_or w ws)
head-map r c w [] some = absurd (some refl)
head-map r c w (x ∷ ws) some = refl

placed_some : (cmp : ℤ → ℤ → Ordering) (w : ℤ) (ws : List ℤ) → placed cmp w ws ≡ [] → ⊥
placed_some cmp w [] e = absurd cc
placed_some cmp w (x ∷ ws) e = go (is_lt (cmp x w)) e
  where
    go : (b : Bool) → cond b (x ∷ placed cmp w ws) (w ∷ x ∷ ws) ≡ [] → ⊥
    go true e = absurd cc
    go false e = absurd cc

ordered_some : (cmp : ℤ → ℤ → Ordering) (ws : List ℤ) (w : ℤ) → In w ws → ordered cmp ws ≡ [] → ⊥
ordered_some cmp [] w h e = h
ordered_some cmp (x ∷ ws) w h e = placed_some cmp x (ordered cmp ws) e

module _ (b : Bound) (d : Reading) (reading : IsReading d b) where
  -- the readings of what is printed
  module _ (best : ℤ → Cell) (best_rises : (x y : ℤ) → cell_cmp (best x) (best y) ≡ int_cmp x y) where
    printed_rise : (items : List Printed) → AllRise (map (printed_reads d best) items)
    printed_rise [] = tt
    printed_rise (printed.Column c ∷ items) = (reading.rises c.side c.at, printed_rise items)
    printed_rise (printed.Best ∷ items) = (best_rises, printed_rise items)

  cols_rise : (cs : List Col) → AllRise (map (reads d) cs)
  cols_rise [] = tt
  cols_rise (c ∷ cs) = (reading.rises c.side c.at, cols_rise cs)

  -- what a row prints
  line_read : (has : ℕ → ℕ → Type 0) (x : View Cell) (y : View ℤ) → StandsFor d has x y → (best : ℤ → Cell) (c : Cell) (w : ℤ) → c ≡ best w
      → (items : List Printed) → AllPrinted has items → line items c x ≡ read_line (map (printed_reads d best) items) (line items w y)
  line_read has x y s best c w e [] n = refl
  line_read has x y s best c w e (printed.Column k ∷ items) n = λ i. (s k.side k.at n.0) i ∷ (line_read has x y s best c w e items n.1) i
  line_read has x y s best c w e (printed.Best ∷ items) n = λ i. e i ∷ (line_read has x y s best c w e items n.1) i

  key_read : (has : ℕ → ℕ → Type 0) (x : View Cell) (y : View ℤ) → StandsFor d has x y → (cs : List Col) → AllCols has cs → at_each x cs ≡ read_line (map (reads d) cs) (at_each y cs)
  key_read has x y s [] n = refl
  key_read has x y s (c ∷ cs) n = λ i. (s c.side c.at n.0) i ∷ (key_read has x y s cs n.1) i

  -- the key of a group as a row
  key_stands : (cs : List Col) (ws : List ℤ) → length ws ≡ length cs → StandsFor d (IsCol cs) (key_seen (cell.Number (pos 0)) cs (read_line (map (reads d) cs) ws)) (key_seen (pos 0) cs ws)
  key_stands [] ws e side place h = absurd h
  key_stands (c ∷ cs) [] e side place h = absurd (omega (arith, e))
  key_stands (c ∷ cs) (w ∷ ws) e side place h = go (eqb c.side side && eqb c.at place) refl h (key_stands cs ws (omega (arith, e)) side place)
    where
      go : (t : Bool) → (eqb c.side side && eqb c.at place) ≡ t → ((c.side ≡ side) × (c.at ≡ place)) ⊎ IsCol cs side place
          → (IsCol cs side place → key_seen (cell.Number (pos 0)) cs (read_line (map (reads d) cs) ws) side place ≡ d side place (key_seen (pos 0) cs ws side place))
          → cond t (reads d c w) (key_seen (cell.Number (pos 0)) cs (read_line (map (reads d) cs) ws) side place) ≡ d side place (cond t w (key_seen (pos 0) cs ws side place))
      go true t h ih = let p = and_parts (eqb c.side side) (eqb c.at place) t in λ i. d ((eqb-true c.side side p.0) i) ((eqb-true c.at place p.1) i) w
      go false t (inl s) ih = absurd (cc (t, Rattle.std.proofs.lemmas.Bool.and_from (eqb c.side side) (eqb c.at place) (eq-eqb c.side side s.0) (eq-eqb c.at place s.1)))
      go false t (inr s) ih = ih s

  module _ (has : ℕ → ℕ → Type 0) (named : Names has (plain_of b.filter)) where
    abbrev Stands : View Cell → View ℤ → Type 0
    Stands = StandsFor d has

    -- the filter is the same test
    test_same : (x : View Cell) (y : View ℤ) → Stands x y → holds_of x (plain_of b.filter) ≡ holds_of (read_row d y) (plain_of b.filter)
    test_same x y s = holds_same has x (read_row d y) s (plain_of b.filter) named

    abbrev qc : Asked Cell
    qc = asked_of_cells b

    abbrev qw : Asked ℤ
    qw = asked_of_words d b

    number_rises : (x y : ℤ) → cell_cmp (cell.Number x) (cell.Number y) ≡ int_cmp x y
    number_rises x y = refl

    -- rows that print no best value
    abbrev plainly : List (ℤ → Cell)
    plainly = map (printed_reads d (λ w. cell.Number w)) b.printed

    plain_keeps : (xs ys : List ℤ) → slice_cmp cell_cmp (read_line plainly xs) (read_line plainly ys) ≡ slice_cmp int_cmp xs ys
    plain_keeps = read_keeps plainly (printed_rise (λ w. cell.Number w) number_rises b.printed)

    lines_read : AllPrinted has b.printed → (rows : List (View Cell)) (wss : List (View ℤ)) → AllZip Stands rows wss → lines qc rows ≡ map (read_line plainly) (lines qw wss)
    lines_read n rows wss z =
        zip-map Stands (line b.printed (cell.Number (pos 0))) (λ y. read_line plainly (line b.printed (pos 0) y))
        (λ x y s. line_read has x y s (λ w. cell.Number w) (cell.Number (pos 0)) (pos 0) refl b.printed n) rows wss z
        ∙ sym (map-map (line b.printed (pos 0)) (read_line plainly) wss)

    held : (rows : List (View Cell)) (wss : List (View ℤ)) → AllZip Stands rows wss → AllZip Stands (filter qc.holds rows) (filter qw.holds wss)
    held = zip-filter Stands qc.holds qw.holds test_same

    -- what a kind takes from each row that holds, in both forms
    drawn : {P Q : Type 0} (f : View Cell → P) (g : View ℤ → Q) (r : Q → P) → ((x : View Cell) (y : View ℤ) → Stands x y → f x ≡ r (g y))
        → (rows : List (View Cell)) (wss : List (View ℤ)) → AllZip Stands rows wss → map f rows ≡ map r (map g wss)
    drawn f g r h rows wss z = zip-map Stands f (λ y. r (g y)) h rows wss z ∙ sym (map-map g r wss)

    -- Top
    module _ (by : Col) (descending : Bool) (limit : ℕ) where
      ranked : ℤ × List ℤ → Cell × List Cell
      ranked r = (reads d by r.0, read_line plainly r.1)

      ranked_keeps : (r s : ℤ × List ℤ) → top_cmp cell_cmp descending (ranked r) (ranked s) ≡ top_cmp int_cmp descending r s
      unfolding ranked
      ranked_keeps r s = λ i. ordering_then ((directed_keeps descending (reads d by) (reads d by) r.0 s.0 (reading.rises by.side by.at r.0 s.0) (reading.rises by.side by.at s.0 r.0)) i) ((plain_keeps r.1 s.1) i)

      first_read : (rs : List (ℤ × List ℤ)) → first_lines cell_cmp descending limit (map ranked rs) ≡ map (read_line plainly) (first_lines int_cmp descending limit rs)
      unfolding ranked
      first_read rs =
          let o = ordered-map (top_cmp int_cmp descending) (top_cmp cell_cmp descending) ranked ranked_keeps rs in
          ap (λ (zs : List (Cell × List Cell)). map (λ r. r.1) (take limit zs)) o
          ∙ (ap (λ (zs : List (Cell × List Cell)). map (λ r. r.1) zs) (take-map ranked limit (ordered (top_cmp int_cmp descending) rs))
          ∙ (map-map ranked (λ r. r.1) (take limit (ordered (top_cmp int_cmp descending) rs))
          ∙ sym (map-map (λ (r : ℤ × List ℤ). r.1) (read_line plainly) (take limit (ordered (top_cmp int_cmp descending) rs)))))

      top_read : AllPrinted has b.printed → has by.side by.at → (rows : List (View Cell)) (wss : List (View ℤ)) → AllZip Stands rows wss
          → first_lines cell_cmp descending limit (map (λ r. (at r by, line b.printed (cell.Number (pos 0)) r)) rows)
          ≡ map (read_line plainly) (first_lines int_cmp descending limit (map (λ r. (at r by, line b.printed (pos 0) r)) wss))
      unfolding ranked
      top_read n k rows wss z =
          ap (first_lines cell_cmp descending limit)
          (drawn (λ r. (at r by, line b.printed (cell.Number (pos 0)) r)) (λ r. (at r by, line b.printed (pos 0) r)) ranked
          (λ x y s i. ((s by.side by.at k) i, (line_read has x y s (λ w. cell.Number w) (cell.Number (pos 0)) (pos 0) refl b.printed n) i)) rows wss z)
          ∙ first_read (map (λ r. (at r by, line b.printed (pos 0) r)) wss)

    -- Group and Having: keys with values
    module _ (keys : List Col) where
      abbrev readings : List (ℤ → Cell)
      readings = map (reads d) keys

      key_keeps : (xs ys : List ℤ) → slice_cmp cell_cmp (read_line readings xs) (read_line readings ys) ≡ slice_cmp int_cmp xs ys
      key_keeps = read_keeps readings (cols_rise keys)

      module _ {W Z : Type 0} (v : Z → W) where
        grouped : List ℤ × Z → List Cell × W
        grouped r = (read_line readings r.0, v r.1)

        keys_read : (gs : List (List ℤ × Z)) → different_keys cell_cmp (map grouped gs) ≡ map (read_line readings) (different_keys int_cmp gs)
        unfolding grouped
        keys_read gs =
            ap (once (slice_cmp cell_cmp)) (map-map grouped (λ r. r.0) gs ∙ sym (map-map (λ (r : List ℤ × Z). r.0) (read_line readings) gs))
            ∙ once-map (slice_cmp int_cmp) (slice_cmp cell_cmp) (read_line readings) key_keeps (map (λ r. r.0) gs)

        values_read : (gs : List (List ℤ × Z)) (key : List ℤ) → values_of cell_cmp (map grouped gs) (read_line readings key) ≡ map v (values_of int_cmp gs key)
        unfolding grouped
        values_read gs key =
            ap (map (λ r. r.1)) (filter-map grouped (λ r. is_eq (slice_cmp cell_cmp (read_line readings key) r.0)) (λ r. is_eq (slice_cmp int_cmp key r.0)) (λ r. ap is_eq (key_keeps key r.0)) gs)
            ∙ (map-map grouped (λ r. r.1) (filter (λ r. is_eq (slice_cmp int_cmp key r.0)) gs) ∙ sym (map-map (λ (r : List ℤ × Z). r.1) v (filter (λ r. is_eq (slice_cmp int_cmp key r.0)) gs)))

      -- a key that is there is one of the rows' keys
      module _ {Z : Type 0} (f : View ℤ → Z) (rows : List (View ℤ)) where
        key_of_row : (key : List ℤ) → In key (different_keys int_cmp (map (λ r. (at_each r keys, f r)) rows)) → (r : View ℤ) × In r rows × (key ≡ at_each r keys)
        key_of_row key h =
            let q = In-map (λ (r : List ℤ × Z). r.0) key (map (λ r. (at_each r keys, f r)) rows) (once-In (slice_cmp int_cmp) (lists_exact int_cmp ints_exact) key (map (λ r. r.0) (map (λ r. (at_each r keys, f r)) rows)) h) in
            let s = In-map (λ r. (at_each r keys, f r)) q.0 rows q.1 in
            (s.0, s.1, q.2 ∙ ap (λ (r : List ℤ × Z). r.0) s.2)

      each_length : (r : View ℤ) (cs : List Col) → length (at_each r cs) ≡ length cs
      each_length r [] = refl
      each_length r (c ∷ cs) = ap suc (each_length r cs)

      -- the lines of the keys that are there
      lines_of_keys : {Z : Type 0} (f : View ℤ → Z) (best : ℤ → Cell) (c : List Cell → Cell) (w : List ℤ → ℤ) (rows : List (View ℤ)) → AllPrinted (IsCol keys) b.printed
          → (ks : List (List ℤ)) → ((key : List ℤ) → In key ks → In key (different_keys int_cmp (map (λ r. (at_each r keys, f r)) rows)))
          → ((key : List ℤ) → In key ks → c (read_line readings key) ≡ best (w key))
          → map (λ key. line b.printed (c key) (key_seen (cell.Number (pos 0)) keys key)) (map (read_line readings) ks)
          ≡ map (read_line (map (printed_reads d best) b.printed)) (map (λ key. line b.printed (w key) (key_seen (pos 0) keys key)) ks)
      lines_of_keys f best c w rows n ks within e =
          map-map (read_line readings) (λ key. line b.printed (c key) (key_seen (cell.Number (pos 0)) keys key)) ks
          ∙ (map_members (λ key. line b.printed (c (read_line readings key)) (key_seen (cell.Number (pos 0)) keys (read_line readings key)))
          (λ key. read_line (map (printed_reads d best) b.printed) (line b.printed (w key) (key_seen (pos 0) keys key))) ks
          (λ key h. let r = key_of_row f rows key (within key h) in
          line_read (IsCol keys) (key_seen (cell.Number (pos 0)) keys (read_line readings key)) (key_seen (pos 0) keys key) (key_stands keys key (ap length r.2 ∙ each_length r.0 keys)) best (c (read_line readings key)) (w key) (e key h) b.printed n)
          ∙ sym (map-map (λ key. line b.printed (w key) (key_seen (pos 0) keys key)) (read_line (map (printed_reads d best) b.printed)) ks))

      module _ (max : Bool) (value : Col) where
        best_read : (vs : List ℤ) (v : ℤ) → In v vs → best_of cells max (map (reads d value) vs) ≡ reads d value (best_of words max vs)
        best_read vs v h =
            ap (head_or (cell.Number (pos 0))) (ordered-map (directed max int_cmp) (directed max cell_cmp) (reads d value) (λ x y. directed_keeps max (reads d value) (reads d value) x y (reading.rises value.side value.at x y) (reading.rises value.side value.at y x)) vs)
            ∙ head-map (reads d value) (cell.Number (pos 0)) (pos 0) (ordered (directed max int_cmp) vs) (ordered_some (directed max int_cmp) vs v h)

        abbrev group_words : List (View ℤ) → List (List ℤ × ℤ)
        group_words rows = map (λ r. (at_each r keys, at r value)) rows

        value_there : (rows : List (View ℤ)) (key : List ℤ) → (r : View ℤ) × In r rows × (key ≡ at_each r keys) → (v : ℤ) × In v (values_of int_cmp (group_words rows) key)
        value_there rows key q = (
          at q.0 value,
          In-map_from (λ (g : List ℤ × ℤ). g.1) (at_each q.0 keys, at q.0 value) (filter (λ g. is_eq (slice_cmp int_cmp key g.0)) (group_words rows))
              (In-filter_from (λ g. is_eq (slice_cmp int_cmp key g.0)) (at_each q.0 keys, at q.0 value) (group_words rows) (In-map_from (λ r. (at_each r keys, at r value)) q.0 rows q.1)
              (ap (λ (k : List ℤ). is_eq (slice_cmp int_cmp k (at_each q.0 keys))) q.2 ∙ eq_itself (slice_cmp int_cmp) (lists_exact int_cmp ints_exact) (at_each q.0 keys))),
        )

        group_read : AllPrinted (IsCol keys) b.printed → AllCols has keys → has value.side value.at → (rows : List (View Cell)) (wss : List (View ℤ)) → AllZip Stands rows wss
            → (inner : List (View Cell)) (inner_words : List (View ℤ))
            → of_held (shape.Group keys max value) qc rows inner ≡ map (read_line (map (printed_reads d (reads d value)) b.printed)) (of_held (shape.Group keys max value) qw wss inner_words)
        unfolding grouped
        group_read n hk hv rows wss z inner inner_words =
            let f : View ℤ → ℤ = λ r. at r value in
            let gw : List (List ℤ × ℤ) = group_words wss in
            let made : map (λ r. (at_each r keys, at r value)) rows ≡ map (grouped (reads d value)) gw =
            drawn (λ r. (at_each r keys, at r value)) (λ r. (at_each r keys, at r value)) (grouped (reads d value)) (λ x y s i. ((key_read has x y s keys hk) i, (s value.side value.at hv) i)) rows wss z in
            ap (λ (gs : List (List Cell × Cell)). map (λ key. line b.printed (best_of cells max (values_of cell_cmp gs key)) (key_seen (cell.Number (pos 0)) keys key)) (different_keys cell_cmp gs)) made
            ∙ (ap (map (λ key. line b.printed (best_of cells max (values_of cell_cmp (map (grouped (reads d value)) gw) key)) (key_seen (cell.Number (pos 0)) keys key))) (keys_read (reads d value) gw)
            ∙ lines_of_keys f (reads d value) (λ key. best_of cells max (values_of cell_cmp (map (grouped (reads d value)) gw) key)) (λ key. best_of words max (values_of int_cmp gw key)) wss n
            (different_keys int_cmp gw) (λ key h. h)
            (λ key h. let v = value_there wss key (key_of_row f wss key h) in
            ap (best_of cells max) (values_read (reads d value) gw key) ∙ best_read (values_of int_cmp gw key) v.0 v.1))

      module _ (sum : Option Col) (above : ℤ) (added : (x : View Cell) (y : View ℤ) → Stands x y → amount cells sum x ≡ amount words sum y) where
        map-id : (zs : List ℤ) → map (λ z. z) zs ≡ zs
        map-id [] = refl
        map-id (z ∷ zs) = ap (λ ys. z ∷ ys) (map-id zs)

        having_read : AllPrinted (IsCol keys) b.printed → AllCols has keys → (rows : List (View Cell)) (wss : List (View ℤ)) → AllZip Stands rows wss
            → (inner : List (View Cell)) (inner_words : List (View ℤ))
            → of_held (shape.Having keys sum above) qc rows inner ≡ map (read_line plainly) (of_held (shape.Having keys sum above) qw wss inner_words)
        unfolding grouped
        having_read n hk rows wss z inner inner_words =
            let f : View ℤ → ℤ = λ r. amount words sum r in
            let gw : List (List ℤ × ℤ) = map (λ r. (at_each r keys, amount words sum r)) wss in
            let same : ℤ → ℤ = λ w. w in
            let made : map (λ r. (at_each r keys, amount cells sum r)) rows ≡ map (grouped same) gw =
            drawn (λ r. (at_each r keys, amount cells sum r)) (λ r. (at_each r keys, amount words sum r)) (grouped same) (λ x y s i. ((key_read has x y s keys hk) i, (added x y s) i)) rows wss z in
            let passing : List ℤ → Bool = λ key. int_lt above (total (values_of int_cmp gw key)) in
            let kept : filter (λ key. int_lt above (total (values_of cell_cmp (map (grouped same) gw) key))) (different_keys cell_cmp (map (grouped same) gw)) ≡ map (read_line readings) (filter passing (different_keys int_cmp gw)) =
            ap (filter (λ key. int_lt above (total (values_of cell_cmp (map (grouped same) gw) key)))) (keys_read same gw)
            ∙ filter-map (read_line readings) (λ key. int_lt above (total (values_of cell_cmp (map (grouped same) gw) key))) passing
            (λ key. ap (λ (zs : List ℤ). int_lt above (total zs)) (values_read same gw key ∙ map-id (values_of int_cmp gw key))) (different_keys int_cmp gw) in
            ap (λ (gs : List (List Cell × ℤ)). map (λ key. line b.printed (cell.Number (pos 0)) (key_seen (cell.Number (pos 0)) keys key)) (filter (λ key. int_lt above (total (values_of cell_cmp gs key))) (different_keys cell_cmp gs))) made
            ∙ (ap (map (λ key. line b.printed (cell.Number (pos 0)) (key_seen (cell.Number (pos 0)) keys key))) kept
            ∙ lines_of_keys f (λ w. cell.Number w) (λ key. cell.Number (pos 0)) (λ key. pos 0) wss n
            (filter passing (different_keys int_cmp gw)) (λ key h. (In-filter passing key (different_keys int_cmp gw) h).0) (λ key h. refl))

    -- two columns whose words stand for the same cells
    equal_read : (k l : Col) → ((w : ℤ) → reads d k w ≡ reads d l w) → (x y : ℤ) → is_eq (cell_cmp (reads d k x) (reads d l y)) ≡ is_eq (int_cmp x y)
    equal_read k l e x y = ap (λ c. is_eq (cell_cmp (reads d k x) c)) (sym (e y)) ∙ ap is_eq (reading.rises k.side k.at x y)

    -- Join, over pairs
    join_read : (left right : Col) → ((w : ℤ) → reads d left w ≡ reads d right w) → AllPrinted has b.printed → has left.side left.at → has right.side right.at
        → (ps : List (View Cell)) (qs : List (View ℤ)) → AllZip Stands ps qs
        → lines qc (filter (λ p. is_eq (cell_cmp (at p left) (at p right))) ps) ≡ map (read_line plainly) (lines qw (filter (λ p. is_eq (int_cmp (at p left) (at p right))) qs))
    join_read left right e n hl hr ps qs z =
        lines_read n (filter (λ p. is_eq (cell_cmp (at p left) (at p right))) ps) (filter (λ p. is_eq (int_cmp (at p left) (at p right))) qs)
        (zip-filter Stands (λ p. is_eq (cell_cmp (at p left) (at p right))) (λ p. is_eq (int_cmp (at p left) (at p right)))
        (λ x y s. (λ i. is_eq (cell_cmp ((s left.side left.at hl) i) ((s right.side right.at hr) i))) ∙ equal_read left right e (at y left) (at y right)) ps qs z)

    -- Skyline
    module _ (x s : View Cell) (y t : View ℤ) (xy : Stands x y) (st : Stands s t) where
      all_dims : (dims : List Dim) → AllDims has dims → list_all (λ k. is_le (directed k.max cell_cmp (at x k.col) (at s k.col))) dims ≡ list_all (λ k. is_le (directed k.max int_cmp (at y k.col) (at t k.col))) dims
      all_dims [] n = refl
      all_dims (k ∷ dims) n = λ i. is_le ((dim_read k n.0) i) && (all_dims dims n.1) i
        where
          dim_read : (k : Dim) → has k.col.side k.col.at → directed k.max cell_cmp (at x k.col) (at s k.col) ≡ directed k.max int_cmp (at y k.col) (at t k.col)
          dim_read k h = (λ i. directed k.max cell_cmp ((xy k.col.side k.col.at h) i) ((st k.col.side k.col.at h) i))
              ∙ directed_keeps k.max (reads d k.col) (reads d k.col) (at y k.col) (at t k.col) (reading.rises k.col.side k.col.at (at y k.col) (at t k.col)) (reading.rises k.col.side k.col.at (at t k.col) (at y k.col))

      any_dim : (dims : List Dim) → AllDims has dims → list_any (λ k. is_lt (directed k.max cell_cmp (at x k.col) (at s k.col))) dims ≡ list_any (λ k. is_lt (directed k.max int_cmp (at y k.col) (at t k.col))) dims
      any_dim [] n = refl
      any_dim (k ∷ dims) n = λ i. is_lt ((dim_read k n.0) i) || (any_dim dims n.1) i
        where
          dim_read : (k : Dim) → has k.col.side k.col.at → directed k.max cell_cmp (at x k.col) (at s k.col) ≡ directed k.max int_cmp (at y k.col) (at t k.col)
          dim_read k h = (λ i. directed k.max cell_cmp ((xy k.col.side k.col.at h) i) ((st k.col.side k.col.at h) i))
              ∙ directed_keeps k.max (reads d k.col) (reads d k.col) (at y k.col) (at t k.col) (reading.rises k.col.side k.col.at (at y k.col) (at t k.col)) (reading.rises k.col.side k.col.at (at t k.col) (at y k.col))

      dominates_read : (dims : List Dim) → AllDims has dims → dominates cell_cmp dims x s ≡ dominates int_cmp dims y t
      dominates_read dims n = λ i. (all_dims dims n) i && (any_dim dims n) i

    skyline_read : (dims : List Dim) → AllPrinted has b.printed → AllDims has dims → (rows : List (View Cell)) (wss : List (View ℤ)) → AllZip Stands rows wss
        → (inner : List (View Cell)) (inner_words : List (View ℤ))
        → of_held (shape.Skyline dims) qc rows inner ≡ map (read_line plainly) (of_held (shape.Skyline dims) qw wss inner_words)
    skyline_read dims n h rows wss z inner inner_words =
        lines_read n (filter (λ r. not (list_any (λ s. dominates cell_cmp dims s r) rows)) rows) (filter (λ r. not (list_any (λ s. dominates int_cmp dims s r) wss)) wss)
        (zip-filter Stands (λ r. not (list_any (λ s. dominates cell_cmp dims s r) rows)) (λ r. not (list_any (λ s. dominates int_cmp dims s r) wss))
        (λ x y xy. ap not (zip-any Stands (λ s. dominates cell_cmp dims s x) (λ s. dominates int_cmp dims s y) (λ s t st. dominates_read s x t y st xy dims h) rows wss z))
        rows wss z)

    -- Semi
    semi_read : (key within : Col) → ((w : ℤ) → reads d key w ≡ reads d within w) → AllPrinted has b.printed → has key.side key.at
        → (inner_has : ℕ → ℕ → Type 0) → inner_has within.side within.at
        → (rows : List (View Cell)) (wss : List (View ℤ)) → AllZip Stands rows wss → (inner : List (View Cell)) (inner_words : List (View ℤ)) → AllZip (StandsFor d inner_has) inner inner_words
        → of_held (shape.Semi key within) qc rows inner ≡ map (read_line plainly) (of_held (shape.Semi key within) qw wss inner_words)
    semi_read key within e n hk inner_has hi rows wss z inner inner_words zi =
        lines_read n (filter (λ r. list_any (λ s. is_eq (cell_cmp (at r key) (at s within))) inner) rows) (filter (λ r. list_any (λ s. is_eq (int_cmp (at r key) (at s within))) inner_words) wss)
        (zip-filter Stands (λ r. list_any (λ s. is_eq (cell_cmp (at r key) (at s within))) inner) (λ r. list_any (λ s. is_eq (int_cmp (at r key) (at s within))) inner_words)
        (λ x y xy. zip-any (StandsFor d inner_has) (λ s. is_eq (cell_cmp (at x key) (at s within))) (λ s. is_eq (int_cmp (at y key) (at s within)))
        (λ s t st. (λ i. is_eq (cell_cmp ((xy key.side key.at hk) i) ((st within.side within.at hi) i))) ∙ equal_read key within e (at y key) (at t within)) inner inner_words zi)
        rows wss z)

  both_stand : (has : ℕ → ℕ → Type 0) (x s : View Cell) (y t : View ℤ) → StandsFor d (left_of has) x y → StandsFor d (right_of has) s t → StandsFor d has (both x s) (both y t)
  both_stand has x s y t a c side place h = go (eqb side 0) refl
    where
      go : (e : Bool) → eqb side 0 ≡ e → cond e (x side place) (s side place) ≡ d side place (cond e (y side place) (t side place))
      go true e = a side place (h, eqb-true side 0 e)
      go false e = c side place (h, λ z. cc (e, eq-eqb side 0 z))

  pairs_stand : (has : ℕ → ℕ → Type 0) (rows inner : List (View Cell)) (wss inner_words : List (View ℤ)) → AllStandFor d (left_of has) rows wss → AllStandFor d (right_of has) inner inner_words
      → AllStandFor d has (pairs rows inner) (pairs wss inner_words)
  pairs_stand has rows inner wss inner_words z zi =
      zip-flat_map (StandsFor d (left_of has)) (StandsFor d has) (λ a. map (both a) inner) (λ a. map (both a) inner_words)
      (λ x y xy. zip-made (StandsFor d (right_of has)) (StandsFor d has) (both x) (both y) (λ s t st. both_stand has x s y t xy st) inner inner_words zi) rows wss z

  module _ (has : ℕ → ℕ → Type 0) (rows inner : List (View Cell)) (wss inner_words : List (View ℤ)) (z : AllStandFor d (left_of has) rows wss) (zi : AllStandFor d (right_of has) inner inner_words) where
    candidates_stand : (s : Shape) → AllStandFor d (rows_have s has) (candidates s rows inner) (candidates s wss inner_words)
    candidates_stand shape.Filter = z
    candidates_stand shape.Distinct = z
    candidates_stand (shape.Top by descending limit) = z
    candidates_stand (shape.Group keys max value) = z
    candidates_stand (shape.Having keys sum above) = z
    candidates_stand (shape.Join left right) = pairs_stand has rows inner wss inner_words z zi
    candidates_stand (shape.Skyline dims) = z
    candidates_stand (shape.Semi key within) = z

    module _ (held_cells : List (View Cell)) (held_words : List (View ℤ)) where
      -- what a kind makes of cells is what it makes of the words, read
      of_held_read : (s : Shape) → FitsShape d s → Names (rows_have s has) (plain_of b.filter) → NamesShape (rows_have s has) (right_of has) b.printed s → AllStandFor d (rows_have s has) held_cells held_words
          → of_held s (asked_of_cells b) held_cells inner ≡ map (read_line (map (printed_reads d (best_reads d s)) b.printed)) (of_held s (asked_of_words d b) held_words inner_words)
      of_held_read shape.Filter fits named n h = lines_read (left_of has) named n held_cells held_words h
      of_held_read shape.Distinct fits named n h =
          ap (once (slice_cmp cell_cmp)) (lines_read (left_of has) named n held_cells held_words h)
          ∙ once-map (slice_cmp int_cmp) (slice_cmp cell_cmp) (read_line (map (printed_reads d (λ w. cell.Number w)) b.printed)) (plain_keeps (left_of has) named) (lines (asked_of_words d b) held_words)
      of_held_read (shape.Top by descending limit) fits named n h = top_read (left_of has) named by descending limit n.0 n.1 held_cells held_words h
      of_held_read (shape.Group keys max value) fits named n h = group_read (left_of has) named keys max value n.0 n.1 n.2 held_cells held_words h inner inner_words
      of_held_read (shape.Having keys None above) fits named n h = having_read (left_of has) named keys None above (λ x y s. refl) n.0 n.1 held_cells held_words h inner inner_words
      of_held_read (shape.Having keys (Some value) above) fits named n h =
          having_read (left_of has) named keys (Some value) above (λ x y s. ap number_in (s value.side value.at n.2) ∙ fits (at y value)) n.0 n.1 held_cells held_words h inner inner_words
      of_held_read (shape.Join left right) fits named n h = join_read has named left right fits n.0 n.1 n.2 held_cells held_words h
      of_held_read (shape.Skyline dims) fits named n h = skyline_read (left_of has) named dims n.0 n.1 held_cells held_words h inner inner_words
      of_held_read (shape.Semi key within) fits named n h = semi_read (left_of has) named key within fits n.0 n.1 (right_of has) n.2 held_cells held_words h inner inner_words zi

    -- the meaning over the cells is the meaning over the words, read
    pub meaning_read : (s : Shape) → FitsShape d s → Names (rows_have s has) (plain_of b.filter) → NamesShape (rows_have s has) (right_of has) b.printed s
        → meaning_by s (asked_of_cells b) rows inner ≡ map (read_line (map (printed_reads d (best_reads d s)) b.printed)) (meaning_by s (asked_of_words d b) wss inner_words)
    meaning_read s fits named n =
        of_held_read (filter (λ x. holds_of x (plain_of b.filter)) (candidates s rows inner)) (filter (λ y. holds_of (read_row d y) (plain_of b.filter)) (candidates s wss inner_words)) s fits named n
        (held (rows_have s has) named (candidates s rows inner) (candidates s wss inner_words) (candidates_stand s))

    -- the reading of the best value rises too
    best_rises : (s : Shape) (x y : ℤ) → cell_cmp (best_reads d s x) (best_reads d s y) ≡ int_cmp x y
    best_rises shape.Filter x y = refl
    best_rises shape.Distinct x y = refl
    best_rises (shape.Top by descending limit) x y = refl
    best_rises (shape.Group keys max value) x y = reading.rises value.side value.at x y
    best_rises (shape.Having keys sum above) x y = refl
    best_rises (shape.Join left right) x y = refl
    best_rises (shape.Skyline dims) x y = refl
    best_rises (shape.Semi key within) x y = refl

    -- and so are the answers in their order
    order_read : (s : Shape) (r : List ℤ → List Cell) → ((xs ys : List ℤ) → slice_cmp cell_cmp (r xs) (r ys) ≡ slice_cmp int_cmp xs ys) → (ls : List (List ℤ)) → in_order cell_cmp s (map r ls) ≡ map r (in_order int_cmp s ls)
    order_read shape.Filter r k ls = ordered-map (slice_cmp int_cmp) (slice_cmp cell_cmp) r k ls
    order_read shape.Distinct r k ls = ordered-map (slice_cmp int_cmp) (slice_cmp cell_cmp) r k ls
    order_read (shape.Top by descending limit) r k ls = refl
    order_read (shape.Group keys max value) r k ls = ordered-map (slice_cmp int_cmp) (slice_cmp cell_cmp) r k ls
    order_read (shape.Having keys sum above) r k ls = ordered-map (slice_cmp int_cmp) (slice_cmp cell_cmp) r k ls
    order_read (shape.Join left right) r k ls = ordered-map (slice_cmp int_cmp) (slice_cmp cell_cmp) r k ls
    order_read (shape.Skyline dims) r k ls = ordered-map (slice_cmp int_cmp) (slice_cmp cell_cmp) r k ls
    order_read (shape.Semi key within) r k ls = ordered-map (slice_cmp int_cmp) (slice_cmp cell_cmp) r k ls

    pub answer_read : NamesOnly has b → answer_to (asked_of_cells b) rows inner ≡ read_answer d b (answer_to (asked_of_words d b) wss inner_words)
    answer_read names =
        ap (in_order cell_cmp b.shape) (meaning_read b.shape reading.fits names.filter names.shape)
        ∙ order_read b.shape (read_line (answer_reads d b)) (read_keeps (answer_reads d b) (printed_rise (best_reads d b.shape) (best_rises b.shape) b.printed)) (meaning_by b.shape (asked_of_words d b) wss inner_words)
