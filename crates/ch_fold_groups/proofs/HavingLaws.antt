-- What the fold of a query with sums keeps, row by row, and the answer over it.
use Rattle.std.proofs.Common.{◌≡◌, ◌≢◌, ◌≤◌, ℕ, List, [], ◌∷◌, ◌++◌, map, filter, length, refl, ap, sym, ◌∙◌, subst, arith, ℤ, pos, Option, Some, None}
use Rattle.std.specs.Prelude.{int_lt, option_map}
use Rattle.std.specs.Ordering.{int_cmp}
use Rattle.std.specs.Cmp.Lexicographic.{slice_cmp}
use Rattle.std.proofs.lemmas.List.{length-map, map-append}
use Rattle.ch_lists.specs.Members.{In, Each}
use Rattle.ch_lists.specs.Ordered.{once, ordered}
use Rattle.ch_lists.proofs.Bags.{SameBag-filter, SameBag-map}
use Rattle.ch_lists.proofs.Members.{In-filter, In-map}
use Rattle.ch_lists.proofs.Orders.{ints_exact, lists_exact}
use Rattle.ch_lists.proofs.Sorting.{ordered_same}
use Rattle.ch_cells.specs.declared.Cell.{Cell}
use Rattle.ch_cover.specs.Rows.{Row}
use Rattle.ch_pred.specs.Meaning.{amount, at_each, different_keys, in_order, key_seen, line, meaning_by, total}
use Rattle.ch_pred.specs.Sound.{IsCarried}
use Rattle.ch_pred.specs.Values.{View, words}
use Rattle.ch_pred.specs.declared.bound.Bound.{Bound}
use Rattle.ch_pred.specs.declared.bound.Printed.{Printed}
use Rattle.ch_pred.specs.declared.bound.Shape.{Shape}
use Rattle.ch_pred.specs.declared.bound.Shape.TheVariants as shape
use Rattle.ch_pred.specs.declared.pred.Col.{Col}
use Rattle.ch_words.specs.Readings.{AllPrinted, IsCol, NamesOnly, NamesShape, right_of, rows_have}
use Rattle.ch_words.specs.Rows.{answer_over, side_seen, words_seen}
use Rattle.ch_words.specs.Words.{asked_of_words, read_answer}
use Rattle.ch_word_cells.specs.Fits.{FitsWord}
use Rattle.ch_flat.specs.Flat.{Flat, pick}
use Rattle.ch_fold_laws.specs.Kept.{value_of}
use Rattle.ch_fold_lines.specs.Rows.{RowsFit, answer_read, held, reading}
use Rattle.ch_fold_lines.specs.Shown.{best_kind, printed_kinds, shown_line}
use Rattle.ch_fold_lines.proofs.WordFits.{words_fit}
use Rattle.ch_fold_lines.proofs.Held.{each_more, held_fits, held_short}
use Rattle.ch_fold_lines.proofs.Ordered.{bag_length, ordered-In}
use Rattle.ch_fold_lines.proofs.ShownLaws.{LineFits, lines_shown, printed_there}
use Rattle.ch_fold_groups.specs.Kept.{IsWord, KeepsGroups, Valued}
use Rattle.ch_fold_groups.specs.Lines.{amount_at, key_lines, keys_above, place_of}
use Rattle.ch_fold_groups.specs.Having.{StandsForHaving, summed_keys}
use Rattle.ch_fold_groups.specs.declared.having.HavingFold.{HavingFold}
use Rattle.ch_fold_groups.proofs.GroupLaws.{keys_of}
use Rattle.ch_fold_groups.proofs.KeyLines.{key_lines_are, keys_above_are, kept_length, kept_row, line_keys, pick_key}

pub having_alone : (s : Shape) (keys : List Col) (sum : Option Col) (above : ℤ) → s ≡ shape.Having keys sum above → (left right : Col) → s ≢ shape.Join left right
having_alone s keys sum above e left right f = cc

-- what a row counts for
amount_is : (b : Bound) (ws : List ℤ) (sum : Option Col) → amount_at ws (option_map (place_of b) sum) ≡ amount words sum (words_seen b ws)
amount_is b ws None = refl
amount_is b ws (Some c) = refl

none_fits : (texts : List (List ℕ)) (b : Bound) (s : Shape) (keys : List Col) (sum : Option Col) (above : ℤ) → s ≡ shape.Having keys sum above → FitsWord texts (best_kind b s) (pos 0)
none_fits texts b s keys sum above e = subst (λ (t : Shape). FitsWord texts (best_kind b t) (pos 0)) (sym e) (λ k. absurd (cc k))

-- the printed columns are the key's
named_keys : (has inner : ℕ → ℕ → Type 0) (items : List Printed) (keys : List Col) (sum : Option Col) (above : ℤ) → NamesShape has inner items (shape.Having keys sum above) → AllPrinted (IsCol keys) items
named_keys has inner items keys None above n = n.0
named_keys has inner items keys (Some c) above n = n.0

module _ (texts : List (List ℕ)) (b : Bound) (rows : List Row) (fold : HavingFold) (s : StandsForHaving texts b fold rows) where
  pub having_size : length fold.sums.keys ≡ length (once (slice_cmp int_cmp) (map (λ r. at_each r s.keys) (held texts b rows)))
  having_size = bag_length fold.sums.keys (different_keys int_cmp (summed_keys s.keys s.sum (held texts b rows))) s.sums.keys ∙ ap length (keys_of s.keys (λ r. amount words s.sum r) (held texts b rows))

  -- no more rows are summed than came
  pub having_short : length (summed_keys s.keys s.sum (held texts b rows)) ≤ length rows
  having_short = omega (arith, length-map {B = List ℤ × ℤ} (held texts b rows) (λ (r : View ℤ). (at_each r s.keys, amount words s.sum r)), held_short texts b rows)

  pub having_stays : (more : List Row) → RowsFit texts b more → held texts b more ≡ held texts b rows → StandsForHaving texts b fold more
  having_stays more fits same = record {
    keys = s.keys;
    sum = s.sum;
    above = s.above;
    shape = s.shape;
    limit = s.limit;
    key_places = s.key_places;
    value_place = s.value_place;
    printed_places = s.printed_places;
    sums = subst (λ (vs : List (View ℤ)). KeepsGroups total (summed_keys s.keys s.sum vs) fold.sums) (sym same) s.sums;
    are_words = subst (λ (vs : List (View ℤ)). Each (λ g. IsWord g.1) (summed_keys s.keys s.sum vs)) (sym same) s.are_words;
    fits = fits;
  }

  pub having_takes : (more : List Row) (ws key : List ℤ) (v : ℤ) (sums : Valued ℤ) → RowsFit texts b more → held texts b more ≡ held texts b rows ++ words_seen b ws ∷ []
      → key ≡ pick ws fold.key_places → v ≡ amount_at ws fold.value_place → IsWord v
      → KeepsGroups total (summed_keys s.keys s.sum (held texts b rows) ++ (key, v) ∷ []) sums
      → StandsForHaving texts b (record { alloc = fold.alloc; above = fold.above; key_places = fold.key_places; value_place = fold.value_place; printed_places = fold.printed_places; sums = sums }) more
  having_takes more ws key v sums fits more_in key_is v_is word kept =
      let row : (key, v) ≡ (at_each (words_seen b ws) s.keys, amount words s.sum (words_seen b ws)) =
      λ i. ((key_is ∙ (ap (pick ws) s.key_places ∙ pick_key b ws s.keys)) i, (v_is ∙ (ap (amount_at ws) s.value_place ∙ amount_is b ws s.sum)) i) in
      let all : summed_keys s.keys s.sum (held texts b rows) ++ (key, v) ∷ [] ≡ summed_keys s.keys s.sum (held texts b more) =
      ap (λ g. summed_keys s.keys s.sum (held texts b rows) ++ g ∷ []) row
      ∙ (sym (map-append (λ (r : View ℤ). (at_each r s.keys, amount words s.sum r)) (held texts b rows) (words_seen b ws ∷ [])) ∙ ap (summed_keys s.keys s.sum) (sym more_in)) in
      record {
        keys = s.keys;
        sum = s.sum;
        above = s.above;
        shape = s.shape;
        limit = s.limit;
        key_places = s.key_places;
        value_place = s.value_place;
        printed_places = s.printed_places;
        sums = subst (λ (gs : List (List ℤ × ℤ)). KeepsGroups total gs sums) all kept;
        are_words = subst (λ (gs : List (List ℤ × ℤ)). Each (λ g. IsWord g.1) gs) all (each_more (λ (g : List ℤ × ℤ). IsWord g.1) (summed_keys s.keys s.sum (held texts b rows)) (key, v) s.are_words word);
        fits = fits;
      }

  abbrev groups : List (List ℤ × ℤ)
  groups = summed_keys s.keys s.sum (held texts b rows)

  abbrev sum_at : List ℤ → ℤ
  sum_at k = value_of total groups k

  abbrev printed_line : List ℤ → List ℤ
  printed_line k = line b.printed (pos 0) (key_seen (pos 0) s.keys k)

  abbrev passing : List (List ℤ) → List (List ℤ)
  passing ks = filter (λ k. int_lt s.above (sum_at k)) ks

  above_are : keys_above fold.above fold.sums.keys fold.sums.values ≡ passing fold.sums.keys
  above_are = (λ i. keys_above (s.limit i) fold.sums.keys (s.sums.values i)) ∙ keys_above_are s.above sum_at fold.sums.keys

  lines_are : key_lines fold.printed_places (keys_above fold.above fold.sums.keys fold.sums.values) ≡ map printed_line (passing fold.sums.keys)
  lines_are = (λ i. key_lines (s.printed_places i) (above_are i))
      ∙ key_lines_are s.keys b.printed (passing fold.sums.keys)
      (λ k i. kept_length total s.keys (λ r. amount words s.sum r) (held texts b rows) fold.sums s.sums k (In-filter (λ k. int_lt s.above (sum_at k)) k fold.sums.keys i).0)

  answered : answer_over (reading texts b) b rows ≡ ordered (slice_cmp int_cmp) (map printed_line (passing fold.sums.keys))
  answered =
      ap (λ (t : Shape). in_order int_cmp t (meaning_by t (asked_of_words (reading texts b) b) (side_seen b 0 rows) (side_seen b 1 rows))) s.shape
      ∙ sym (ordered_same (slice_cmp int_cmp) (lists_exact int_cmp ints_exact) (map printed_line (passing fold.sums.keys)) (map printed_line (passing (different_keys int_cmp groups)))
      (SameBag-map printed_line (passing fold.sums.keys) (passing (different_keys int_cmp groups)) (SameBag-filter (λ k. int_lt s.above (sum_at k)) fold.sums.keys (different_keys int_cmp groups) s.sums.keys)))

  line_fits : AllPrinted (IsCol s.keys) b.printed → (l : List ℤ) → In l (map printed_line (passing fold.sums.keys)) → LineFits texts b l
  line_fits names l i =
      let k = In-map printed_line l (passing fold.sums.keys) i in
      let v = kept_row total s.keys (λ r. amount words s.sum r) (held texts b rows) fold.sums s.sums k.0 (In-filter (λ k. int_lt s.above (sum_at k)) k.0 fold.sums.keys k.1).0 in
      let h = held_fits texts b rows v.0 s.fits v.1 in
      record {
        view = words_seen b h.0;
        best = pos 0;
        fits = words_fit texts b h.0 (having_alone b.shape s.keys s.sum s.above s.shape) h.1;
        best_fits = none_fits texts b b.shape s.keys s.sum s.above s.shape;
        is = k.2 ∙ (ap (λ (q : List ℤ). line b.printed (pos 0) (key_seen (pos 0) s.keys q)) v.2 ∙ (line_keys s.keys v.0 (pos 0) b.printed names ∙ ap (line b.printed (pos 0)) h.2));
      }

  pub having_answer : NamesOnly (IsCarried b) b → (flat : Flat) (lines : List (List ℤ)) (made : List (List Cell))
      → flat ≡ record { width = length fold.printed_places; rows = key_lines fold.printed_places (keys_above fold.above fold.sums.keys fold.sums.values) }
      → made ≡ map (shown_line texts (printed_kinds b)) lines → lines ≡ ordered (slice_cmp int_cmp) flat.rows → made ≡ answer_read texts b rows
  having_answer names flat lines made f m l =
      let sorted : lines ≡ ordered (slice_cmp int_cmp) (map printed_line (passing fold.sums.keys)) = l ∙ ap (ordered (slice_cmp int_cmp)) (ap (λ (q : Flat). q.rows) f ∙ lines_are) in
      let keyed = named_keys (rows_have b.shape (IsCarried b)) (right_of (IsCarried b)) b.printed s.keys s.sum s.above
      (subst (λ (t : Shape). NamesShape (rows_have b.shape (IsCarried b)) (right_of (IsCarried b)) b.printed t) s.shape names.shape) in
      m ∙ (lines_shown texts b (printed_there b names) lines
      (λ ln i. line_fits keyed ln (ordered-In (slice_cmp int_cmp) ln (map printed_line (passing fold.sums.keys)) (subst (λ (ls : List (List ℤ)). In ln ls) sorted i)))
      ∙ ap (λ (ls : List (List ℤ)). read_answer (reading texts b) b ls) (sorted ∙ sym answered))
