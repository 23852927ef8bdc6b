-- What the fold of a semi-join keeps, row by row, and the answer over it.
use Rattle.std.proofs.Common.{◌≡◌, ◌≢◌, ◌<◌, ◌≤◌, ◌+◌, ℕ, suc, true, false, cond, List, [], ◌∷◌, ◌++◌, map, filter, take, length, get_or, Bool, refl, ap, sym, ◌∙◌, subst, arith, ℤ, pos}
use Rattle.std.specs.Prelude.{slice_index_or}
use Rattle.std.specs.List.{list_any}
use Rattle.std.specs.Ordering.{int_cmp, is_eq}
use Rattle.std.specs.Cmp.Lexicographic.{slice_cmp}
use Rattle.std.proofs.lemmas.List.{length-map, map-append, take_more}
use Rattle.std.proofs.lemmas.List.Elements.{filter-append}
use Rattle.ch_lists.specs.Members.{In}
use Rattle.ch_lists.specs.Ordered.{is_among, once, ordered, SameBag}
use Rattle.ch_lists.proofs.Bags.{SameBag-filter, SameBag-map}
use Rattle.ch_lists.proofs.Carried.{filter-map, map-map, map_members}
use Rattle.ch_lists.proofs.Members.{In-filter, In-map, In-map_from}
use Rattle.ch_lists.proofs.Orders.{ints_exact, lists_exact}
use Rattle.ch_lists.proofs.Sorting.{ordered_keeps, ordered_same}
use Rattle.ch_cells.specs.declared.Cell.{Cell}
use Rattle.ch_cover.specs.Rows.{Row}
use Rattle.ch_pred.specs.Meaning.{at, in_order, line, meaning_by}
use Rattle.ch_pred.specs.Sound.{IsCarried}
use Rattle.ch_pred.specs.Values.{View}
use Rattle.ch_pred.specs.declared.bound.Bound.{Bound}
use Rattle.ch_pred.specs.declared.bound.Shape.{Shape}
use Rattle.ch_pred.specs.declared.bound.Shape.TheVariants as shape
use Rattle.ch_pred.specs.declared.pred.Col.{Col}
use Rattle.ch_words.specs.Readings.{NamesOnly}
use Rattle.ch_words.specs.Rows.{answer_over, side_seen, words_seen}
use Rattle.ch_words.specs.Words.{asked_of_words, read_answer}
use Rattle.ch_word_cells.specs.Fits.{FitsWord}
use Rattle.ch_flat.specs.Flat.{Flat, pick, with_row}
use Rattle.ch_fold_laws.specs.Kept.{with_key}
use Rattle.ch_fold_laws.proofs.Steps.{keys_step}
use Rattle.ch_fold_lines.specs.Rows.{RowFits, RowsFit, answer_read, held, held_lines, reading}
use Rattle.ch_fold_lines.specs.Shown.{best_kind, printed_kinds, shown_line}
use Rattle.ch_fold_lines.proofs.FilterLaws.{held_line_fits}
use Rattle.ch_fold_lines.proofs.Held.{filter_short, pick_line}
use Rattle.ch_fold_lines.proofs.Ordered.{bag_length, ordered-In}
use Rattle.ch_fold_lines.proofs.ShownLaws.{lines_shown, printed_there}
use Rattle.ch_fold_pairs.specs.Places.{firsts}
use Rattle.ch_fold_pairs.specs.Lines.{matched_lines}
use Rattle.ch_fold_pairs.specs.Semi.{StandsForSemi, line_with_key}
use Rattle.ch_fold_pairs.specs.declared.semi.SemiFold.{SemiFold}
use Rattle.ch_fold_pairs.proofs.Firsts.{next_word, pick_append, pick_front}
use Rattle.ch_fold_pairs.proofs.Sides.{among_different, any-map, once_short, sides_short}

pub semi_alone : (s : Shape) (key within : Col) → s ≡ shape.Semi key within → (left right : Col) → s ≢ shape.Join left right
semi_alone s key within e left right f = cc

none_fits : (texts : List (List ℕ)) (b : Bound) (s : Shape) (key within : Col) → s ≡ shape.Semi key within → FitsWord texts (best_kind b s) (pos 0)
none_fits texts b s key within e = subst (λ (t : Shape). FitsWord texts (best_kind b t) (pos 0)) (sym e) (λ k. absurd (cc k))

module _ (texts : List (List ℕ)) (b : Bound) (rows : List Row) (fold : SemiFold) (s : StandsForSemi texts b fold rows) where
  abbrev inner_words : List Row → List ℤ
  inner_words all = map (λ r. at r s.within) (side_seen b 1 all)

  outer_length : length fold.outer.rows ≡ length (held texts b rows)
  outer_length = ap (λ (f : Flat). length f.rows) s.outer ∙ length-map (held texts b rows) (line_with_key b.printed s.key)

  inner_length : length fold.inner ≡ length (once int_cmp (inner_words rows))
  inner_length = bag_length fold.inner (once int_cmp (inner_words rows)) s.inner

  pub semi_size : length fold.outer.rows + length fold.inner ≡ length (held texts b rows) + length (once int_cmp (inner_words rows))
  semi_size = omega (arith, outer_length, inner_length)

  -- no more is kept than came
  pub semi_short : length fold.outer.rows + length fold.inner ≤ length rows
  semi_short = omega (
    arith,
    outer_length,
    inner_length,
    sides_short b rows,
    filter_short (asked_of_words (reading texts b) b).holds (side_seen b 0 rows),
    once_short (inner_words rows),
    length-map (side_seen b 1 rows) (λ (r : View ℤ). at r s.within),
  )

  pub semi_stays : (more : List Row) → RowsFit texts b more → held texts b more ≡ held texts b rows → side_seen b 1 more ≡ side_seen b 1 rows → StandsForSemi texts b fold more
  semi_stays more fits same inner_same = record {
    key = s.key;
    within = s.within;
    shape = s.shape;
    places = s.places;
    inner_place = s.inner_place;
    width = s.width;
    outer = s.outer ∙ (λ i. record { width = suc (length b.printed); rows = map (line_with_key b.printed s.key) (sym same i) });
    inner = subst (λ (vs : List (View ℤ)). SameBag fold.inner (once int_cmp (map (λ r. at r s.within) vs))) (sym inner_same) s.inner;
    fits = fits;
  }

  pub outer_takes : (more : List Row) (ws : List ℤ) (new : SemiFold) → RowsFit texts b more → RowFits texts b 0 ws → held texts b more ≡ held texts b rows ++ words_seen b ws ∷ [] → side_seen b 1 more ≡ side_seen b 1 rows
      → new.places ≡ fold.places → new.inner_place ≡ fold.inner_place → new.width ≡ fold.width → new.outer ≡ with_row fold.outer (pick ws fold.places) → new.inner ≡ fold.inner → StandsForSemi texts b new more
  outer_takes more ws new fits f held_more inner_same p q w o n =
      let kept : pick ws fold.places ≡ line_with_key b.printed s.key (words_seen b ws) =
      ap (pick ws) s.places ∙ (pick_append ws _ _ ∙ ap (λ us. us ++ at (words_seen b ws) s.key ∷ []) (pick_line b ws f.width b.printed)) in
      let all : map (line_with_key b.printed s.key) (held texts b more) ≡ map (line_with_key b.printed s.key) (held texts b rows) ++ line_with_key b.printed s.key (words_seen b ws) ∷ [] =
      ap (map (line_with_key b.printed s.key)) held_more ∙ map-append (line_with_key b.printed s.key) (held texts b rows) (words_seen b ws ∷ []) in
      record {
        key = s.key;
        within = s.within;
        shape = s.shape;
        places = p ∙ s.places;
        inner_place = q ∙ s.inner_place;
        width = w ∙ s.width;
        outer = o ∙ ((λ i. with_row (s.outer i) (kept i)) ∙ (λ i. record { width = suc (length b.printed); rows = sym all i }));
        inner = subst (λ (vs : List (View ℤ)). SameBag new.inner (once int_cmp (map (λ r. at r s.within) vs))) (sym inner_same)
            (subst (λ (ks : List ℤ). SameBag ks (once int_cmp (inner_words rows))) (sym n) s.inner);
        fits = fits;
      }

  pub inner_takes : (more : List Row) (ws : List ℤ) (new : SemiFold) → RowsFit texts b more → held texts b more ≡ held texts b rows → side_seen b 1 more ≡ side_seen b 1 rows ++ words_seen b ws ∷ []
      → new.places ≡ fold.places → new.inner_place ≡ fold.inner_place → new.width ≡ fold.width → new.outer ≡ fold.outer → new.inner ≡ with_key int_cmp fold.inner (slice_index_or ws fold.inner_place (pos 0)) → StandsForSemi texts b new more
  inner_takes more ws new fits same inner_more p q w o n =
      let x = at (words_seen b ws) s.within in
      let all : inner_words more ≡ inner_words rows ++ x ∷ [] = ap (map (λ (r : View ℤ). at r s.within)) inner_more ∙ map-append (λ (r : View ℤ). at r s.within) (side_seen b 1 rows) (words_seen b ws ∷ []) in
      record {
        key = s.key;
        within = s.within;
        shape = s.shape;
        places = p ∙ s.places;
        inner_place = q ∙ s.inner_place;
        width = w ∙ s.width;
        outer = o ∙ (s.outer ∙ (λ i. record { width = suc (length b.printed); rows = map (line_with_key b.printed s.key) (sym same i) }));
        inner = subst (λ (ks : List ℤ). SameBag ks (once int_cmp (inner_words more))) (sym (n ∙ ap (λ k. with_key int_cmp fold.inner (slice_index_or ws k (pos 0))) s.inner_place))
            (subst (λ (ws : List ℤ). SameBag (with_key int_cmp fold.inner x) (once int_cmp ws)) (sym all) (keys_step int_cmp ints_exact fold.inner (inner_words rows) x s.inner));
        fits = fits;
      }

  -- the rows whose key is an inner one
  abbrev is_matched : View ℤ → Bool
  is_matched r = list_any (λ i. is_eq (int_cmp (at r s.key) (at i s.within))) (side_seen b 1 rows)

  abbrev kept_test : List ℤ → Bool
  kept_test row = is_among int_cmp (slice_index_or row fold.width (pos 0)) fold.inner

  abbrev front : List ℤ → List ℤ
  front row = pick row (firsts fold.width)

  line_width : (r : View ℤ) → length (line b.printed (pos 0) r) ≡ fold.width
  line_width r = length-map b.printed _ ∙ sym s.width

  test_is : (r : View ℤ) → kept_test (line_with_key b.printed s.key r) ≡ is_matched r
  test_is r = ap (λ w. is_among int_cmp w fold.inner) (next_word (line b.printed (pos 0) r) (at r s.key) fold.width (line_width r))
      ∙ (among_different (at r s.key) fold.inner (inner_words rows) s.inner ∙ any-map (λ y. is_eq (int_cmp (at r s.key) y)) (λ (i : View ℤ). at i s.within) (side_seen b 1 rows))

  lines_are : matched_lines fold.width fold.inner (map (line_with_key b.printed s.key) (held texts b rows)) ≡ map (line b.printed (pos 0)) (filter is_matched (held texts b rows))
  lines_are = ap (map front) (filter-map (line_with_key b.printed s.key) kept_test is_matched test_is (held texts b rows))
      ∙ (map-map (line_with_key b.printed s.key) front (filter is_matched (held texts b rows))
      ∙ map_members (λ r. front (line_with_key b.printed s.key r)) (line b.printed (pos 0)) (filter is_matched (held texts b rows)) (λ r i. pick_front (line b.printed (pos 0) r) (at r s.key ∷ []) fold.width (line_width r)))

  answered : answer_over (reading texts b) b rows ≡ ordered (slice_cmp int_cmp) (map (line b.printed (pos 0)) (filter is_matched (held texts b rows)))
  answered = ap (λ (t : Shape). in_order int_cmp t (meaning_by t (asked_of_words (reading texts b) b) (side_seen b 0 rows) (side_seen b 1 rows))) s.shape

  pub semi_answer : NamesOnly (IsCarried b) b → (outer : List (List ℤ)) (flat : Flat) (lines : List (List ℤ)) (made : List (List Cell))
      → outer ≡ ordered (slice_cmp int_cmp) fold.outer.rows → flat ≡ record { width = fold.width; rows = matched_lines fold.width fold.inner outer }
      → made ≡ map (shown_line texts (printed_kinds b)) lines → lines ≡ ordered (slice_cmp int_cmp) flat.rows → made ≡ answer_read texts b rows
  semi_answer names outer flat lines made o f m l =
      let kept = map (line_with_key b.printed s.key) (held texts b rows) in
      let outer_is : outer ≡ ordered (slice_cmp int_cmp) kept = o ∙ ap (λ (q : Flat). ordered (slice_cmp int_cmp) q.rows) s.outer in
      let bag : SameBag (matched_lines fold.width fold.inner (ordered (slice_cmp int_cmp) kept)) (matched_lines fold.width fold.inner kept) =
      SameBag-map front (filter kept_test (ordered (slice_cmp int_cmp) kept)) (filter kept_test kept) (SameBag-filter kept_test (ordered (slice_cmp int_cmp) kept) kept (ordered_keeps (slice_cmp int_cmp) kept)) in
      let printed = map (line b.printed (pos 0)) (filter is_matched (held texts b rows)) in
      let sorted : lines ≡ ordered (slice_cmp int_cmp) printed =
      l ∙ (ap (λ (q : Flat). ordered (slice_cmp int_cmp) q.rows) f ∙ (ap (λ os. ordered (slice_cmp int_cmp) (matched_lines fold.width fold.inner os)) outer_is
      ∙ (ordered_same (slice_cmp int_cmp) (lists_exact int_cmp ints_exact) (matched_lines fold.width fold.inner (ordered (slice_cmp int_cmp) kept)) (matched_lines fold.width fold.inner kept) bag ∙ ap (ordered (slice_cmp int_cmp)) lines_are))) in
      m ∙ (lines_shown texts b (printed_there b names) lines (λ ln i. held_line_fits texts b rows (semi_alone b.shape s.key s.within s.shape) (none_fits texts b b.shape s.key s.within s.shape) s.fits ln
      (let k = In-map (line b.printed (pos 0)) ln (filter is_matched (held texts b rows)) (ordered-In (slice_cmp int_cmp) ln printed (subst (λ (ls : List (List ℤ)). In ln ls) sorted i)) in
      subst (λ (z : List ℤ). In z (held_lines texts b rows)) (sym k.2) (In-map_from (line b.printed (pos 0)) k.0 (held texts b rows) (In-filter is_matched k.0 (held texts b rows) k.1).0)))
      ∙ ap (λ (ls : List (List ℤ)). read_answer (reading texts b) b ls) (sorted ∙ sym answered))

-- one outer row more is looked at
pub matched_more : (n : ℕ) (inner : List ℤ) (rows : List (List ℤ)) (at : ℕ) (row : List ℤ) → at < length rows → row ≡ get_or rows at [] → (t : Bool) → is_among int_cmp (slice_index_or row n (pos 0)) inner ≡ t
    → matched_lines n inner (take (at + 1) rows) ≡ matched_lines n inner (take at rows) ++ cond t (pick row (firsts n) ∷ []) []
matched_more n inner rows at row h is t e =
    ap (matched_lines n inner) (take_more rows at [] h ∙ ap (λ r. take at rows ++ r ∷ []) (sym is))
    ∙ (ap (map (λ (r : List ℤ). pick r (firsts n))) (filter-append (λ (r : List ℤ). is_among int_cmp (slice_index_or r n (pos 0)) inner) (take at rows) (row ∷ []) ∙ ap (λ u. filter (λ (r : List ℤ). is_among int_cmp (slice_index_or r n (pos 0)) inner) (take at rows) ++ cond u (row ∷ []) []) e)
    ∙ (map-append (λ (r : List ℤ). pick r (firsts n)) (filter (λ (r : List ℤ). is_among int_cmp (slice_index_or r n (pos 0)) inner) (take at rows)) (cond t (row ∷ []) []) ∙ ap (λ ls. matched_lines n inner (take at rows) ++ ls) (one t)))
  where
    one : (u : Bool) → map (λ (r : List ℤ). pick r (firsts n)) (cond u (row ∷ []) []) ≡ cond u (pick row (firsts n) ∷ []) []
    one true = refl
    one false = refl
