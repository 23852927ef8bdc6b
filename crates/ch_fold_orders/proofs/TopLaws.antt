-- What the fold of a TOP keeps, row by row, and the answer over it.
use Rattle.std.proofs.Common.{◌≡◌, ◌≢◌, ℕ, zero, suc, Bool, true, false, cond, List, [], ◌∷◌, ◌++◌, map, take, drop, length, refl, ap, sym, ◌∙◌, subst, inl, inr, arith, ℤ, pos, negsuc}
use Rattle.std.specs.Prelude.{min, int_lt, slice_index_or, ◌-ℤ◌}
use Rattle.std.specs.Ordering.{int_cmp, ordering_then}
use Rattle.std.specs.Cmp.Lexicographic.{slice_cmp}
use Rattle.std.specs.declared.cmp.Ordering.{Ordering}
use Rattle.std.specs.declared.cmp.Ordering.TheVariants.{Less, Equal, Greater}
use Rattle.std.proofs.lemmas.Int.{ints}
use Rattle.std.proofs.lemmas.List.{length-map, length-take, map-append}
use Rattle.ch_lists.specs.Members.{In}
use Rattle.ch_lists.specs.Ordered.{directed, ordered, placed}
use Rattle.ch_lists.proofs.Carried.{map-map, ordered-map, take-map}
use Rattle.ch_lists.proofs.Members.{In-map, In-map_from}
use Rattle.ch_cells.specs.declared.Cell.{Cell}
use Rattle.ch_cover.specs.Rows.{Row}
use Rattle.ch_pred.specs.Meaning.{at, first_lines, in_order, line, meaning_by, top_cmp}
use Rattle.ch_pred.specs.Sound.{IsCarried}
use Rattle.ch_pred.specs.Values.{View}
use Rattle.ch_pred.specs.declared.bound.Bound.{Bound}
use Rattle.ch_pred.specs.declared.bound.Shape.{Shape}
use Rattle.ch_pred.specs.declared.bound.Shape.TheVariants as shape
use Rattle.ch_pred.specs.declared.pred.Col.{Col}
use Rattle.ch_words.specs.Readings.{NamesOnly}
use Rattle.ch_words.specs.Rows.{answer_over, side_seen, words_seen}
use Rattle.ch_words.specs.Words.{asked_of_words, read_answer}
use Rattle.ch_word_cells.specs.Fits.{FitsWord}
use Rattle.ch_flat.specs.Flat.{pick}
use Rattle.ch_fold_laws.proofs.Steps.{firsts}
use Rattle.ch_fold_lines.specs.Rows.{RowFits, RowsFit, answer_read, held, held_lines, reading}
use Rattle.ch_fold_lines.specs.Shown.{best_kind, printed_kinds, shown_line}
use Rattle.ch_fold_lines.proofs.FilterLaws.{held_line_fits}
use Rattle.ch_fold_lines.proofs.Held.{pick_line}
use Rattle.ch_fold_lines.proofs.Ordered.{ordered-In}
use Rattle.ch_fold_lines.proofs.ShownLaws.{lines_shown, printed_there}
use Rattle.ch_fold_orders.specs.Top.{StandsForTop, entry, turned}
use Rattle.ch_fold_orders.specs.declared.top.TopFold.{TopFold}
use Rattle.ch_fold_orders.proofs.FirstLaws.{ordered_length, rows_exact}

abbrev rows_cmp : List ℤ → List ℤ → Ordering
rows_cmp = slice_cmp int_cmp

pub top_alone : (s : Shape) (by : Col) (descending : Bool) (limit : ℕ) → s ≡ shape.Top by descending limit → (left right : Col) → s ≢ shape.Join left right
top_alone s by descending limit e left right f = cc

none_fits : (texts : List (List ℕ)) (b : Bound) (s : Shape) (by : Col) (descending : Bool) (limit : ℕ) → s ≡ shape.Top by descending limit → FitsWord texts (best_kind b s) (pos 0)
none_fits texts b s by descending limit e = subst (λ (t : Shape). FitsWord texts (best_kind b t) (pos 0)) (sym e) (λ k. absurd (cc k))

turned_lt : (a b : ℤ) → int_lt (negsuc 0 -ℤ a) (negsuc 0 -ℤ b) ≡ int_lt b a
turned_lt a b = grind (arith, ints)

turned_cmp : (down : Bool) (a b : ℤ) → int_cmp (turned down a) (turned down b) ≡ directed down int_cmp a b
turned_cmp true a b = λ i. cond (turned_lt a b i) Less (cond (turned_lt b a i) Greater Equal)
turned_cmp false a b = refl

-- of a value and a line, what is kept
abbrev kept_of : Bool → ℤ × List ℤ → List ℤ
kept_of descending p = turned descending p.0 ∷ p.1

abbrev pair_of : Bound → Col → View ℤ → ℤ × List ℤ
pair_of b by v = (at v by, line b.printed (pos 0) v)

entry_cmp : (descending : Bool) (p q : ℤ × List ℤ) → rows_cmp (kept_of descending p) (kept_of descending q) ≡ top_cmp int_cmp descending p q
entry_cmp descending p q = ap (λ o. ordering_then o (rows_cmp p.1 q.1)) (turned_cmp descending p.0 q.0)

take-In : {X : Type 0} (n : ℕ) (x : X) (xs : List X) → In x (take n xs) → In x xs
take-In zero x xs i = absurd i
take-In (suc n) x [] i = absurd i
take-In (suc n) x (y ∷ xs) (inl e) = inl e
take-In (suc n) x (y ∷ xs) (inr i) = inr (take-In n x xs i)

-- the entries in their order, without what they are ordered by, are the first lines
first_entries : (b : Bound) (by : Col) (descending : Bool) (limit : ℕ) (vs : List (View ℤ))
    → map (drop 1) (take limit (ordered rows_cmp (map (entry b by descending) vs))) ≡ first_lines int_cmp descending limit (map (pair_of b by) vs)
first_entries b by descending limit vs =
    let pairs = map (pair_of b by) vs in
    ap (λ es. map (drop 1) (take limit (ordered rows_cmp es))) (sym (map-map (pair_of b by) (kept_of descending) vs))
    ∙ (ap (λ es. map (drop 1) (take limit es)) (ordered-map (top_cmp int_cmp descending) rows_cmp (kept_of descending) (entry_cmp descending) pairs)
    ∙ (ap (map (drop 1)) (take-map (kept_of descending) limit (ordered (top_cmp int_cmp descending) pairs))
    ∙ map-map (kept_of descending) (drop 1) (take limit (ordered (top_cmp int_cmp descending) pairs))))

first_held : (texts : List (List ℕ)) (b : Bound) (rows : List Row) (by : Col) (descending : Bool) (limit : ℕ) (l : List ℤ)
    → In l (first_lines int_cmp descending limit (map (pair_of b by) (held texts b rows))) → In l (held_lines texts b rows)
first_held texts b rows by descending limit l i =
    let pairs = map (pair_of b by) (held texts b rows) in
    let p = In-map (λ (r : ℤ × List ℤ). r.1) l (take limit (ordered (top_cmp int_cmp descending) pairs)) i in
    let v = In-map (pair_of b by) p.0 (held texts b rows) (ordered-In (top_cmp int_cmp descending) p.0 pairs (take-In limit p.0 (ordered (top_cmp int_cmp descending) pairs) p.1)) in
    subst (λ (ls : List ℤ). In ls (held_lines texts b rows)) (sym (p.2 ∙ ap (λ (r : ℤ × List ℤ). r.1) v.2)) (In-map_from (line b.printed (pos 0)) v.0 (held texts b rows) v.1)

module _ (texts : List (List ℕ)) (b : Bound) (rows : List Row) (fold : TopFold) (s : StandsForTop texts b fold rows) where
  pub top_stays : (more : List Row) → RowsFit texts b more → held texts b more ≡ held texts b rows → StandsForTop texts b fold more
  top_stays more fits same = record {
    by = s.by;
    descending = s.descending;
    limit = s.limit;
    shape = s.shape;
    by_place = s.by_place;
    direction = s.direction;
    bound = s.bound;
    places = s.places;
    entries = s.entries ∙ ap (λ vs. take s.limit (ordered rows_cmp (map (entry b s.by s.descending) vs))) (sym same);
    fits = fits;
  }

  pub top_takes : (more : List Row) (ws : List ℤ) (new : TopFold) → RowsFit texts b more → RowFits texts b 0 ws → held texts b more ≡ held texts b rows ++ words_seen b ws ∷ []
      → new.by ≡ fold.by → new.descending ≡ fold.descending → new.places ≡ fold.places → new.firsts.limit ≡ fold.firsts.limit
      → ordered rows_cmp new.firsts.rows ≡ take fold.firsts.limit (ordered rows_cmp ((turned fold.descending (slice_index_or ws fold.by (pos 0)) ∷ pick ws fold.places) ∷ fold.firsts.rows))
      → StandsForTop texts b new more
  top_takes more ws new fits f holds by_same down_same places_same limit_same e =
      let es = map (entry b s.by s.descending) (held texts b rows) in
      let x = entry b s.by s.descending (words_seen b ws) in
      let kept : (turned fold.descending (slice_index_or ws fold.by (pos 0)) ∷ pick ws fold.places) ≡ x =
      λ i. turned (s.direction i) (slice_index_or ws (s.by_place i) (pos 0)) ∷ (ap (pick ws) s.places ∙ pick_line b ws f.width b.printed) i in
      let all : map (entry b s.by s.descending) (held texts b more) ≡ es ++ x ∷ [] = ap (map (entry b s.by s.descending)) holds ∙ map-append (entry b s.by s.descending) (held texts b rows) (words_seen b ws ∷ []) in
      record {
        by = s.by;
        descending = s.descending;
        limit = s.limit;
        shape = s.shape;
        by_place = by_same ∙ s.by_place;
        direction = down_same ∙ s.direction;
        bound = limit_same ∙ s.bound;
        places = places_same ∙ s.places;
        entries = e
            ∙ ((λ i. take (s.bound i) (placed rows_cmp (kept i) (s.entries i)))
            ∙ (sym (firsts rows_cmp rows_exact s.limit es x)
            ∙ ap (λ ls. take s.limit (ordered rows_cmp ls)) (sym all)));
        fits = fits;
      }

  pub top_size : (by : Col) (descending : Bool) (limit : ℕ) → b.shape ≡ shape.Top by descending limit → length fold.firsts.rows ≡ min limit (length (held texts b rows))
  top_size by descending limit e =
      let es = map (entry b s.by s.descending) (held texts b rows) in
      let same : s.limit ≡ limit = cc (s.shape, e) in
      sym (ordered_length rows_cmp rows_exact fold.firsts.rows)
      ∙ (ap length s.entries
      ∙ (length-take s.limit (ordered rows_cmp es)
      ∙ (λ i. min (same i) ((ordered_length rows_cmp rows_exact es ∙ length-map (held texts b rows) (entry b s.by s.descending)) i))))

  pub top_answer : NamesOnly (IsCarried b) b → (lines : List (List ℤ)) (made : List (List Cell)) → made ≡ map (shown_line texts (printed_kinds b)) lines → lines ≡ map (drop 1) (ordered rows_cmp fold.firsts.rows)
      → made ≡ answer_read texts b rows
  top_answer names lines made m l =
      let firsts_of = first_lines int_cmp s.descending s.limit (map (pair_of b s.by) (held texts b rows)) in
      let sorted : lines ≡ firsts_of = l ∙ (ap (map (drop 1)) s.entries ∙ first_entries b s.by s.descending s.limit (held texts b rows)) in
      let answered : answer_over (reading texts b) b rows ≡ firsts_of =
      ap (λ (t : Shape). in_order int_cmp t (meaning_by t (asked_of_words (reading texts b) b) (side_seen b 0 rows) (side_seen b 1 rows))) s.shape in
      m ∙ (lines_shown texts b (printed_there b names) lines
      (λ ln i. held_line_fits texts b rows (top_alone b.shape s.by s.descending s.limit s.shape) (none_fits texts b b.shape s.by s.descending s.limit s.shape) s.fits ln
      (first_held texts b rows s.by s.descending s.limit ln (subst (λ (ls : List (List ℤ)). In ln ls) sorted i)))
      ∙ ap (λ (ls : List (List ℤ)). read_answer (reading texts b) b ls) (sorted ∙ sym answered))
