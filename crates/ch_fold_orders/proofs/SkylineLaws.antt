-- What the fold of a skyline keeps, row by row, and the answer over it.
use Rattle.std.proofs.Common.{◌⊎◌, ◌≡◌, ◌≢◌, ℕ, Bool, true, false, cond, not, ◌&&◌, ◌||◌, List, [], ◌∷◌, ◌++◌, map, filter, length, refl, ap, sym, ◌∙◌, subst, inl, inr, ℤ, pos}
use Rattle.std.specs.List.{list_all, list_any}
use Rattle.std.specs.Ordering.{int_cmp, is_gt, is_le, is_lt}
use Rattle.std.specs.Cmp.{IsTotalOrder}
use Rattle.std.specs.Cmp.Lexicographic.{slice_cmp}
use Rattle.std.specs.declared.cmp.Ordering.{Ordering}
use Rattle.std.specs.declared.cmp.Ordering.TheVariants.{Less, Equal, Greater}
use Rattle.std.proofs.lemmas.Bool.{and_from, and_parts, or_cases, or_left, or_right}
use Rattle.std.proofs.lemmas.Cmp.{alike_right, tied_itself, upto}
use Rattle.std.proofs.lemmas.List.{length-map}
use Rattle.ch_lists.specs.Members.{In}
use Rattle.ch_lists.specs.Ordered.{directed, ordered}
use Rattle.ch_lists.proofs.Carried.{map_members, map-map}
use Rattle.ch_lists.proofs.Members.{In-append, In-filter, In-map, In-map_from}
use Rattle.ch_lists.proofs.Orders.{directed_exact, ints_exact}
use Rattle.ch_cells.specs.declared.Cell.{Cell}
use Rattle.ch_cover.specs.Rows.{Row}
use Rattle.ch_pred.specs.Meaning.{at, dominates, in_order, line, meaning_by}
use Rattle.ch_pred.specs.Sound.{IsCarried}
use Rattle.ch_pred.specs.Values.{View}
use Rattle.ch_pred.specs.declared.bound.Bound.{Bound}
use Rattle.ch_pred.specs.declared.bound.Dim.{Dim}
use Rattle.ch_pred.specs.declared.bound.Shape.{Shape}
use Rattle.ch_pred.specs.declared.bound.Shape.TheVariants as shape
use Rattle.ch_pred.specs.declared.pred.Col.{Col}
use Rattle.ch_words.specs.Readings.{NamesOnly}
use Rattle.ch_words.specs.Rows.{answer_over, side_seen, words_seen}
use Rattle.ch_words.specs.Words.{asked_of_words, read_answer}
use Rattle.ch_word_cells.specs.Fits.{FitsWord}
use Rattle.ch_flat.specs.Flat.{pick}
use Rattle.ch_fold_lines.specs.Rows.{RowFits, RowsFit, answer_read, held, held_lines, reading}
use Rattle.ch_fold_lines.specs.Shown.{best_kind, printed_kinds, shown_line}
use Rattle.ch_fold_lines.proofs.FilterLaws.{held_line_fits}
use Rattle.ch_fold_lines.proofs.Held.{pick_line}
use Rattle.ch_fold_lines.proofs.Ordered.{ordered-In}
use Rattle.ch_fold_lines.proofs.ShownLaws.{lines_shown, printed_there}
use Rattle.ch_fold_orders.specs.Front.{axis_cmp, is_over, with_point}
use Rattle.ch_fold_orders.specs.Skyline.{StandsForSkyline, axis_of, undominated}
use Rattle.ch_fold_orders.specs.declared.front.Axis.{Axis}
use Rattle.ch_fold_orders.specs.declared.skyline.SkylineFold.{SkylineFold}
use Rattle.ch_fold_orders.proofs.Beaten.{IsDominance, point-map, unbeaten_more}
use Rattle.ch_fold_orders.proofs.FirstLaws.{ordered_length, rows_exact}

le_gt : (o : Ordering) → is_le o ≡ true → is_gt o ≡ false
le_gt Less e = refl
le_gt Equal e = refl
le_gt Greater e = cc

gt_le : (o : Ordering) → is_gt o ≡ false → is_le o ≡ true
gt_le Less e = refl
gt_le Equal e = refl
gt_le Greater e = cc

module _ {K : Type 0} (R : K → K → Ordering) (o : IsTotalOrder R) where
  le_chain : (x y z : K) → is_le (R x y) ≡ true → is_le (R y z) ≡ true → is_le (R x z) ≡ true
  le_chain x y z a c = gt_le (R x z) (upto o x y z (le_gt (R x y) a) (le_gt (R y z) c))

  lt_chain : (x y z : K) → is_lt (R x y) ≡ true → is_le (R y z) ≡ true → is_lt (R x z) ≡ true
  lt_chain x y z a c = go (R y z) refl c
    where
      less : (p : Ordering) → is_lt p ≡ true → p ≡ Less
      less Less e = refl
      less Equal e = absurd cc
      less Greater e = absurd cc

      go : (p : Ordering) → R y z ≡ p → is_le p ≡ true → is_lt (R x z) ≡ true
      go Less e h = ap is_lt (o.trans x y z (less (R x y) a) e)
      go Equal e h = ap is_lt (sym (alike_right o y z x e)) ∙ a
      go Greater e h = absurd cc

-- dominance of points, by any orders
module _ {D P : Type 0} (R : D → P → P → Ordering) (o : (d : D) → IsTotalOrder (R d)) where
  all_le : List D → P → P → Bool
  all_le dims x y = list_all (λ d. is_le (R d x y)) dims

  any_lt : List D → P → P → Bool
  any_lt dims x y = list_any (λ d. is_lt (R d x y)) dims

  all_chain : (x y z : P) (dims : List D) → list_all (λ d. is_le (R d x y)) dims ≡ true → list_all (λ d. is_le (R d y z)) dims ≡ true → list_all (λ d. is_le (R d x z)) dims ≡ true
  all_chain x y z [] a c = refl
  all_chain x y z (d ∷ dims) a c =
      let p = and_parts (is_le (R d x y)) (list_all (λ k. is_le (R k x y)) dims) a in
      let q = and_parts (is_le (R d y z)) (list_all (λ k. is_le (R k y z)) dims) c in
      and_from (is_le (R d x z)) (list_all (λ k. is_le (R k x z)) dims) (le_chain (R d) (o d) x y z p.0 q.0) (all_chain x y z dims p.1 q.1)

  any_chain : (x y z : P) (dims : List D) → list_any (λ d. is_lt (R d x y)) dims ≡ true → list_all (λ d. is_le (R d y z)) dims ≡ true → list_any (λ d. is_lt (R d x z)) dims ≡ true
  any_chain x y z [] a c = a
  any_chain x y z (d ∷ dims) a c =
      let q = and_parts (is_le (R d y z)) (list_all (λ k. is_le (R k y z)) dims) c in
      elim (or_cases (is_lt (R d x y)) (list_any (λ k. is_lt (R k x y)) dims) a) [
        | inl h ↦ or_left (is_lt (R d x z)) (list_any (λ k. is_lt (R k x z)) dims) (lt_chain (R d) (o d) x y z h q.0)
        | inr h ↦ or_right (is_lt (R d x z)) (list_any (λ k. is_lt (R k x z)) dims) (any_chain x y z dims h q.1)
      ]

  none_itself : (x : P) (dims : List D) → list_any (λ d. is_lt (R d x x)) dims ≡ false
  none_itself x [] = refl
  none_itself x (d ∷ dims) = λ i. is_lt (tied_itself (o d) x i) || none_itself x dims i

  and_none : (t u : Bool) → u ≡ false → (t && u) ≡ false
  and_none true u e = e
  and_none false u e = refl

  pub dominance : (dims : List D) → IsDominance (λ x y. list_all (λ d. is_le (R d x y)) dims && list_any (λ d. is_lt (R d x y)) dims)
  dominance dims = record {
    itself = λ x. and_none (list_all (λ d. is_le (R d x x)) dims) (list_any (λ d. is_lt (R d x x)) dims) (none_itself x dims);
    on = λ x y z a c.
        let p = and_parts (list_all (λ d. is_le (R d x y)) dims) (list_any (λ d. is_lt (R d x y)) dims) a in
        let q = and_parts (list_all (λ d. is_le (R d y z)) dims) (list_any (λ d. is_lt (R d y z)) dims) c in
        and_from (list_all (λ d. is_le (R d x z)) dims) (list_any (λ d. is_lt (R d x z)) dims) (all_chain x y z dims p.0 q.0) (any_chain x y z dims p.1 q.0);
  }

view_cmp : Dim → View ℤ → View ℤ → Ordering
view_cmp d x y = directed d.max int_cmp (at x d.col) (at y d.col)

on_views : {K : Type 0} (R : K → K → Ordering) (f : View ℤ → K) → IsTotalOrder R → IsTotalOrder (λ x y. R (f x) (f y))
on_views R f o = record {
  antisymm = λ x y. o.antisymm (f x) (f y);
  trans = λ x y z. o.trans (f x) (f y) (f z);
  congr = λ x y z. o.congr (f x) (f y) (f z);
}

views_dominate : (dims : List Dim) → IsDominance (dominates int_cmp dims)
views_dominate dims = dominance (λ (d : Dim) (x y : View ℤ). directed d.max int_cmp (at x d.col) (at y d.col)) (λ d. on_views (directed d.max int_cmp) (λ x. at x d.col) (directed_exact d.max int_cmp ints_exact).total) dims

-- rows of words dominate each other as the views of them do
all_axes : (b : Bound) (a c : List ℤ) (dims : List Dim) → list_all (λ d. is_le (directed d.max int_cmp (at (words_seen b a) d.col) (at (words_seen b c) d.col))) dims ≡ list_all (λ x. is_le (axis_cmp a c x)) (map (axis_of b) dims)
all_axes b a c [] = refl
all_axes b a c (d ∷ dims) = ap (λ t. is_le (axis_cmp a c (axis_of b d)) && t) (all_axes b a c dims)

any_axes : (b : Bound) (a c : List ℤ) (dims : List Dim) → list_any (λ d. is_lt (directed d.max int_cmp (at (words_seen b a) d.col) (at (words_seen b c) d.col))) dims ≡ list_any (λ x. is_lt (axis_cmp a c x)) (map (axis_of b) dims)
any_axes b a c [] = refl
any_axes b a c (d ∷ dims) = ap (λ t. is_lt (axis_cmp a c (axis_of b d)) || t) (any_axes b a c dims)

over_axes : (b : Bound) (dims : List Dim) (axes : List Axis) → axes ≡ map (axis_of b) dims → (a c : List ℤ) → dominates int_cmp dims (words_seen b a) (words_seen b c) ≡ is_over axes a c
over_axes b dims axes e a c = (λ i. all_axes b a c dims i && any_axes b a c dims i) ∙ ap (λ xs. is_over xs a c) (sym e)

point-In : {X : Type 0} (over : X → X → Bool) (front : List X) (x y : X) → In y (with_point over front x) → In y front ⊎ (y ≡ x)
point-In {X} over front x y i = go (list_any (λ s. over s x) front) i
  where
    go : (t : Bool) → In y (cond t front (filter (λ s. not (over x s)) front ++ x ∷ [])) → In y front ⊎ (y ≡ x)
    go true j = inl j
    go false j = elim (In-append y (filter (λ s. not (over x s)) front) (x ∷ []) j) [
      | inl k ↦ inl (In-filter (λ s. not (over x s)) y front k).0
      | inr k ↦ elim k [ inl e ↦ inr e | inr n ↦ absurd n ]
    ]

pub skyline_alone : (s : Shape) (dims : List Dim) → s ≡ shape.Skyline dims → (left right : Col) → s ≢ shape.Join left right
skyline_alone s dims e left right f = cc

none_fits : (texts : List (List ℕ)) (b : Bound) (s : Shape) (dims : List Dim) → s ≡ shape.Skyline dims → FitsWord texts (best_kind b s) (pos 0)
none_fits texts b s dims e = subst (λ (t : Shape). FitsWord texts (best_kind b t) (pos 0)) (sym e) (λ k. absurd (cc k))

module _ (texts : List (List ℕ)) (b : Bound) (rows : List Row) (fold : SkylineFold) (s : StandsForSkyline texts b fold rows) where
  pub skyline_stays : (more : List Row) → RowsFit texts b more → held texts b more ≡ held texts b rows → StandsForSkyline texts b fold more
  skyline_stays more fits same = record {
    dims = s.dims;
    shape = s.shape;
    axes = s.axes;
    places = s.places;
    points = s.points ∙ ap (undominated s.dims) (sym same);
    widths = s.widths;
    fits = fits;
  }

  pub skyline_takes : (more : List Row) (ws : List ℤ) (new : SkylineFold) → RowsFit texts b more → RowFits texts b 0 ws → held texts b more ≡ held texts b rows ++ words_seen b ws ∷ []
      → new.axes ≡ fold.axes → new.places ≡ fold.places → new.front ≡ with_point (is_over fold.axes) fold.front ws → StandsForSkyline texts b new more
  skyline_takes more ws new fits f holds axes_same places_same e = record {
    dims = s.dims;
    shape = s.shape;
    axes = axes_same ∙ s.axes;
    places = places_same ∙ s.places;
    points = ap (map (words_seen b)) e
        ∙ (point-map (words_seen b) (is_over fold.axes) (dominates int_cmp s.dims) (over_axes b s.dims fold.axes s.axes) fold.front ws
        ∙ (ap (λ vs. with_point (dominates int_cmp s.dims) vs (words_seen b ws)) s.points
        ∙ (sym (unbeaten_more (dominates int_cmp s.dims) (views_dominate s.dims) (held texts b rows) (words_seen b ws))
        ∙ ap (undominated s.dims) (sym holds))));
    widths = λ vs i. elim (point-In (is_over fold.axes) fold.front ws vs (subst (λ (fs : List (List ℤ)). In vs fs) e i)) [
      | inl j ↦ s.widths vs j
      | inr k ↦ ap length k ∙ f.width
    ];
    fits = fits;
  }

  lines_of : map (λ ws. pick ws fold.places) fold.front ≡ map (line b.printed (pos 0)) (undominated s.dims (held texts b rows))
  lines_of =
      map_members (λ ws. pick ws fold.places) (λ ws. line b.printed (pos 0) (words_seen b ws)) fold.front (λ ws i. ap (pick ws) s.places ∙ pick_line b ws (s.widths ws i) b.printed)
      ∙ (sym (map-map (words_seen b) (line b.printed (pos 0)) fold.front) ∙ ap (map (line b.printed (pos 0))) s.points)

  answered : answer_over (reading texts b) b rows ≡ ordered (slice_cmp int_cmp) (map (line b.printed (pos 0)) (undominated s.dims (held texts b rows)))
  answered = ap (λ (t : Shape). in_order int_cmp t (meaning_by t (asked_of_words (reading texts b) b) (side_seen b 0 rows) (side_seen b 1 rows))) s.shape

  pub skyline_size : length fold.front ≡ length (answer_over (reading texts b) b rows)
  skyline_size =
      sym (length-map fold.front (λ ws. pick ws fold.places))
      ∙ (ap length lines_of
      ∙ (sym (ordered_length (slice_cmp int_cmp) rows_exact (map (line b.printed (pos 0)) (undominated s.dims (held texts b rows))))
      ∙ ap length (sym answered)))

  pub skyline_answer : NamesOnly (IsCarried b) b → (lines : List (List ℤ)) (made : List (List Cell)) → made ≡ map (shown_line texts (printed_kinds b)) lines
      → lines ≡ ordered (slice_cmp int_cmp) (map (λ ws. pick ws fold.places) fold.front) → made ≡ answer_read texts b rows
  skyline_answer names lines made m l =
      let points = undominated s.dims (held texts b rows) in
      let sorted : lines ≡ ordered (slice_cmp int_cmp) (map (line b.printed (pos 0)) points) = l ∙ ap (ordered (slice_cmp int_cmp)) lines_of in
      m ∙ (lines_shown texts b (printed_there b names) lines
      (λ ln i.
      let j = In-map (line b.printed (pos 0)) ln points (ordered-In (slice_cmp int_cmp) ln (map (line b.printed (pos 0)) points) (subst (λ (ls : List (List ℤ)). In ln ls) sorted i)) in
      held_line_fits texts b rows (skyline_alone b.shape s.dims s.shape) (none_fits texts b b.shape s.dims s.shape) s.fits ln
      (subst (λ (ls : List ℤ). In ls (held_lines texts b rows)) (sym j.2)
      (In-map_from (line b.printed (pos 0)) j.0 (held texts b rows) (In-filter (λ r. not (list_any (λ t. dominates int_cmp s.dims t r) (held texts b rows))) j.0 (held texts b rows) j.1).0)))
      ∙ ap (λ (ls : List (List ℤ)). read_answer (reading texts b) b ls) (sorted ∙ sym answered))
