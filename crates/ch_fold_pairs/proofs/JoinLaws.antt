-- What the fold of a join keeps, row by row, and the answer over it.
use Rattle.std.proofs.Common.{◌≡◌, ◌≢◌, ◌≤◌, ◌+◌, ℕ, zero, suc, ◌==◌, Bool, true, false, cond, ◌&&◌, List, [], ◌∷◌, ◌++◌, map, filter, length, eqb, eqb-true, refl, ap, sym, ◌∙◌, subst, inl, inr, arith, ℤ, pos}
use Rattle.std.specs.Prelude.{flat_map, slice_index_or}
use Rattle.std.specs.Ordering.{int_cmp, is_eq}
use Rattle.std.specs.Cmp.Lexicographic.{slice_cmp}
use Rattle.std.proofs.lemmas.Bool.Decides.{nat_tests}
use Rattle.std.proofs.lemmas.List.{length-map, map-append}
use Rattle.std.proofs.lemmas.List.Elements.{filter-append}
use Rattle.ch_lists.specs.Members.{In, Each}
use Rattle.ch_lists.specs.Ordered.{ordered, SameBag}
use Rattle.ch_lists.proofs.Bags.{SameBag-filter, SameBag-flat_map, SameBag-map}
use Rattle.ch_lists.proofs.Carried.{filter-map, map-map, map_members}
use Rattle.ch_lists.proofs.Members.{In-append, In-filter, In-map}
use Rattle.ch_lists.proofs.Orders.{ints_exact, lists_exact}
use Rattle.ch_lists.proofs.Sorting.{ordered_keeps, ordered_same}
use Rattle.ch_cells.specs.declared.Cell.{Cell}
use Rattle.ch_cover.specs.Rows.{Row}
use Rattle.ch_pred.specs.Meaning.{at, both, in_order, line, lines, meaning_by, pairs}
use Rattle.ch_pred.specs.Named.{outer_named}
use Rattle.ch_pred.specs.Sound.{AreSided, IsCarried, IsSound, carried_of, sides_of}
use Rattle.ch_pred.specs.Values.{View}
use Rattle.ch_pred.specs.declared.bound.Bound.{Bound}
use Rattle.ch_pred.specs.declared.bound.Shape.{Shape}
use Rattle.ch_pred.specs.declared.bound.Shape.TheVariants as shape
use Rattle.ch_pred.specs.declared.pred.Col.{Col}
use Rattle.ch_words.specs.Rows.{answer_over, row_seen, side_seen, words_seen}
use Rattle.ch_words.specs.Words.{asked_of_words, read_answer}
use Rattle.ch_words.proofs.JoinCover.{filter-filter}
use Rattle.ch_words.proofs.SoundQueries.{sound_names}
use Rattle.ch_word_cells.specs.Fits.{FitsWord, WordsFit}
use Rattle.ch_word_cells.proofs.Sent.{of_pair}
use Rattle.ch_flat.specs.Flat.{Flat, pick, with_row}
use Rattle.ch_fold_lines.specs.Rows.{RowFits, RowsFit, answer_read, reading}
use Rattle.ch_fold_lines.specs.Shown.{best_kind, printed_kinds, shown_line}
use Rattle.ch_fold_lines.proofs.Held.{nothing_more, seen_is}
use Rattle.ch_fold_lines.proofs.Ordered.{ordered-In}
use Rattle.ch_fold_lines.proofs.ShownLaws.{LineFits, lines_shown, printed_there}
use Rattle.ch_fold_pairs.specs.Places.{keyed_places, place_of}
use Rattle.ch_fold_pairs.specs.Pairs.{KeysRise, is_partner, keyed, pair_lines, pair_seen, partner_lines, words_of}
use Rattle.ch_fold_pairs.specs.Join.{StandsForJoin}
use Rattle.ch_fold_pairs.specs.declared.join.JoinFold.{JoinFold}
use Rattle.ch_fold_pairs.proofs.Firsts.{firsts_length, pick_whole}
use Rattle.ch_fold_pairs.proofs.Merge.{IsKeyed, ordered_rise}
use Rattle.ch_fold_pairs.proofs.Sides.{sides_short}

-- the words of the rows of a side, with one row more
words_more : (side : ℕ) (rows more : List Row) → words_of side (rows ++ more) ≡ words_of side rows ++ words_of side more
words_more side rows more = ap (map (λ (r : Row). r.words)) (filter-append (λ (r : Row). r.side == side) rows more) ∙ map-append (λ (r : Row). r.words) _ _

one_row : (side : ℕ) (r : Row) (own : Bool) → (r.side == side) ≡ own → words_of side (r ∷ []) ≡ cond own (r.words ∷ []) []
one_row side r own e = ap (λ o. map (λ (q : Row). q.words) (cond o (r ∷ []) [])) e ∙ go own
  where
    go : (o : Bool) → map (λ (q : Row). q.words) (cond o (r ∷ []) []) ≡ cond o (r.words ∷ []) []
    go true = refl
    go false = refl

pub words_other : (side : ℕ) (rows : List Row) (r : Row) → r.side ≢ side → words_of side (rows ++ r ∷ []) ≡ words_of side rows
words_other side rows r other =
    let not_own : (r.side == side) ≡ false = grind (arith, nat_tests) in
    words_more side rows (r ∷ []) ∙ (ap (λ ws. words_of side rows ++ ws) (one_row side r false not_own) ∙ nothing_more (words_of side rows))

pub words_in : (side : ℕ) (rows : List Row) (r : Row) (ws : List ℤ) → r.side ≡ side → r.words ≡ ws → words_of side (rows ++ r ∷ []) ≡ words_of side rows ++ ws ∷ []
words_in side rows r ws e words =
    let own : (r.side == side) ≡ true = grind (arith, nat_tests) in
    words_more side rows (r ∷ []) ∙ ap (λ vs. words_of side rows ++ vs) (one_row side r true own ∙ ap (λ v. v ∷ []) words)

-- the rows of a side are seen by their words
seen_words : (b : Bound) (side : ℕ) (rows : List Row) → side_seen b side rows ≡ map (words_seen b) (words_of side rows)
seen_words b side rows =
    map_members (row_seen b) (λ (r : Row). words_seen b r.words) (filter (λ r. r.side == side) rows) (λ r i. seen_is b r r.words refl)
    ∙ sym (map-map (λ (r : Row). r.words) (words_seen b) (filter (λ r. r.side == side) rows))

words_length : (b : Bound) (side : ℕ) (rows : List Row) → length (side_seen b side rows) ≡ length (words_of side rows)
words_length b side rows = ap length (seen_words b side rows) ∙ length-map (words_of side rows) (words_seen b)

-- the picked words of a row are its key and the row
kept_row : (b : Bound) (side : ℕ) (key : Col) (ws : List ℤ) → length ws ≡ length (carried_of b side) → pick ws (keyed_places b key (length (carried_of b side))) ≡ slice_index_or ws (place_of b key) (pos 0) ∷ ws
kept_row b side key ws e = ap (λ us. slice_index_or ws (place_of b key) (pos 0) ∷ us) (pick_whole ws (length (carried_of b side)) e)

module _ (texts : List (List ℕ)) (b : Bound) (rows : List Row) (fold : JoinFold) (s : StandsForJoin texts b fold rows) where
  left_length : length fold.left.rows ≡ length (side_seen b 0 rows)
  left_length = ap (λ (f : Flat). length f.rows) s.left ∙ (length-map (words_of 0 rows) _ ∙ sym (words_length b 0 rows))

  right_length : length fold.right.rows ≡ length (side_seen b 1 rows)
  right_length = ap (λ (f : Flat). length f.rows) s.right ∙ (length-map (words_of 1 rows) _ ∙ sym (words_length b 1 rows))

  pub join_size : length fold.left.rows + length fold.right.rows ≡ length (side_seen b 0 rows) + length (side_seen b 1 rows)
  join_size = omega (arith, left_length, right_length)

  pub join_short : length fold.left.rows + length fold.right.rows ≤ length rows
  join_short = omega (arith, left_length, right_length, sides_short b rows)

  pub left_width : length fold.left_places ≡ fold.left.width
  left_width = ap length s.left_places ∙ (ap suc (firsts_length (length (carried_of b 0))) ∙ sym (ap (λ (f : Flat). f.width) s.left))

  pub right_width : length fold.right_places ≡ fold.right.width
  right_width = ap length s.right_places ∙ (ap suc (firsts_length (length (carried_of b 1))) ∙ sym (ap (λ (f : Flat). f.width) s.right))

  pub join_stays : (more : List Row) → RowsFit texts b more → words_of 0 more ≡ words_of 0 rows → words_of 1 more ≡ words_of 1 rows → StandsForJoin texts b fold more
  join_stays more fits left right = record {
    left_col = s.left_col;
    right_col = s.right_col;
    shape = s.shape;
    left_places = s.left_places;
    right_places = s.right_places;
    left = s.left ∙ (λ i. record { width = suc (length (carried_of b 0)); rows = keyed (place_of b s.left_col) (sym left i) });
    right = s.right ∙ (λ i. record { width = suc (length (carried_of b 1)); rows = keyed (place_of b s.right_col) (sym right i) });
    fits = fits;
  }

  pub left_takes : (more : List Row) (ws : List ℤ) (new : JoinFold) → RowsFit texts b more → RowFits texts b 0 ws → words_of 0 more ≡ words_of 0 rows ++ ws ∷ [] → words_of 1 more ≡ words_of 1 rows
      → new.left_places ≡ fold.left_places → new.right_places ≡ fold.right_places → new.left ≡ with_row fold.left (pick ws fold.left_places) → new.right ≡ fold.right → StandsForJoin texts b new more
  left_takes more ws new fits f left right p q l r =
      let row : pick ws fold.left_places ≡ slice_index_or ws (place_of b s.left_col) (pos 0) ∷ ws = ap (pick ws) s.left_places ∙ kept_row b 0 s.left_col ws f.width in
      let all : keyed (place_of b s.left_col) (words_of 0 more) ≡ keyed (place_of b s.left_col) (words_of 0 rows) ++ (slice_index_or ws (place_of b s.left_col) (pos 0) ∷ ws) ∷ [] =
      ap (keyed (place_of b s.left_col)) left ∙ map-append (λ (us : List ℤ). slice_index_or us (place_of b s.left_col) (pos 0) ∷ us) (words_of 0 rows) (ws ∷ []) in
      record {
        left_col = s.left_col;
        right_col = s.right_col;
        shape = s.shape;
        left_places = p ∙ s.left_places;
        right_places = q ∙ s.right_places;
        left = l ∙ ((λ i. with_row (s.left i) (row i)) ∙ (λ i. record { width = suc (length (carried_of b 0)); rows = sym all i }));
        right = r ∙ (s.right ∙ (λ i. record { width = suc (length (carried_of b 1)); rows = keyed (place_of b s.right_col) (sym right i) }));
        fits = fits;
      }

  pub right_takes : (more : List Row) (ws : List ℤ) (new : JoinFold) → RowsFit texts b more → RowFits texts b 1 ws → words_of 0 more ≡ words_of 0 rows → words_of 1 more ≡ words_of 1 rows ++ ws ∷ []
      → new.left_places ≡ fold.left_places → new.right_places ≡ fold.right_places → new.left ≡ fold.left → new.right ≡ with_row fold.right (pick ws fold.right_places) → StandsForJoin texts b new more
  right_takes more ws new fits f left right p q l r =
      let row : pick ws fold.right_places ≡ slice_index_or ws (place_of b s.right_col) (pos 0) ∷ ws = ap (pick ws) s.right_places ∙ kept_row b 1 s.right_col ws f.width in
      let all : keyed (place_of b s.right_col) (words_of 1 more) ≡ keyed (place_of b s.right_col) (words_of 1 rows) ++ (slice_index_or ws (place_of b s.right_col) (pos 0) ∷ ws) ∷ [] =
      ap (keyed (place_of b s.right_col)) right ∙ map-append (λ (us : List ℤ). slice_index_or us (place_of b s.right_col) (pos 0) ∷ us) (words_of 1 rows) (ws ∷ []) in
      record {
        left_col = s.left_col;
        right_col = s.right_col;
        shape = s.shape;
        left_places = p ∙ s.left_places;
        right_places = q ∙ s.right_places;
        left = l ∙ (s.left ∙ (λ i. record { width = suc (length (carried_of b 0)); rows = keyed (place_of b s.left_col) (sym left i) }));
        right = r ∙ ((λ i. with_row (s.right i) (row i)) ∙ (λ i. record { width = suc (length (carried_of b 1)); rows = sym all i }));
        fits = fits;
      }

-- lists of pairs
filter-flat_map : {X Y : Type 0} (p : Y → Bool) (f : X → List Y) (xs : List X) → filter p (flat_map f xs) ≡ flat_map (λ x. filter p (f x)) xs
filter-flat_map p f [] = refl
filter-flat_map p f (x ∷ xs) = filter-append p (f x) (flat_map f xs) ∙ ap (λ ys. filter p (f x) ++ ys) (filter-flat_map p f xs)

map-flat_map : {X Y Z : Type 0} (g : Y → Z) (f : X → List Y) (xs : List X) → map g (flat_map f xs) ≡ flat_map (λ x. map g (f x)) xs
map-flat_map g f [] = refl
map-flat_map g f (x ∷ xs) = map-append g (f x) (flat_map f xs) ∙ ap (λ ys. map g (f x) ++ ys) (map-flat_map g f xs)

flat_map-map : {X Y Z : Type 0} (f : Y → List Z) (g : X → Y) (xs : List X) → flat_map f (map g xs) ≡ flat_map (λ x. f (g x)) xs
flat_map-map f g [] = refl
flat_map-map f g (x ∷ xs) = ap (λ ys. f (g x) ++ ys) (flat_map-map f g xs)

flat_map-same : {X Y : Type 0} (f g : X → List Y) → ((x : X) → f x ≡ g x) → (xs : List X) → flat_map f xs ≡ flat_map g xs
flat_map-same f g h [] = refl
flat_map-same f g h (x ∷ xs) = λ i. h x i ++ flat_map-same f g h xs i

filter-same : {X : Type 0} (p q : X → Bool) → ((x : X) → p x ≡ q x) → (xs : List X) → filter p xs ≡ filter q xs
filter-same p q h [] = refl
filter-same p q h (x ∷ xs) = λ i. cond (h x i) (x ∷ filter-same p q h xs i) (filter-same p q h xs i)

and_turned : (s t : Bool) → (s && t) ≡ (t && s)
and_turned true true = refl
and_turned true false = refl
and_turned false true = refl
and_turned false false = refl

-- a member of a list of lists
In-flat_map : {X Y : Type 0} (f : X → List Y) (y : Y) (xs : List X) → In y (flat_map f xs) → (x : X) × In x xs × In y (f x)
In-flat_map f y [] i = absurd i
In-flat_map f y (x ∷ xs) i = elim (In-append y (f x) (flat_map f xs) i) [
  | inl j ↦ (x, inl refl, j)
  | inr j ↦ let h = In-flat_map f y xs j in (h.0, inr h.1, h.2)
]

none_fits : (texts : List (List ℕ)) (b : Bound) (s : Shape) (left right : Col) → s ≡ shape.Join left right → FitsWord texts (best_kind b s) (pos 0)
none_fits texts b s left right e = subst (λ (t : Shape). FitsWord texts (best_kind b t) (pos 0)) (sym e) (λ k. absurd (cc k))

beyond : {X : Type 0} (xs : List (List X)) (n : ℕ) → length xs ≤ n → slice_index_or xs n [] ≡ []
beyond [] n h = refl
beyond (x ∷ xs) zero h = absurd (omega (arith, h))
beyond (x ∷ xs) (suc n) h = beyond xs n (omega (arith, h))

-- the words of a left and of a right row fit as those of their pair
pair_fits : (texts : List (List ℕ)) (b : Bound) (left right : List ℤ) → length b.carried ≤ 2 → RowFits texts b 0 left → RowFits texts b 1 right → WordsFit texts b (both (words_seen b left) (words_seen b right))
pair_fits texts b left right two f g zero at h = f.words at (of_pair b.shape (IsCarried b) 0 at h)
pair_fits texts b left right two f g (suc zero) at h = g.words at (of_pair b.shape (IsCarried b) 1 at h)
pair_fits texts b left right two f g (suc (suc n)) at h =
    absurd (subst (λ (cols : List ℕ). In at cols) (beyond b.carried (suc (suc n)) (omega (arith, two))) (of_pair b.shape (IsCarried b) (suc (suc n)) at h))

row_of_words : (texts : List (List ℕ)) (b : Bound) (side : ℕ) (rows : List Row) (ws : List ℤ) → RowsFit texts b rows → In ws (words_of side rows) → RowFits texts b side ws
row_of_words texts b side rows ws fits i =
    let m = In-map (λ (r : Row). r.words) ws (filter (λ r. r.side == side) rows) i in
    let g = In-filter (λ (r : Row). r.side == side) m.0 rows m.1 in
    subst (λ (us : List ℤ). RowFits texts b side us) (sym m.2) (subst (λ (n : ℕ). RowFits texts b n m.0.words) (eqb-true m.0.side side g.1) (fits m.0 g.0))

keyed_all : (place : ℕ) (wss : List (List ℤ)) → Each IsKeyed (keyed place wss)
keyed_all place wss row i = let m = In-map (λ (ws : List ℤ). slice_index_or ws place (pos 0) ∷ ws) row wss i in (slice_index_or m.0 place (pos 0), m.0, m.2)

module _ (texts : List (List ℕ)) (b : Bound) (rows : List Row) (fold : JoinFold) (s : StandsForJoin texts b fold rows) (sound : IsSound b) where
  abbrev lefts : List (List ℤ)
  lefts = keyed (place_of b s.left_col) (words_of 0 rows)

  abbrev rights : List (List ℤ)
  rights = keyed (place_of b s.right_col) (words_of 1 rows)

  abbrev cmp_rows : List (List ℤ) → List (List ℤ)
  cmp_rows rs = ordered (slice_cmp int_cmp) rs

  lefts_are : fold.left.rows ≡ lefts
  lefts_are = ap (λ (f : Flat). f.rows) s.left

  rights_are : fold.right.rows ≡ rights
  rights_are = ap (λ (f : Flat). f.rows) s.right

  two : length b.carried ≤ 2
  two = omega (arith, sound.tables.1 ∙ ap sides_of s.shape)

  sided : (s.left_col.side ≡ 0) × (s.right_col.side ≡ 1)
  sided = subst (λ (t : Shape). AreSided t (outer_named b)) s.shape sound.sides

  pub left_rise : (kept : List (List ℤ)) → kept ≡ cmp_rows fold.left.rows → KeysRise kept
  left_rise kept e = subst KeysRise (sym (e ∙ ap cmp_rows lefts_are)) (ordered_rise lefts (keyed_all (place_of b s.left_col) (words_of 0 rows)))

  pub right_rise : (kept : List (List ℤ)) → kept ≡ cmp_rows fold.right.rows → KeysRise kept
  right_rise kept e = subst KeysRise (sym (e ∙ ap cmp_rows rights_are)) (ordered_rise rights (keyed_all (place_of b s.right_col) (words_of 1 rows)))

  kept_fit : (l r : List ℤ) → In l lefts → In r rights → WordsFit texts b (pair_seen b l r)
  kept_fit l r i j =
      let m = In-map (λ (ws : List ℤ). slice_index_or ws (place_of b s.left_col) (pos 0) ∷ ws) l (words_of 0 rows) i in
      let n = In-map (λ (ws : List ℤ). slice_index_or ws (place_of b s.right_col) (pos 0) ∷ ws) r (words_of 1 rows) j in
      subst (λ (z : List ℤ). WordsFit texts b (pair_seen b z r)) (sym m.2)
      (subst (λ (z : List ℤ). WordsFit texts b (pair_seen b (slice_index_or m.0 (place_of b s.left_col) (pos 0) ∷ m.0) z)) (sym n.2)
      (pair_fits texts b m.0 n.0 two (row_of_words texts b 0 rows m.0 s.fits m.1) (row_of_words texts b 1 rows n.0 s.fits n.1)))

  pub pairs_fit : (left right : List (List ℤ)) → left ≡ cmp_rows fold.left.rows → right ≡ cmp_rows fold.right.rows → (l r : List ℤ) → In l left → In r right → WordsFit texts b (pair_seen b l r)
  pairs_fit left right e f l r i j =
      kept_fit l r (ordered-In (slice_cmp int_cmp) l lefts (subst (λ (z : List (List ℤ)). In l z) (e ∙ ap cmp_rows lefts_are) i))
      (ordered-In (slice_cmp int_cmp) r rights (subst (λ (z : List (List ℤ)). In r z) (f ∙ ap cmp_rows rights_are) j))

  -- the same pairs in whatever order the rows come
  pairs_bag : SameBag (pair_lines texts b (cmp_rows lefts) (cmp_rows rights)) (pair_lines texts b lefts rights)
  pairs_bag = SameBag-flat_map (partner_lines texts b (cmp_rows rights)) (partner_lines texts b rights) (cmp_rows lefts) lefts
      (λ l. SameBag-map (λ r. line b.printed (pos 0) (pair_seen b l r)) (filter (is_partner texts b l) (cmp_rows rights)) (filter (is_partner texts b l) rights)
      (SameBag-filter (is_partner texts b l) (cmp_rows rights) rights (ordered_keeps (slice_cmp int_cmp) rights)))
      (ordered_keeps (slice_cmp int_cmp) lefts)

  abbrev holds : View ℤ → Bool
  holds = (asked_of_words (reading texts b) b).holds

  abbrev equal_keys : View ℤ → Bool
  equal_keys p = is_eq (int_cmp (at p s.left_col) (at p s.right_col))

  abbrev print : View ℤ → List ℤ
  print p = line b.printed (pos 0) p

  abbrev seen : List ℤ → View ℤ
  seen ws = words_seen b ws

  left_at : (v w : View ℤ) → at (both v w) s.left_col ≡ at v s.left_col
  left_at v w = ap (λ n. cond (eqb n 0) (at v s.left_col) (at w s.left_col)) sided.0

  right_at : (v w : View ℤ) → at (both v w) s.right_col ≡ at w s.right_col
  right_at v w = ap (λ n. cond (eqb n 0) (at v s.right_col) (at w s.right_col)) sided.1

  -- what the pairs of one left row print, of the meaning
  abbrev of_left : List ℤ → List (List ℤ)
  of_left a = map (λ c. print (both (seen a) (seen c))) (filter (λ c. holds (both (seen a) (seen c)) && equal_keys (both (seen a) (seen c))) (words_of 1 rows))

  kept_left : (a : List ℤ) → partner_lines texts b rights (slice_index_or a (place_of b s.left_col) (pos 0) ∷ a) ≡ of_left a
  kept_left a =
      let own = slice_index_or a (place_of b s.left_col) (pos 0) ∷ a in
      let test : (c : List ℤ) → is_partner texts b own (slice_index_or c (place_of b s.right_col) (pos 0) ∷ c) ≡ (holds (both (seen a) (seen c)) && equal_keys (both (seen a) (seen c))) =
      λ c. and_turned (is_eq (int_cmp (at (seen a) s.left_col) (at (seen c) s.right_col))) (holds (both (seen a) (seen c)))
      ∙ (λ i. holds (both (seen a) (seen c)) && is_eq (int_cmp (sym (left_at (seen a) (seen c)) i) (sym (right_at (seen a) (seen c)) i))) in
      ap (map (λ r. print (pair_seen b own r)))
      (filter-map (λ (c : List ℤ). slice_index_or c (place_of b s.right_col) (pos 0) ∷ c) (is_partner texts b own) (λ c. holds (both (seen a) (seen c)) && equal_keys (both (seen a) (seen c))) test (words_of 1 rows))
      ∙ map-map (λ (c : List ℤ). slice_index_or c (place_of b s.right_col) (pos 0) ∷ c) (λ r. print (pair_seen b own r)) (filter (λ c. holds (both (seen a) (seen c)) && equal_keys (both (seen a) (seen c))) (words_of 1 rows))

  kept_pairs : pair_lines texts b lefts rights ≡ flat_map of_left (words_of 0 rows)
  kept_pairs = flat_map-map (partner_lines texts b rights) (λ (a : List ℤ). slice_index_or a (place_of b s.left_col) (pos 0) ∷ a) (words_of 0 rows)
      ∙ flat_map-same (λ a. partner_lines texts b rights (slice_index_or a (place_of b s.left_col) (pos 0) ∷ a)) of_left kept_left (words_of 0 rows)

  meant_left : (a : List ℤ) → map print (filter (λ p. holds p && equal_keys p) (map (both (seen a)) (map seen (words_of 1 rows)))) ≡ of_left a
  meant_left a =
      ap (λ ps. map print (filter (λ p. holds p && equal_keys p) ps)) (map-map seen (both (seen a)) (words_of 1 rows))
      ∙ (ap (map print) (filter-map (λ c. both (seen a) (seen c)) (λ p. holds p && equal_keys p) (λ c. holds (both (seen a) (seen c)) && equal_keys (both (seen a) (seen c))) (λ c. refl) (words_of 1 rows))
      ∙ map-map (λ c. both (seen a) (seen c)) print (filter (λ c. holds (both (seen a) (seen c)) && equal_keys (both (seen a) (seen c))) (words_of 1 rows)))

  meant_pairs : map print (filter equal_keys (filter holds (pairs (side_seen b 0 rows) (side_seen b 1 rows)))) ≡ flat_map of_left (words_of 0 rows)
  meant_pairs =
      (λ i. map print (filter equal_keys (filter holds (pairs (seen_words b 0 rows i) (seen_words b 1 rows i)))))
      ∙ (ap (map print) (filter-filter holds equal_keys (pairs (map seen (words_of 0 rows)) (map seen (words_of 1 rows))))
      ∙ (ap (map print) (filter-flat_map (λ p. holds p && equal_keys p) (λ a. map (both a) (map seen (words_of 1 rows))) (map seen (words_of 0 rows)))
      ∙ (map-flat_map print (λ a. filter (λ p. holds p && equal_keys p) (map (both a) (map seen (words_of 1 rows)))) (map seen (words_of 0 rows))
      ∙ (flat_map-map (λ a. map print (filter (λ p. holds p && equal_keys p) (map (both a) (map seen (words_of 1 rows))))) seen (words_of 0 rows)
      ∙ flat_map-same (λ a. map print (filter (λ p. holds p && equal_keys p) (map (both (seen a)) (map seen (words_of 1 rows))))) of_left meant_left (words_of 0 rows)))))

  answered : answer_over (reading texts b) b rows ≡ cmp_rows (pair_lines texts b lefts rights)
  answered =
      ap (λ (t : Shape). in_order int_cmp t (meaning_by t (asked_of_words (reading texts b) b) (side_seen b 0 rows) (side_seen b 1 rows))) s.shape
      ∙ ap cmp_rows (meant_pairs ∙ sym kept_pairs)

  line_fits : (l : List ℤ) → In l (pair_lines texts b lefts rights) → LineFits texts b l
  line_fits l i =
      let a = In-flat_map (partner_lines texts b rights) l lefts i in
      let c = In-map (λ r. print (pair_seen b a.0 r)) l (filter (is_partner texts b a.0) rights) a.2 in
      record {
        view = pair_seen b a.0 c.0;
        best = pos 0;
        fits = kept_fit a.0 c.0 a.1 (In-filter (is_partner texts b a.0) c.0 rights c.1).0;
        best_fits = none_fits texts b b.shape s.left_col s.right_col s.shape;
        is = c.2;
      }

  pub join_answer : (left right : List (List ℤ)) (flat : Flat) (lines : List (List ℤ)) (made : List (List Cell))
      → left ≡ cmp_rows fold.left.rows → right ≡ cmp_rows fold.right.rows → flat ≡ record { width = length b.printed; rows = pair_lines texts b left right }
      → made ≡ map (shown_line texts (printed_kinds b)) lines → lines ≡ cmp_rows flat.rows → made ≡ answer_read texts b rows
  join_answer left right flat lines made e f g m l =
      let sorted : lines ≡ cmp_rows (pair_lines texts b lefts rights) =
      l ∙ (ap (λ (q : Flat). cmp_rows q.rows) g ∙ ((λ i. cmp_rows (pair_lines texts b ((e ∙ ap cmp_rows lefts_are) i) ((f ∙ ap cmp_rows rights_are) i)))
      ∙ ordered_same (slice_cmp int_cmp) (lists_exact int_cmp ints_exact) (pair_lines texts b (cmp_rows lefts) (cmp_rows rights)) (pair_lines texts b lefts rights) pairs_bag)) in
      m ∙ (lines_shown texts b (printed_there b (sound_names b sound)) lines
      (λ ln i. line_fits ln (ordered-In (slice_cmp int_cmp) ln (pair_lines texts b lefts rights) (subst (λ (ls : List (List ℤ)). In ln ls) sorted i)))
      ∙ ap (λ (ls : List (List ℤ)). read_answer (reading texts b) b ls) (sorted ∙ sym answered))
