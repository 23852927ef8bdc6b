-- What one row more changes of the rows that hold.
use Rattle.std.proofs.Common.{◌≡◌, ◌≢◌, ◌≤◌, ℕ, ◌==◌, Bool, true, false, cond, List, [], ◌∷◌, ◌++◌, map, filter, length, refl, ap, sym, ◌∙◌, subst, arith, inl, inr, ℤ, pos}
use Rattle.std.specs.Prelude.{slice_index_or}
use Rattle.std.proofs.lemmas.Bool.{eqb-true}
use Rattle.std.proofs.lemmas.Bool.Decides.{nat_tests}
use Rattle.std.proofs.lemmas.List.{map-append, length-map}
use Rattle.std.proofs.lemmas.List.Elements.{filter-append}
use Rattle.ch_lists.specs.Members.{In, Each}
use Rattle.ch_lists.proofs.Members.{In-map, In-filter}
use Rattle.ch_cover.specs.Rows.{Row}
use Rattle.ch_pred.specs.Meaning.{line}
use Rattle.ch_pred.specs.Sound.{carried_of}
use Rattle.ch_pred.specs.Values.{View}
use Rattle.ch_pred.specs.declared.bound.Bound.{Bound}
use Rattle.ch_pred.specs.declared.bound.Printed.{Printed}
use Rattle.ch_pred.specs.declared.bound.Printed.TheVariants as printed
use Rattle.ch_words.specs.Rows.{row_seen, side_seen, words_seen}
use Rattle.ch_words.specs.Words.{asked_of_words}
use Rattle.ch_flat.specs.Flat.{pick}
use Rattle.ch_fold_lines.specs.Rows.{RowFits, RowsFit, held, held_lines, printed_place, reading}

pub seen_is : (b : Bound) (r : Row) (ws : List ℤ) → r.words ≡ ws → row_seen b r ≡ words_seen b ws
unfolding row_seen
seen_is b r ws e = ap (words_seen b) e

pub side_more : (b : Bound) (side : ℕ) (rows more : List Row) → side_seen b side (rows ++ more) ≡ side_seen b side rows ++ side_seen b side more
side_more b side rows more = ap (map (row_seen b)) (filter-append (λ r. r.side == side) rows more) ∙ map-append (row_seen b) _ _

pub nothing_more : {X : Type 0} (xs : List X) → xs ++ [] ≡ xs
nothing_more [] = refl
nothing_more (x ∷ xs) = ap (λ ys. x ∷ ys) (nothing_more xs)

pub each_more : {X : Type 0} (P : X → Type 0) (xs : List X) (y : X) → Each P xs → P y → Each P (xs ++ y ∷ [])
each_more P [] y all p x (inl e) = subst P (sym e) p
each_more P [] y all p x (inr i) = absurd i
each_more P (z ∷ xs) y all p x (inl e) = all x (inl e)
each_more P (z ∷ xs) y all p x (inr i) = each_more P xs y (λ w j. all w (inr j)) p x i

-- the rows of one side
one_of_side : (b : Bound) (side : ℕ) (r : Row) (own : Bool) → (r.side == side) ≡ own → side_seen b side (r ∷ []) ≡ cond own (row_seen b r ∷ []) []
one_of_side b side r own e = ap (λ o. map (row_seen b) (cond o (r ∷ []) [])) e ∙ go own
  where
    go : (o : Bool) → map (row_seen b) (cond o (r ∷ []) []) ≡ cond o (row_seen b r ∷ []) []
    go true = refl
    go false = refl

pub side_other : (b : Bound) (side : ℕ) (rows : List Row) (r : Row) → r.side ≢ side → side_seen b side (rows ++ r ∷ []) ≡ side_seen b side rows
side_other b side rows r other =
    let not_own : (r.side == side) ≡ false = grind (arith, nat_tests) in
    side_more b side rows (r ∷ []) ∙ (ap (λ vs. side_seen b side rows ++ vs) (one_of_side b side r false not_own) ∙ nothing_more (side_seen b side rows))

pub side_in : (b : Bound) (side : ℕ) (rows : List Row) (r : Row) (ws : List ℤ) → r.side ≡ side → r.words ≡ ws → side_seen b side (rows ++ r ∷ []) ≡ side_seen b side rows ++ words_seen b ws ∷ []
side_in b side rows r ws e words =
    let own : (r.side == side) ≡ true = grind (arith, nat_tests) in
    side_more b side rows (r ∷ []) ∙ ap (λ vs. side_seen b side rows ++ vs) (one_of_side b side r true own ∙ ap (λ v. v ∷ []) (seen_is b r ws words))

module _ (texts : List (List ℕ)) (b : Bound) (rows : List Row) (r : Row) where
  abbrev holds : View ℤ → Bool
  holds = (asked_of_words (reading texts b) b).holds

  pub held_other : r.side ≢ 0 → held texts b (rows ++ r ∷ []) ≡ held texts b rows
  held_other other = ap (filter holds) (side_other b 0 rows r other)

  one_held : (v : View ℤ) (h : Bool) → holds v ≡ h → filter holds (side_seen b 0 rows ++ v ∷ []) ≡ held texts b rows ++ cond h (v ∷ []) []
  one_held v h e = filter-append holds (side_seen b 0 rows) (v ∷ []) ∙ ap (λ t. held texts b rows ++ cond t (v ∷ []) []) e

  pub held_out : (ws : List ℤ) → r.side ≡ 0 → r.words ≡ ws → holds (words_seen b ws) ≡ false → held texts b (rows ++ r ∷ []) ≡ held texts b rows
  held_out ws e words out = ap (filter holds) (side_in b 0 rows r ws e words) ∙ (one_held (words_seen b ws) false out ∙ nothing_more (held texts b rows))

  pub held_in : (ws : List ℤ) → r.side ≡ 0 → r.words ≡ ws → holds (words_seen b ws) ≡ true → held texts b (rows ++ r ∷ []) ≡ held texts b rows ++ words_seen b ws ∷ []
  held_in ws e words ok = ap (filter holds) (side_in b 0 rows r ws e words) ∙ one_held (words_seen b ws) true ok

  -- and all rows fit
  pub fits_more : (side : ℕ) (ws : List ℤ) → r.side ≡ side → r.words ≡ ws → RowFits texts b side ws → RowsFit texts b rows → RowsFit texts b (rows ++ r ∷ [])
  fits_more side ws e words f fits = each_more (λ (q : Row). RowFits texts b q.side q.words) rows r fits
      (subst (λ (n : ℕ). RowFits texts b n r.words) (sym e) (subst (λ (vs : List ℤ). RowFits texts b side vs) (sym words) f))

-- a row that holds is one of those that came
pub held_fits : (texts : List (List ℕ)) (b : Bound) (rows : List Row) (v : View ℤ) → RowsFit texts b rows → In v (held texts b rows) → (ws : List ℤ) × RowFits texts b 0 ws × (v ≡ words_seen b ws)
held_fits texts b rows v fits i =
    let f = In-filter (asked_of_words (reading texts b) b).holds v (side_seen b 0 rows) i in
    let m = In-map (row_seen b) v (filter (λ r. r.side == 0) rows) f.0 in
    let g = In-filter (λ (r : Row). r.side == 0) m.0 rows m.1 in
    (m.0.words, subst (λ (n : ℕ). RowFits texts b n m.0.words) (eqb-true m.0.side 0 g.1) (fits m.0 g.0), m.2 ∙ seen_is b m.0 m.0.words refl)

past : (ws : List ℤ) → slice_index_or ws (length ws) (pos 0) ≡ pos 0
past [] = refl
past (w ∷ ws) = past ws

-- the picked words of a row are what it prints
pub pick_line : (b : Bound) (ws : List ℤ) → length ws ≡ length (carried_of b 0) → (items : List Printed) → pick ws (map (printed_place b) items) ≡ line items (pos 0) (words_seen b ws)
pick_line b ws e [] = refl
pick_line b ws e (printed.Column c ∷ items) = ap (λ vs. words_seen b ws c.side c.at ∷ vs) (pick_line b ws e items)
pick_line b ws e (printed.Best ∷ items) = λ i. (ap (λ k. slice_index_or ws k (pos 0)) (sym e) ∙ past ws) i ∷ pick_line b ws e items i

pub filter_short : {X : Type 0} (p : X → Bool) (xs : List X) → length (filter p xs) ≤ length xs
filter_short p [] = omega arith
filter_short {X} p (x ∷ xs) = go (p x) (filter_short p xs)
  where
    go : (t : Bool) → length (filter p xs) ≤ length xs → length (cond t (x ∷ filter p xs) (filter p xs)) ≤ length (x ∷ xs)
    go true h = omega arith
    go false h = omega arith

pub side_short : (b : Bound) (side : ℕ) (rows : List Row) → length (side_seen b side rows) ≤ length rows
side_short b side rows = omega (arith, length-map (filter (λ (r : Row). r.side == side) rows) (row_seen b), filter_short (λ (r : Row). r.side == side) rows)

-- no more rows hold than came
pub held_short : (texts : List (List ℕ)) (b : Bound) (rows : List Row) → length (held texts b rows) ≤ length rows
held_short texts b rows = omega (arith, filter_short (asked_of_words (reading texts b) b).holds (side_seen b 0 rows), side_short b 0 rows)

pub lines_short : (texts : List (List ℕ)) (b : Bound) (rows : List Row) → length (held_lines texts b rows) ≤ length rows
lines_short texts b rows = omega (arith, length-map (held texts b rows) (line b.printed (pos 0)), held_short texts b rows)
