-- What the fold of a query with groups keeps, row by row, and the answer over it.
use Rattle.std.proofs.Common.{◌≡◌, ◌≢◌, ℕ, Bool, true, false, cond, List, [], ◌∷◌, ◌++◌, map, filter, length, refl, ap, sym, ◌∙◌, subst, inl, ℤ, pos}
use Rattle.std.specs.Prelude.{slice_index_or}
use Rattle.std.specs.Ordering.{int_cmp, is_lt}
use Rattle.std.specs.Cmp.Lexicographic.{slice_cmp}
use Rattle.std.specs.declared.cmp.Ordering.{Ordering}
use Rattle.std.proofs.lemmas.List.{map-append}
use Rattle.ch_lists.specs.Members.{In}
use Rattle.ch_lists.specs.Ordered.{directed, once, ordered, placed}
use Rattle.ch_lists.proofs.Bags.{SameBag-map}
use Rattle.ch_lists.proofs.Carried.{map-map}
use Rattle.ch_lists.proofs.Different.{among-from}
use Rattle.ch_lists.proofs.Members.{In-filter, In-map}
use Rattle.ch_lists.proofs.Orders.{ints_exact, lists_exact}
use Rattle.ch_lists.proofs.Sorting.{ordered_same}
use Rattle.ch_cells.specs.declared.Cell.{Cell}
use Rattle.ch_cover.specs.Rows.{Row}
use Rattle.ch_pred.specs.Meaning.{at, at_each, best_of, different_keys, head_or, in_order, key_seen, line, meaning_by, values_of}
use Rattle.ch_pred.specs.Sound.{IsCarried}
use Rattle.ch_pred.specs.Values.{View, words}
use Rattle.ch_pred.specs.declared.bound.Bound.{Bound}
use Rattle.ch_pred.specs.declared.bound.Shape.{Shape}
use Rattle.ch_pred.specs.declared.bound.Shape.TheVariants as shape
use Rattle.ch_pred.specs.declared.pred.Col.{Col}
use Rattle.ch_words.specs.Packets.{kinds_read}
use Rattle.ch_words.specs.Readings.{AllCols, AllPrinted, IsCol, NamesOnly, NamesShape, right_of, rows_have}
use Rattle.ch_words.specs.Rows.{answer_over, side_seen, words_seen}
use Rattle.ch_words.specs.Words.{asked_of_words, read_answer}
use Rattle.ch_word_cells.specs.Fits.{FitsWord, WordsFit}
use Rattle.ch_flat.specs.Flat.{Flat, pick}
use Rattle.ch_fold_laws.specs.Kept.{value_of}
use Rattle.ch_fold_lines.specs.Rows.{RowsFit, answer_read, held, reading}
use Rattle.ch_fold_lines.specs.Shown.{best_kind, printed_kinds, shown_line}
use Rattle.ch_fold_lines.proofs.WordFits.{words_fit}
use Rattle.ch_fold_lines.proofs.Held.{held_fits}
use Rattle.ch_fold_lines.proofs.Ordered.{bag_length, ordered-In}
use Rattle.ch_fold_lines.proofs.ShownLaws.{LineFits, lines_shown, printed_there}
use Rattle.ch_fold_groups.specs.Kept.{KeepsGroups, Valued}
use Rattle.ch_fold_groups.specs.Lines.{value_lines}
use Rattle.ch_fold_groups.specs.Group.{StandsForGroup, valued_keys}
use Rattle.ch_fold_groups.specs.declared.group.GroupFold.{GroupFold}
use Rattle.ch_fold_groups.proofs.KeyLines.{kept_length, kept_row, line_keys, pick_key, value_lines_are}
use Rattle.ch_fold_groups.proofs.Steps.{exact, is_key, kept_among, key_cmp, some_values}

pub group_alone : (s : Shape) (keys : List Col) (max : Bool) (value : Col) → s ≡ shape.Group keys max value → (left right : Col) → s ≢ shape.Join left right
group_alone s keys max value e left right f = cc

-- the best of some values is one of them
head_placed : (cmp : ℤ → ℤ → Ordering) (x : ℤ) (ys : List ℤ) → In (head_or (pos 0) (placed cmp x ys)) (placed cmp x ys)
head_placed cmp x [] = inl refl
head_placed cmp x (y ∷ ys) = go (is_lt (cmp y x))
  where
    go : (t : Bool) → In (head_or (pos 0) (cond t (y ∷ placed cmp x ys) (x ∷ y ∷ ys))) (cond t (y ∷ placed cmp x ys) (x ∷ y ∷ ys))
    go true = inl refl
    go false = inl refl

best_in : (max : Bool) (v : ℤ) (vs : List ℤ) → In (best_of words max (v ∷ vs)) (v ∷ vs)
best_in max v vs = ordered-In (directed max int_cmp) (best_of words max (v ∷ vs)) (v ∷ vs) (head_placed (directed max int_cmp) v (ordered (directed max int_cmp) vs))

-- the different keys of rows, whatever their values
pub keys_of : (keys : List Col) (f : View ℤ → ℤ) (rows : List (View ℤ)) → different_keys int_cmp (map (λ r. (at_each r keys, f r)) rows) ≡ once (slice_cmp int_cmp) (map (λ r. at_each r keys) rows)
keys_of keys f rows = ap (once (slice_cmp int_cmp)) (map-map (λ (r : View ℤ). (at_each r keys, f r)) (λ (g : List ℤ × ℤ). g.0) rows)

module _ (texts : List (List ℕ)) (b : Bound) (rows : List Row) (fold : GroupFold) (s : StandsForGroup texts b fold rows) where
  pub group_size : length fold.bests.keys ≡ length (once (slice_cmp int_cmp) (map (λ r. at_each r s.keys) (held texts b rows)))
  group_size = bag_length fold.bests.keys (different_keys int_cmp (valued_keys s.keys s.value (held texts b rows))) s.bests.keys ∙ ap length (keys_of s.keys (λ r. at r s.value) (held texts b rows))

  pub group_stays : (more : List Row) → RowsFit texts b more → held texts b more ≡ held texts b rows → StandsForGroup texts b fold more
  group_stays more fits same = record {
    keys = s.keys;
    max = s.max;
    value = s.value;
    shape = s.shape;
    direction = s.direction;
    key_places = s.key_places;
    value_place = s.value_place;
    printed_places = s.printed_places;
    bests = subst (λ (vs : List (View ℤ)). KeepsGroups (best_of words s.max) (valued_keys s.keys s.value vs) fold.bests) (sym same) s.bests;
    fits = fits;
  }

  pub group_before : KeepsGroups (best_of words fold.max) (valued_keys s.keys s.value (held texts b rows)) fold.bests
  group_before = subst (λ (m : Bool). KeepsGroups (best_of words m) (valued_keys s.keys s.value (held texts b rows)) fold.bests) (sym s.direction) s.bests

  pub group_takes : (more : List Row) (ws key : List ℤ) (v : ℤ) (bests : Valued ℤ) → RowsFit texts b more → held texts b more ≡ held texts b rows ++ words_seen b ws ∷ []
      → key ≡ pick ws fold.key_places → v ≡ slice_index_or ws fold.value_place (pos 0)
      → KeepsGroups (best_of words fold.max) (valued_keys s.keys s.value (held texts b rows) ++ (key, v) ∷ []) bests
      → StandsForGroup texts b (record { alloc = fold.alloc; max = fold.max; key_places = fold.key_places; value_place = fold.value_place; printed_places = fold.printed_places; bests = bests }) more
  group_takes more ws key v bests fits more_in key_is v_is kept =
      let row : (key, v) ≡ (at_each (words_seen b ws) s.keys, at (words_seen b ws) s.value) =
      λ i. ((key_is ∙ (ap (pick ws) s.key_places ∙ pick_key b ws s.keys)) i, (v_is ∙ ap (λ n. slice_index_or ws n (pos 0)) s.value_place) i) in
      let all : valued_keys s.keys s.value (held texts b rows) ++ (key, v) ∷ [] ≡ valued_keys s.keys s.value (held texts b more) =
      ap (λ g. valued_keys s.keys s.value (held texts b rows) ++ g ∷ []) row
      ∙ (sym (map-append (λ (r : View ℤ). (at_each r s.keys, at r s.value)) (held texts b rows) (words_seen b ws ∷ [])) ∙ ap (valued_keys s.keys s.value) (sym more_in)) in
      record {
        keys = s.keys;
        max = s.max;
        value = s.value;
        shape = s.shape;
        direction = s.direction;
        key_places = s.key_places;
        value_place = s.value_place;
        printed_places = s.printed_places;
        bests = subst (λ (gs : List (List ℤ × ℤ)). KeepsGroups (best_of words s.max) gs bests) all
            (subst (λ (m : Bool). KeepsGroups (best_of words m) (valued_keys s.keys s.value (held texts b rows) ++ (key, v) ∷ []) bests) s.direction kept);
        fits = fits;
      }

  abbrev groups : List (List ℤ × ℤ)
  groups = valued_keys s.keys s.value (held texts b rows)

  abbrev best_at : List ℤ → ℤ
  best_at k = value_of (best_of words s.max) groups k

  abbrev printed_line : List ℤ → List ℤ
  printed_line k = line b.printed (best_at k) (key_seen (pos 0) s.keys k)

  lines_are : value_lines fold.printed_places fold.bests.keys fold.bests.values ≡ map printed_line fold.bests.keys
  lines_are = (λ i. value_lines (s.printed_places i) fold.bests.keys (s.bests.values i))
      ∙ value_lines_are s.keys b.printed best_at fold.bests.keys (kept_length (best_of words s.max) s.keys (λ r. at r s.value) (held texts b rows) fold.bests s.bests)

  answered : answer_over (reading texts b) b rows ≡ ordered (slice_cmp int_cmp) (map printed_line fold.bests.keys)
  answered =
      ap (λ (t : Shape). in_order int_cmp t (meaning_by t (asked_of_words (reading texts b) b) (side_seen b 0 rows) (side_seen b 1 rows))) s.shape
      ∙ sym (ordered_same (slice_cmp int_cmp) (lists_exact int_cmp ints_exact) (map printed_line fold.bests.keys) (map printed_line (different_keys int_cmp groups))
      (SameBag-map printed_line fold.bests.keys (different_keys int_cmp groups) s.bests.keys))

  abbrev Named : Type 0
  Named = AllPrinted (IsCol s.keys) b.printed × AllCols (rows_have b.shape (IsCarried b)) s.keys × rows_have b.shape (IsCarried b) s.value.side s.value.at

  named : NamesOnly (IsCarried b) b → Named
  named names = subst (λ (t : Shape). NamesShape (rows_have b.shape (IsCarried b)) (right_of (IsCarried b)) b.printed t) s.shape names.shape

  view_fits : (v : View ℤ) → In v (held texts b rows) → WordsFit texts b v
  view_fits v i =
      let h = held_fits texts b rows v s.fits i in
      subst (λ (u : View ℤ). WordsFit texts b u) (sym h.2) (words_fit texts b h.0 (group_alone b.shape s.keys s.max s.value s.shape) h.1)

  -- the best value of a key is read as the value's column is
  best_fits : Named → (k : List ℤ) → In k fold.bests.keys → FitsWord texts (best_kind b b.shape) (best_at k)
  best_fits names k i =
      let some = some_values k groups (kept_among (best_of words s.max) groups fold.bests s.bests k (among-from key_cmp exact k fold.bests.keys i)) in
      let here : In (best_at k) (values_of int_cmp groups k) =
      subst (λ (vs : List ℤ). In (best_of words s.max vs) vs) (sym some.2) (best_in s.max some.0 some.1) in
      let g = In-map (λ (g : List ℤ × ℤ). g.1) (best_at k) (filter (λ g. is_key k g.0) groups) here in
      let v = In-map (λ (r : View ℤ). (at_each r s.keys, at r s.value)) g.0 (held texts b rows) (In-filter (λ (g : List ℤ × ℤ). is_key k g.0) g.0 groups g.1).0 in
      let own : FitsWord texts (kinds_read b b.shape s.value.side s.value.at) (at v.0 s.value) = view_fits v.0 v.1 s.value.side s.value.at names.2 in
      subst (λ (w : ℤ). FitsWord texts (best_kind b b.shape) w) (sym (g.2 ∙ ap (λ (q : List ℤ × ℤ). q.1) v.2))
      (subst (λ (t : Shape). FitsWord texts (best_kind b t) (at v.0 s.value)) (sym s.shape) own)

  line_fits : Named → (l : List ℤ) → In l (map printed_line fold.bests.keys) → LineFits texts b l
  line_fits names l i =
      let k = In-map printed_line l fold.bests.keys i in
      let v = kept_row (best_of words s.max) s.keys (λ r. at r s.value) (held texts b rows) fold.bests s.bests k.0 k.1 in
      record {
        view = v.0;
        best = best_at k.0;
        fits = view_fits v.0 v.1;
        best_fits = best_fits names k.0 k.1;
        is = k.2 ∙ (ap (λ (q : List ℤ). line b.printed (best_at k.0) (key_seen (pos 0) s.keys q)) v.2 ∙ line_keys s.keys v.0 (best_at k.0) b.printed names.0);
      }

  pub group_answer : NamesOnly (IsCarried b) b → (flat : Flat) (lines : List (List ℤ)) (made : List (List Cell))
      → flat ≡ record { width = length fold.printed_places; rows = value_lines fold.printed_places fold.bests.keys fold.bests.values }
      → made ≡ map (shown_line texts (printed_kinds b)) lines → lines ≡ ordered (slice_cmp int_cmp) flat.rows → made ≡ answer_read texts b rows
  group_answer names flat lines made f m l =
      let sorted : lines ≡ ordered (slice_cmp int_cmp) (map printed_line fold.bests.keys) = l ∙ ap (ordered (slice_cmp int_cmp)) (ap (λ (q : Flat). q.rows) f ∙ lines_are) in
      m ∙ (lines_shown texts b (printed_there b names) lines
      (λ ln i. line_fits (named names) ln (ordered-In (slice_cmp int_cmp) ln (map printed_line fold.bests.keys) (subst (λ (ls : List (List ℤ)). In ln ls) sorted i)))
      ∙ ap (λ (ls : List (List ℤ)). read_answer (reading texts b) b ls) (sorted ∙ sym answered))
