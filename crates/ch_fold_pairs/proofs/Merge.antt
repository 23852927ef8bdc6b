-- Rows in the order of their keys: where those of a key begin and end.
use Rattle.std.proofs.Common.{◌≡◌, ℕ, zero, suc, ◌+◌, ◌<◌, ◌≤◌, Bool, true, false, cond, ◌&&◌, List, [], ◌∷◌, ◌++◌, map, filter, take, drop, length, get_or, refl, ap, sym, ◌∙◌, subst, inl, inr, append_assoc, arith, add-one, drop-cons, ℤ, pos, ◌≤ℤ◌, ◌<ℤ◌}
use Rattle.std.specs.Prelude.{int_lt}
use Rattle.std.specs.Ordering.{int_cmp, is_eq, is_lt, ordering_then}
use Rattle.std.specs.declared.cmp.Ordering.{Ordering}
use Rattle.std.specs.Cmp.Lexicographic.{slice_cmp}
use Rattle.std.proofs.lemmas.Int.{ints}
use Rattle.std.proofs.lemmas.List.{take_more}
use Rattle.std.proofs.lemmas.List.Concat.{flat_map-append}
use Rattle.ch_lists.specs.Members.{In, Each}
use Rattle.ch_lists.specs.Ordered.{ordered, placed}
use Rattle.ch_words.proofs.JoinCover.{filter-filter}
use Rattle.ch_pred.specs.Meaning.{line}
use Rattle.ch_pred.specs.declared.bound.Bound.{Bound}
use Rattle.ch_words.specs.Words.{asked_of_words}
use Rattle.ch_fold_lines.specs.Rows.{reading}
use Rattle.ch_flat.specs.Flat.{Flat}
use Rattle.ch_fold_lines.proofs.Held.{nothing_more}
use Rattle.ch_fold_lines.proofs.Ordered.{ordered-In}
use Rattle.ch_fold_pairs.specs.Pairs.{KeysRise, has_key, is_partner, key_in, pair_lines, pair_seen, partner_lines}

pub drop_next : (rows : List (List ℤ)) (at : ℕ) → at < length rows → drop at rows ≡ get_or rows at [] ∷ drop (at + 1) rows
drop_next rows at h = rw (add-one, drop-cons rows at []) refl

pub past : (rows : List (List ℤ)) (at : ℕ) → length rows ≤ at → drop at rows ≡ []
past [] zero h = refl
past [] (suc at) h = refl
past (r ∷ rows) zero h = absurd (omega (arith, h))
past (r ∷ rows) (suc at) h = past rows at (omega (arith, h))

pub rise_drop : (at : ℕ) (rows : List (List ℤ)) → KeysRise rows → KeysRise (drop at rows)
rise_drop zero rows rise = rise
rise_drop (suc at) [] rise = rise
rise_drop (suc at) (r ∷ rows) rise = rise_drop at rows rise.1

-- a key that is below, or above
below : (key k x : ℤ) → x <ℤ key → key ≤ℤ k → is_eq (int_cmp k x) ≡ false
below key k x h l = grind (arith, ints)

above : (k x : ℤ) → k <ℤ x → is_eq (int_cmp k x) ≡ false
above k x h = grind (arith, ints)

pub lt_from : (x y : ℤ) → int_lt x y ≡ true → x <ℤ y
lt_from x y h = grind (arith, ints)

-- rows before the first that isn't below a key
pub passed_more : (rows : List (List ℤ)) (key : ℤ) (at : ℕ) → at < length rows → key_in (get_or rows at []) <ℤ key → (k : ℤ) → key ≤ℤ k → filter (has_key k) (drop at rows) ≡ filter (has_key k) (drop (at + 1) rows)
passed_more rows key at h lt k le = ap (filter (has_key k)) (drop_next rows at h)
    ∙ ap (λ t. cond t (get_or rows at [] ∷ filter (has_key k) (drop (at + 1) rows)) (filter (has_key k) (drop (at + 1) rows))) (below key k (key_in (get_or rows at [])) lt le)

module _ (texts : List (List ℕ)) (b : Bound) where
  abbrev printed : List ℤ → List ℤ → List ℤ
  printed left right = line b.printed (pos 0) (pair_seen b left right)

  abbrev holds : List ℤ → List ℤ → Bool
  holds left right = (asked_of_words (reading texts b) b).holds (pair_seen b left right)

  -- only the rows of its key tell the partners of a row
  pub partners_told : (left : List ℤ) (xs ys : List (List ℤ)) → filter (has_key (key_in left)) xs ≡ filter (has_key (key_in left)) ys → partner_lines texts b xs left ≡ partner_lines texts b ys left
  partners_told left xs ys e =
      ap (map (printed left)) (sym (filter-filter (has_key (key_in left)) (holds left) xs) ∙ (ap (filter (holds left)) e ∙ filter-filter (has_key (key_in left)) (holds left) ys))

  pub partners_next : (left r : List ℤ) (rows : List (List ℤ)) (t : Bool) → is_partner texts b left r ≡ t → partner_lines texts b (r ∷ rows) left ≡ cond t (printed left r ∷ partner_lines texts b rows left) (partner_lines texts b rows left)
  partners_next left r rows t e = ap (λ u. map (printed left) (cond u (r ∷ filter (is_partner texts b left) rows) (filter (is_partner texts b left) rows))) e ∙ go t
    where
      go : (u : Bool) → map (printed left) (cond u (r ∷ filter (is_partner texts b left) rows) (filter (is_partner texts b left) rows)) ≡ cond u (printed left r ∷ partner_lines texts b rows left) (partner_lines texts b rows left)
      go true = refl
      go false = refl

  -- no row from the first one above the key on is a partner
  none_above : (left : List ℤ) (rows : List (List ℤ)) → Each (λ r. key_in left <ℤ key_in r) rows → partner_lines texts b rows left ≡ []
  none_above left [] all = refl
  none_above left (r ∷ rows) all =
      partners_next left r rows false (ap (λ t. t && (asked_of_words (reading texts b) b).holds (pair_seen b left r)) (above (key_in left) (key_in r) (all r (inl refl))))
      ∙ none_above left rows (λ q i. all q (inr i))

  later : (k x y : ℤ) → k <ℤ x → x ≤ℤ y → k <ℤ y
  later k x y h l = omega (arith, ints, h, l)

  all_later : (left r : List ℤ) (rest : List (List ℤ)) → key_in left <ℤ key_in r → KeysRise (r ∷ rest) → Each (λ q. key_in left <ℤ key_in q) (r ∷ rest)
  all_later left r rest h rise q (inl e) = subst (λ (z : List ℤ). key_in left <ℤ key_in z) (sym e) h
  all_later left r rest h rise q (inr i) = later (key_in left) (key_in r) (key_in q) h (rise.0 q i)

  pub partners_end : (left : List ℤ) (rows : List (List ℤ)) (at : ℕ) → at < length rows → KeysRise rows → key_in left <ℤ key_in (get_or rows at []) → partner_lines texts b (drop at rows) left ≡ []
  partners_end left rows at h rise lt =
      ap (λ rs. partner_lines texts b rs left) (drop_next rows at h)
      ∙ none_above left (get_or rows at [] ∷ drop (at + 1) rows) (all_later left (get_or rows at []) (drop (at + 1) rows) lt (subst KeysRise (drop_next rows at h) (rise_drop at rows rise)))

  pub partners_past : (left : List ℤ) (rows : List (List ℤ)) (at : ℕ) → length rows ≤ at → partner_lines texts b (drop at rows) left ≡ []
  partners_past left rows at h = ap (λ rs. partner_lines texts b rs left) (past rows at h)

  -- one right row more is looked at
  pub partner_step : (left : List ℤ) (rows : List (List ℤ)) (at : ℕ) (before after total : List (List ℤ)) → at < length rows → is_partner texts b left (get_or rows at []) ≡ true → after ≡ before ++ printed left (get_or rows at []) ∷ []
      → before ++ partner_lines texts b (drop at rows) left ≡ total → after ++ partner_lines texts b (drop (at + 1) rows) left ≡ total
  partner_step left rows at before after total h t a e =
      (λ i. a i ++ partner_lines texts b (drop (at + 1) rows) left)
      ∙ (append_assoc before (printed left (get_or rows at []) ∷ []) (partner_lines texts b (drop (at + 1) rows) left)
      ∙ (ap (λ ls. before ++ ls) (sym (ap (λ rs. partner_lines texts b rs left) (drop_next rows at h) ∙ partners_next left (get_or rows at []) (drop (at + 1) rows) true t)) ∙ e))

  pub other_step : (left : List ℤ) (rows : List (List ℤ)) (at : ℕ) (before total : List (List ℤ)) → at < length rows → is_partner texts b left (get_or rows at []) ≡ false
      → before ++ partner_lines texts b (drop at rows) left ≡ total → before ++ partner_lines texts b (drop (at + 1) rows) left ≡ total
  other_step left rows at before total h t e =
      ap (λ ls. before ++ ls) (sym (ap (λ rs. partner_lines texts b rs left) (drop_next rows at h) ∙ partners_next left (get_or rows at []) (drop (at + 1) rows) false t)) ∙ e

  -- one left row more is looked at
  pub pairs_more : (lefts rights : List (List ℤ)) (at : ℕ) → at < length lefts → pair_lines texts b (take (at + 1) lefts) rights ≡ pair_lines texts b (take at lefts) rights ++ partner_lines texts b rights (get_or lefts at [])
  pairs_more lefts rights at h =
      ap (λ rs. pair_lines texts b rs rights) (take_more lefts at [] h)
      ∙ (flat_map-append (partner_lines texts b rights) (take at lefts) (get_or lefts at [] ∷ []) ∙ ap (λ ls. pair_lines texts b (take at lefts) rights ++ ls) (one (partner_lines texts b rights (get_or lefts at []))))
    where
      one : (ls : List (List ℤ)) → ls ++ [] ≡ ls
      one [] = refl
      one (l ∷ ls) = ap (λ ms. l ∷ ms) (one ls)

-- rows in order have their keys in order
abbrev pub IsKeyed : List ℤ → Type 0
IsKeyed row = (key : ℤ) × (rest : List ℤ) × (row ≡ key ∷ rest)

lt_le : (x y : ℤ) (o : Ordering) → is_lt (ordering_then (int_cmp x y) o) ≡ true → x ≤ℤ y
lt_le x y o h = grind (arith, ints)

not_lt_le : (x y : ℤ) (o : Ordering) → is_lt (ordering_then (int_cmp x y) o) ≡ false → y ≤ℤ x
not_lt_le x y o h = grind (arith, ints)

keys_lt : (x y : List ℤ) → IsKeyed x → IsKeyed y → is_lt (slice_cmp int_cmp y x) ≡ true → key_in y ≤ℤ key_in x
keys_lt x y kx ky t =
    let t' : is_lt (slice_cmp int_cmp (ky.0 ∷ ky.1) (kx.0 ∷ kx.1)) ≡ true = (λ i. is_lt (slice_cmp int_cmp (sym ky.2 i) (sym kx.2 i))) ∙ t in
    subst (λ (z : List ℤ). key_in z ≤ℤ key_in x) (sym ky.2) (subst (λ (z : List ℤ). ky.0 ≤ℤ key_in z) (sym kx.2) (lt_le ky.0 kx.0 (slice_cmp int_cmp ky.1 kx.1) t'))

keys_not_lt : (x y : List ℤ) → IsKeyed x → IsKeyed y → is_lt (slice_cmp int_cmp y x) ≡ false → key_in x ≤ℤ key_in y
keys_not_lt x y kx ky t =
    let t' : is_lt (slice_cmp int_cmp (ky.0 ∷ ky.1) (kx.0 ∷ kx.1)) ≡ false = (λ i. is_lt (slice_cmp int_cmp (sym ky.2 i) (sym kx.2 i))) ∙ t in
    subst (λ (z : List ℤ). key_in x ≤ℤ key_in z) (sym ky.2) (subst (λ (z : List ℤ). key_in z ≤ℤ ky.0) (sym kx.2) (not_lt_le ky.0 kx.0 (slice_cmp int_cmp ky.1 kx.1) t'))

placed-In : (w x : List ℤ) (ys : List (List ℤ)) → In w (placed (slice_cmp int_cmp) x ys) → In w (x ∷ ys)
placed-In w x [] i = i
placed-In w x (y ∷ ys) i = go (is_lt (slice_cmp int_cmp y x)) (placed-In w x ys) i
  where
    go : (t : Bool) → (In w (placed (slice_cmp int_cmp) x ys) → In w (x ∷ ys)) → In w (cond t (y ∷ placed (slice_cmp int_cmp) x ys) (x ∷ y ∷ ys)) → In w (x ∷ y ∷ ys)
    go true ih (inl e) = inr (inl e)
    go true ih (inr j) = elim (ih j) [ inl e ↦ inl e | inr k ↦ inr (inr k) ]
    go false ih j = j

le_trans : (x y z : ℤ) → x ≤ℤ y → y ≤ℤ z → x ≤ℤ z
le_trans x y z h l = omega (arith, ints, h, l)

rise_placed : (x : List ℤ) (ys : List (List ℤ)) → IsKeyed x → Each IsKeyed ys → KeysRise ys → KeysRise (placed (slice_cmp int_cmp) x ys)
rise_placed x [] kx all rise = ((λ r i. absurd i), tt)
rise_placed x (y ∷ ys) kx all rise = go (is_lt (slice_cmp int_cmp y x)) refl (rise_placed x ys kx (λ r i. all r (inr i)) rise.1)
  where
    low : is_lt (slice_cmp int_cmp y x) ≡ true → (r : List ℤ) → In r (x ∷ ys) → key_in y ≤ℤ key_in r
    low e r (inl s) = subst (λ (z : List ℤ). key_in y ≤ℤ key_in z) (sym s) (keys_lt x y kx (all y (inl refl)) e)
    low e r (inr i) = rise.0 r i

    high : is_lt (slice_cmp int_cmp y x) ≡ false → (r : List ℤ) → In r (y ∷ ys) → key_in x ≤ℤ key_in r
    high e r (inl s) = subst (λ (z : List ℤ). key_in x ≤ℤ key_in z) (sym s) (keys_not_lt x y kx (all y (inl refl)) e)
    high e r (inr i) = le_trans (key_in x) (key_in y) (key_in r) (keys_not_lt x y kx (all y (inl refl)) e) (rise.0 r i)

    go : (t : Bool) → is_lt (slice_cmp int_cmp y x) ≡ t → KeysRise (placed (slice_cmp int_cmp) x ys) → KeysRise (cond t (y ∷ placed (slice_cmp int_cmp) x ys) (x ∷ y ∷ ys))
    go true e ih = ((λ r i. low e r (placed-In r x ys i)), ih)
    go false e ih = (high e, rise)

pub ordered_rise : (rows : List (List ℤ)) → Each IsKeyed rows → KeysRise (ordered (slice_cmp int_cmp) rows)
ordered_rise [] all = tt
ordered_rise (r ∷ rows) all = rise_placed r (ordered (slice_cmp int_cmp) rows) (all r (inl refl)) (λ q i. all q (inr (ordered-In (slice_cmp int_cmp) q rows i))) (ordered_rise rows (λ q i. all q (inr i)))

-- what holds from a row on, of the rows after it
pub rise_at : (rows : List (List ℤ)) (at : ℕ) → at < length rows → KeysRise rows → (r : List ℤ) → In r (drop (at + 1) rows) → key_in (get_or rows at []) ≤ℤ key_in r
rise_at rows at h rise r i = (subst KeysRise (drop_next rows at h) (rise_drop at rows rise)).0 r i

pub In-drop : (rows : List (List ℤ)) (at : ℕ) → at < length rows → (r : List ℤ) → In r (drop (at + 1) rows) → In r (drop at rows)
In-drop rows at h r i = subst (λ (rs : List (List ℤ)). In r rs) (sym (drop_next rows at h)) (inr i)

pub In-got : (rows : List (List ℤ)) (at : ℕ) → at < length rows → In (get_or rows at []) (drop at rows)
In-got rows at h = subst (λ (rs : List (List ℤ)). In (get_or rows at []) rs) (sym (drop_next rows at h)) (inl refl)

pub In-at : (rows : List (List ℤ)) (at : ℕ) → at < length rows → In (get_or rows at []) rows
In-at [] at h = absurd (omega (arith, h))
In-at (r ∷ rows) zero h = inl refl
In-at (r ∷ rows) (suc at) h = inr (In-at rows at (omega (arith, h)))

module _ (texts : List (List ℕ)) (b : Bound) (lefts rights : List (List ℤ)) (at from next : ℕ) (key : ℤ) (below : at < length lefts) (is : key ≡ key_in (get_or lefts at []))
    (passed : (k : ℤ) → key ≤ℤ k → filter (has_key k) (drop from rights) ≡ filter (has_key k) (drop next rights))
    (before : (a : List ℤ) → In a (drop at lefts) → partner_lines texts b rights a ≡ partner_lines texts b (drop from rights) a) where
  -- the right rows that were passed are no partners of a later left row either
  pub passed_partners : KeysRise lefts → (a : List ℤ) → In a (drop (at + 1) lefts) → partner_lines texts b rights a ≡ partner_lines texts b (drop next rights) a
  passed_partners rise a i =
      before a (In-drop lefts at below a i)
      ∙ partners_told texts b a (drop from rights) (drop next rights) (passed (key_in a) (subst (λ (k : ℤ). k ≤ℤ key_in a) (sym is) (rise_at lefts at below rise a i)))

  itself : (k : ℤ) → k ≤ℤ k
  itself k = omega (arith, ints)

  pub joined_lines : (width : ℕ) (lines after : Flat) → lines ≡ record { width = width; rows = pair_lines texts b (take at lefts) rights }
      → after ≡ record { width = lines.width; rows = lines.rows ++ partner_lines texts b (drop next rights) (get_or lefts at []) }
      → after ≡ record { width = width; rows = pair_lines texts b (take (at + 1) lefts) rights }
  joined_lines width lines after e a =
      let own = get_or lefts at [] in
      let all : partner_lines texts b rights own ≡ partner_lines texts b (drop next rights) own =
      before own (In-got lefts at below) ∙ partners_told texts b own (drop from rights) (drop next rights) (passed (key_in own) (subst (λ (k : ℤ). k ≤ℤ key_in own) (sym is) (itself (key_in own)))) in
      a ∙ ((λ i. record { width = (e i).width; rows = (e i).rows ++ sym all i }) ∙ (λ i. record { width = width; rows = sym (pairs_more texts b lefts rights at below) i }))

-- no more lines come
pub rows_end : (rows more total : List (List ℤ)) → more ≡ [] → rows ++ more ≡ total → rows ≡ total
rows_end rows more total none e = sym (nothing_more rows) ∙ (ap (λ ls. rows ++ ls) (sym none) ∙ e)
