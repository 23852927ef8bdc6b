-- Which word of a row is which column's.
use Rattle.std.proofs.Common.{◌≡◌, ℕ, suc, ◌+◌, List, [], ◌∷◌, refl, sym, ap, ap₂, ◌∙◌, arith, map, ℤ, pos, get_or, inl, inr}
use Rattle.std.specs.Prelude.{◌-◌}
use Rattle.ch_cover.specs.Rows.{Row}
use Rattle.ch_ir.specs.Machine.{truth}
use Rattle.ch_lists.specs.Members.{In, Each}
use Rattle.ch_pred.specs.Meaning.{at, at_each}
use Rattle.ch_pred.specs.Sound.{carried_of, place_in}
use Rattle.ch_pred.specs.Values.{View}
use Rattle.ch_pred.specs.declared.bound.Bound.{Bound}
use Rattle.ch_pred.specs.declared.pred.Col.{Col}
use Rattle.ch_words.specs.Rows.{row_seen}
use Rattle.op_moves.specs.Values.{word_at}

-- the place of a column's word, behind the pass, the side and the bit
abbrev pub place_of : Bound → Col → ℕ
place_of b c = place_in (carried_of b c.side) c.at + 3

abbrev pub StandsAt : Bound → Col → ℕ → Type 0
StandsAt b c p = p ≡ place_of b c

abbrev pub AllStandAt : Bound → List Col → List ℕ → Type 0
AllStandAt b [] [] = Unit {0}
AllStandAt b [] (p ∷ places) = ⊥
AllStandAt b (c ∷ cols) [] = ⊥
AllStandAt b (c ∷ cols) (p ∷ places) = StandsAt b c p × AllStandAt b cols places

pub column_word : (b : Bound) (c : Col) (p : ℕ) (r : Row) → StandsAt b c p → word_at r p ≡ at (row_seen b r) c
unfolding row_seen
column_word b c p r e =
    let n : ℕ = place_in (carried_of b c.side) c.at in
    let m : p - 2 ≡ suc n = omega arith in
    ap (λ (i : ℕ). get_or (truth r.bit ∷ r.words) i (pos 0)) m

pub column_words : (b : Bound) (cols : List Col) (places : List ℕ) (r : Row) → AllStandAt b cols places → map (word_at r) places ≡ at_each (row_seen b r) cols
column_words b [] [] r h = refl
column_words b [] (p ∷ places) r h = elim h [ ]
column_words b (c ∷ cols) [] r h = elim h [ ]
column_words b (c ∷ cols) (p ∷ places) r h = ap₂ (λ (v : ℤ) (vs : List ℤ). v ∷ vs) (column_word b c p r h.0) (column_words b cols places r h.1)

-- each column is at one of the places
abbrev pub AreRead : Bound → List Col → List ℕ → Type 0
AreRead b cols places = Each (λ c. In (place_of b c) places) cols

-- each place is that of one of the columns
abbrev pub AreOnly : Bound → List Col → List ℕ → Type 0
AreOnly b cols places = Each (λ p. (c : Col) × In c cols × StandsAt b c p) places

same_word : (r s : Row) (places : List ℕ) (p : ℕ) → In p places → map (word_at r) places ≡ map (word_at s) places → word_at r p ≡ word_at s p
same_word r s [] p i h = elim i [ ]
same_word r s (q ∷ places) p i h = elim i [
  | inl e ↦ ap (word_at r) e ∙ (heads h ∙ ap (word_at s) (sym e))
  | inr j ↦ same_word r s places p j (tails h)
]
  where
    heads : {x y : ℤ} {xs ys : List ℤ} → x ∷ xs ≡ y ∷ ys → x ≡ y
    heads e = cc

    tails : {x y : ℤ} {xs ys : List ℤ} → x ∷ xs ≡ y ∷ ys → xs ≡ ys
    tails e = cc

same_column : (v w : View ℤ) (cols : List Col) (c : Col) → In c cols → at_each v cols ≡ at_each w cols → at v c ≡ at w c
same_column v w [] c i h = elim i [ ]
same_column v w (e ∷ cols) c i h = elim i [
  | inl same ↦ ap (at v) same ∙ (heads h ∙ ap (at w) (sym same))
  | inr j ↦ same_column v w cols c j (tails h)
]
  where
    heads : {x y : ℤ} {xs ys : List ℤ} → x ∷ xs ≡ y ∷ ys → x ≡ y
    heads e = cc

    tails : {x y : ℤ} {xs ys : List ℤ} → x ∷ xs ≡ y ∷ ys → xs ≡ ys
    tails e = cc

-- rows with the same words at the places have the same words of a column that is read
pub read_column : (b : Bound) (c : Col) (places : List ℕ) (r s : Row) → In (place_of b c) places → map (word_at r) places ≡ map (word_at s) places
    → at (row_seen b r) c ≡ at (row_seen b s) c
read_column b c places r s i h = sym (column_word b c (place_of b c) r refl) ∙ (same_word r s places (place_of b c) i h ∙ column_word b c (place_of b c) s refl)

pub read_columns : (b : Bound) (cols : List Col) (places : List ℕ) (r s : Row) → AreRead b cols places → map (word_at r) places ≡ map (word_at s) places
    → at_each (row_seen b r) cols ≡ at_each (row_seen b s) cols
read_columns b [] places r s h e = refl
read_columns b (c ∷ cols) places r s h e =
    ap₂ (λ (v : ℤ) (vs : List ℤ). v ∷ vs) (read_column b c places r s (h c (inl refl)) e) (read_columns b cols places r s (λ d i. h d (inr i)) e)

-- and the other way round, where each place is a column's
pub only_columns : (b : Bound) (cols : List Col) (places : List ℕ) (r s : Row) → AreOnly b cols places → at_each (row_seen b r) cols ≡ at_each (row_seen b s) cols
    → map (word_at r) places ≡ map (word_at s) places
only_columns b cols [] r s h e = refl
only_columns b cols (p ∷ places) r s h e =
    let c = h p (inl refl) in
    ap₂ (λ (v : ℤ) (vs : List ℤ). v ∷ vs)
    (column_word b c.0 p r c.2 ∙ (same_column (row_seen b r) (row_seen b s) cols c.0 c.1 e ∙ sym (column_word b c.0 p s c.2)))
    (only_columns b cols places r s (λ q i. h q (inr i)) e)
