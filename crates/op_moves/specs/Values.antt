-- The words that consecutive moves assign, as a list of values.
use Rattle.std.proofs.Common.{◌≡◌, ◌≢◌, ◌<◌, ◌≤◌, ℕ, zero, suc, ◌+◌, Bool, true, false, List, [], ◌∷◌, ◌++◌, ℤ, pos, inl, inr, refl, sym, ◌∙◌, ap, ap₂, arith, Some, length, get_or, map}
use Rattle.std.specs.Prelude.{◌-◌, ◌==◌, not, ◌||◌, ◌&&◌, int_le, nat_le, nat_lt}
use Rattle.std.specs.List.{list_all}
use Rattle.std.specs.Option.{option_and_then}
use Rattle.std.specs.Ordering.{int_eq}
use Rattle.std.proofs.lemmas.Bool.{and_parts, leb-true, ltb-true, cases_eq, eq-eqb, ne_eqb, lt-ltb}
use Rattle.std.proofs.lemmas.Int.{ints}
use Rattle.ch_cover.specs.Rows.{Row}
use Rattle.ch_ir.specs.declared.program.Operand.TheVariants.{Word}
use Rattle.ch_ir.specs.declared.program.Binary.TheVariants as binary
use Rattle.ch_ir.specs.declared.program.Op.{Op}
use Rattle.ch_ir.specs.declared.program.Op.TheVariants.{Two}
use Rattle.ch_ir.specs.declared.program.Access.{Access}
use Rattle.ch_ir.specs.declared.program.Array.{Array}
use Rattle.ch_ir.specs.Machine.{Words, Registers, State, put, put_all, op_to, op_value, exec_access, cells_of, ends, given, truth, is_set, read_words}
use Rattle.ch_verdicts.specs.Handed.{front}
use Rattle.op_moves.specs.Moves.{Move, Compute, Reach, moves_made}

-- a row in a pass, as the words that the program is given
abbrev pub row_words : ℕ × Row → List ℤ
row_words x = front x.0 x.1

-- the word of a row at a place from 2 on, where its bit stands; 0 where the row lacks it
abbrev pub word_at : Row → ℕ → ℤ
word_at r p = get_or (truth r.bit ∷ r.words) (p - 2) (pos 0)

pub put_same : (ws : Words) (to : ℕ) (v : ℤ) (w : ℕ) → w ≡ to → put ws to v w ≡ Some v
put_same ws to v w e = rw (eq-eqb w to e) refl

pub put_other : (ws : Words) (to : ℕ) (v : ℤ) (w : ℕ) → w ≢ to → put ws to v w ≡ ws w
put_other ws to v w e = rw (ne_eqb w to e) refl

pub put_all_below : (ws : Words) (to : ℕ) (vs : List ℤ) (w : ℕ) → w < to → put_all ws to vs w ≡ ws w
put_all_below ws to [] w h = refl
put_all_below ws to (v ∷ vs) w h = put_all_below (put ws to v) (to + 1) vs w (omega arith) ∙ put_other ws to v w (omega arith)

pub put_all_at : (ws : Words) (to : ℕ) (vs : List ℤ) (i w : ℕ) → w ≡ to + i → i < length vs → put_all ws to vs w ≡ Some (get_or vs i (pos 0))
put_all_at ws to [] i w e h = absurd (omega arith)
put_all_at ws to (v ∷ vs) zero w e h = put_all_below (put ws to v) (to + 1) vs w (omega arith) ∙ put_same ws to v w (omega arith)
put_all_at ws to (v ∷ vs) (suc i) w e h = put_all_at (put ws to v) (to + 1) vs i w (omega arith) (omega arith)

pub put_all_push : (ws : Words) (to : ℕ) (vs : List ℤ) (v : ℤ) (w : ℕ) → w ≡ to + length vs → put (put_all ws to vs) w v ≡ put_all ws to (vs ++ v ∷ [])
put_all_push ws to [] v w e = ap (λ (n : ℕ). put ws n v) (omega arith)
put_all_push ws to (x ∷ vs) v w e = put_all_push (put ws to x) (to + 1) vs v w (omega arith)

-- the next op
pub computed : (arrays : List Array) (op : Op) (moves : List Move) (ws : Words) (to : ℕ) (vs : List ℤ) (v : ℤ) (registers : Registers)
    → op_to op ≡ to + length vs → op_value (put_all ws to vs) op ≡ Some v
    → moves_made arrays (Compute op ∷ moves) (record { words = put_all ws to vs; registers = registers }) ≡ moves_made arrays moves (record { words = put_all ws to (vs ++ v ∷ []); registers = registers })
computed arrays op moves ws to vs v registers e o = rw o (ap (λ (x : Words). moves_made arrays moves (record { words = x; registers = registers })) (put_all_push ws to vs v (op_to op) e))

-- the next access
pub reached : (arrays : List Array) (x : Access) (moves : List Move) (s t : State) → exec_access (cells_of arrays x.array) x s ≡ Some t
    → moves_made arrays (Reach x ∷ moves) s ≡ moves_made arrays moves t
reached arrays x moves s t e = ap (option_and_then (moves_made arrays moves)) e

pub given_at : (width : ℕ) (row : List ℤ) (w : ℕ) → w < width → given width row w ≡ Some (get_or row w (pos 0))
given_at width row w h = rw (lt-ltb w width h) refl

-- places from 2 on that the width has
abbrev pub ArePlaces : ℕ → List ℕ → Type 0
ArePlaces width [] = Unit {0}
ArePlaces width (p ∷ places) = ((2 ≤ p) × (p < width)) × ArePlaces width places

-- the same as a test
abbrev pub is_place : ℕ → ℕ → Bool
is_place width p = nat_le 2 p && nat_lt p width

pub places_are : (width : ℕ) (places : List ℕ) → list_all (is_place width) places ≡ true → ArePlaces width places
places_are width [] h = tt
places_are width (p ∷ places) h =
    let first = and_parts (is_place width p) (list_all (is_place width) places) h in
    let both = and_parts (nat_le 2 p) (nat_lt p width) first.0 in
    ((leb-true 2 p both.0, ltb-true p width both.1), places_are width places first.1)

pub word_given : (x : ℕ × Row) (p : ℕ) → 2 ≤ p → get_or (row_words x) p (pos 0) ≡ word_at x.1 p
word_given x zero h = absurd (omega arith)
word_given x (suc zero) h = absurd (omega arith)
word_given x (suc (suc p)) h = let e : suc (suc p) - 2 ≡ p = omega arith in rw e refl

-- words that show a row's
abbrev pub Shows : ℕ → List ℤ → Words → Type 0
Shows width row ws = (w : ℕ) → w < width → ws w ≡ Some (get_or row w (pos 0))

pub shows_later : (width : ℕ) (row : List ℤ) (ws : Words) (to : ℕ) (vs : List ℤ) → width ≤ to → Shows width row ws → Shows width row (put_all ws to vs)
shows_later width row ws to vs k shows = λ w h. put_all_below ws to vs w (omega arith) ∙ shows w h

-- the words of a row by their places
pub read_places : (width : ℕ) (x : ℕ × Row) (ws : Words) (places : List ℕ) → ArePlaces width places → Shows width (row_words x) ws
    → read_words ws places ≡ Some (map (word_at x.1) places)
read_places width x ws [] h shows = refl
read_places width x ws (p ∷ places) h shows = rw (shows p h.0.1, word_given x p h.0.0, read_places width x ws places h.1 shows) refl

pub set_truth : (b : Bool) → is_set (truth b) ≡ b
set_truth true = refl
set_truth false = refl

-- whether a test holds of a number from i on, or did before
abbrev pub or_any : ℕ → ℕ → Bool → (ℕ → Bool) → Bool
or_any zero i was f = was
or_any (suc left) i was f = or_any left (i + 1) (was || f i) f

abbrev pub any_below : ℕ → (ℕ → Bool) → Bool
any_below zero f = false
any_below (suc n) f = f n || any_below n f

or_turned : (p a b : Bool) → (p || a) || b ≡ p || (b || a)
or_turned true a b = refl
or_turned false true true = refl
or_turned false true false = refl
or_turned false false true = refl
or_turned false false false = refl

pub or_any_is : (left i : ℕ) (p : Bool) (f : ℕ → Bool) → or_any left i (p || any_below i f) f ≡ p || any_below (i + left) f
or_any_is zero i p f = ap (λ (n : ℕ). p || any_below n f) (omega arith)
or_any_is (suc left) i p f =
    let e : i + 1 ≡ suc i = omega arith in
    let m : i + suc left ≡ suc i + left = omega arith in
    rw (e, m, or_turned p (any_below i f) (f i)) (or_any_is left (suc i) p f)

or_false : (p : Bool) → p || false ≡ p
or_false true = refl
or_false false = refl

pub or_all : (n : ℕ) (p : Bool) (f : ℕ → Bool) → or_any n 0 p f ≡ p || any_below n f
or_all n p f = ap (λ (b : Bool). or_any n 0 b f) (sym (or_false p)) ∙ (or_any_is n 0 p f ∙ ap (λ (m : ℕ). p || any_below m f) (omega arith))

pub any_same : (n : ℕ) (f g : ℕ → Bool) → ((i : ℕ) → i < n → f i ≡ g i) → any_below n f ≡ any_below n g
any_same zero f g h = refl
any_same (suc n) f g h = ap₂ (λ (a b : Bool). a || b) (h n (omega arith)) (any_same n f g (λ i k. h i (omega arith)))

-- the two orders in which a row is told to be pruned
pub verdict_same : (n : ℕ) (bit first : Bool) (f g : ℕ → Bool) → (bit ≡ true → first ≡ false → (i : ℕ) → f i ≡ g i) → not bit || (first || any_below n f) ≡ first || (not bit || any_below n g)
verdict_same n false true f g h = refl
verdict_same n false false f g h = refl
verdict_same n true true f g h = refl
verdict_same n true false f g h = any_same n f g (λ i k. h refl refl i)

pub or_truth : (a b : Bool) → truth (is_set (truth a) || is_set (truth b)) ≡ truth (a || b)
or_truth a b = rw (set_truth a, set_truth b) refl

-- the verdict's op: not open, or bad
pub le_truth : (a b : Bool) → int_le (truth a) (truth b) ≡ not a || b
le_truth true true = refl
le_truth true false = refl
le_truth false true = refl
le_truth false false = refl

pub pos_eq : (a b : ℕ) → int_eq (pos a) (pos b) ≡ (a == b)
pos_eq a b = elim (cases_eq a b) [
  | inl e ↦ rw (e, eq-eqb b b refl) (grind (arith, ints))
  | inr n ↦ rw (ne_eqb a b n) (grind (arith, ints))
]

-- the last move: pruned where the row isn't open, or is bad
pub finished : (arrays : List Array) (verdict guard bad : ℕ) (ws : Words) (registers : Registers) (a b : Bool) → ws guard ≡ Some (truth a) → ws bad ≡ Some (truth b)
    → option_and_then (ends verdict) (moves_made arrays (Compute (Two verdict binary.Le (Word guard) (Word bad)) ∷ []) (record { words = ws; registers = registers }))
    ≡ Some (record { prune = not a || b; registers = registers })
finished arrays verdict guard bad ws registers a b ea eb =
    rw (ea, eb, le_truth a b, put_same ws verdict (truth (not a || b)) verdict refl, set_truth (not a || b)) refl
