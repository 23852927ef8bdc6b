-- The program's moves are in order, so that it breaks no rule, and what it needs.
use Rattle.std.proofs.Common.{◌≡◌, ◌<◌, ◌≤◌, ℕ, zero, suc, ◌+◌, ◌*◌, Bool, true, List, [], ◌∷◌, ◌++◌, pos, refl, sym, ◌∙◌, ap, subst, arith, replicate, length, nat_lt, leb, ltb, ltb-true, length-append}
use Rattle.std.specs.Prelude.{if◌then◌else◌}
use Rattle.std.specs.List.{list_all}
use Rattle.std.proofs.Math.Nat.{mul-suc, mul_comm}
use Rattle.std.proofs.lemmas.Bool.{and_parts, eq-eqb, lt-ltb}
use Rattle.std.proofs.lemmas.List.{append_assoc, length-replicate}
use Rattle.std.proofs.lemmas.Nat.{mul-le}
use Rattle.ch_ir.specs.declared.program.Operand.{Operand}
use Rattle.ch_ir.specs.declared.program.Operand.TheVariants.{Word, Const}
use Rattle.ch_ir.specs.declared.program.Binary.{Binary}
use Rattle.ch_ir.specs.declared.program.Binary.TheVariants as binary
use Rattle.ch_ir.specs.declared.program.Op.{Op}
use Rattle.ch_ir.specs.declared.program.Op.TheVariants.{Set, Two, Pick}
use Rattle.ch_ir.specs.declared.program.Update.TheVariants as update
use Rattle.ch_ir.specs.declared.program.Array.{Array}
use Rattle.ch_ir.specs.Machine.{cells_of, op_to}
use Rattle.ch_ir.specs.Measure.{operand_end, operands_end, sizes_of}
use Rattle.ch_ir.specs.Rules.{Known, BreaksNoRule, entries_of, after_access, inputs, learn, op_interval, update_operands}
use Rattle.ch_prune.specs.Needs.{IsWithin}
use Rattle.ch_prune.specs.declared.operator.Need.{Need}
use Rattle.op_moves.specs.Fits.{unbroken}
use Rattle.op_moves.specs.InOrder.{OpInOrder, AccessInOrder, InOrder, next_word}
use Rattle.op_moves.specs.Moves.{Move, Compute, longest, reaches}
use Rattle.op_moves.specs.Within.{greatest_same, within}
use Rattle.op_skyline.specs.Emitted.{array_of, arrays_of, carry_ops, compare_ops, computes, copy_ops, first_ops, gate_after, moves_of, point_access, points_from, points_of, puts_from, skyline_program, sum_ops, told_ops, turned_ops, verdict_of, verdict_op}
use Rattle.op_skyline.specs.Fine.{IsFine, is_place}
use Rattle.op_skyline.specs.History.{cells_at}
use Rattle.op_skyline.specs.declared.sizes.Sizes.{Sizes}

-- the need of a plan with as many dimensions
abbrev pub skyline_need : Sizes → Need
skyline_need s = record {
  width = s.width;
  cells = length s.places + 2;
  words = s.width + 32 + s.points * (length s.places + 32);
  stages = 2 + s.points;
}

-- Ops in order, the first at the word n

abbrev OpsInOrder : ℕ → List Op → Type 0
OpsInOrder n [] = Unit {0}
OpsInOrder n (op ∷ ops) = OpInOrder n op × OpsInOrder (n + 1) ops

both_in_order : (xs ys : List Op) (n m : ℕ) → m ≡ n + length xs → OpsInOrder n xs → OpsInOrder m ys → OpsInOrder n (xs ++ ys)
both_in_order [] ys n m e h k = let P : ℕ → Type 0 = λ i. OpsInOrder i ys in subst P (omega arith) k
both_in_order (x ∷ xs) ys n m e h k = (h.0, both_in_order xs ys (n + 1) m (omega arith) h.1 k)

computes_in_order : (arrays : List Array) (ops : List Op) (moves : List Move) (n m a : ℕ) (ks : Known) → m ≡ n + length ops → OpsInOrder n ops → ((ls : Known) → InOrder arrays m a ls moves)
    → InOrder arrays n a ks (computes ops ++ moves)
computes_in_order arrays [] moves n m a ks e o rest = let P : ℕ → Type 0 = λ i. InOrder arrays i a ks moves in subst P (omega arith) (rest ks)
computes_in_order arrays (op ∷ ops) moves n m a ks e o rest = (o.0, computes_in_order arrays ops moves (n + 1) m a (learn ks (op_to op) (op_interval ks op)) (omega arith) o.1 rest)

computes_words : (arrays : List Array) (ops : List Op) (moves : List Move) (n m : ℕ) → m ≡ n + length ops → next_word arrays n (computes ops ++ moves) ≡ next_word arrays m moves
computes_words arrays [] moves n m e = ap (λ (i : ℕ). next_word arrays i moves) (omega arith)
computes_words arrays (op ∷ ops) moves n m e = computes_words arrays ops moves (n + 1) m (omega arith)

computes_reaches : (ops : List Op) (moves : List Move) → reaches (computes ops ++ moves) ≡ reaches moves
computes_reaches [] moves = refl
computes_reaches (op ∷ ops) moves = computes_reaches ops moves

computes_longest : (ops : List Op) (moves : List Move) (n m : ℕ) → m ≡ n + length ops → longest n (computes ops ++ moves) ≡ longest m moves
computes_longest [] moves n m e = ap (λ (i : ℕ). longest i moves) (omega arith)
computes_longest (op ∷ ops) moves n m e = computes_longest ops moves (n + 1) m (omega arith)

two_in_order : (to : ℕ) (kind : Binary) (a b : Operand) (n : ℕ) → to ≡ n → operand_end a ≤ n → operand_end b ≤ n → OpInOrder n (Two to kind a b)
two_in_order to kind a b n e x y = record { next = e; reads = omega arith; modulus = refl }

set_in_order : (to : ℕ) (a : Operand) (n : ℕ) → to ≡ n → operand_end a ≤ n → OpInOrder n (Set to a)
set_in_order to a n e x = record { next = e; reads = omega arith; modulus = refl }

pick_in_order : (to : ℕ) (a b c : Operand) (n : ℕ) → to ≡ n → operand_end a ≤ n → operand_end b ≤ n → operand_end c ≤ n → OpInOrder n (Pick to a b c)
pick_in_order to a b c n e x y z = record { next = e; reads = omega arith; modulus = refl }

-- The lists of ops, their lengths and their order

turned_long : (to : ℕ) (places : List ℕ) (max : List Bool) → length max ≡ length places → length (turned_ops to places max) ≡ length places
turned_long to [] max e = refl
turned_long to (p ∷ places) [] e = absurd (omega arith)
turned_long to (p ∷ places) (m ∷ max) e = ap suc (turned_long (to + 1) places max (omega arith))

sum_long : (n to x : ℕ) (a : Operand) → length (sum_ops n to x a) ≡ n
sum_long zero to x a = refl
sum_long (suc n) to x a = ap suc (sum_long n (to + 1) (x + 1) (Word to))

copy_long : (n to x : ℕ) → length (copy_ops n to x) ≡ n
copy_long zero to x = refl
copy_long (suc n) to x = ap suc (copy_long n (to + 1) (x + 1))

compare_long : (n x old prev : ℕ) → length (compare_ops n x old prev) ≡ 2 * n
compare_long zero x old prev = refl
compare_long (suc n) x old prev = let more = compare_long n (x + 1) (old + 1) (prev + 2) in omega arith

carry_long : (n to hit old carry : ℕ) → length (carry_ops n to hit old carry) ≡ n
carry_long zero to hit old carry = refl
carry_long (suc n) to hit old carry = ap suc (carry_long n (to + 1) hit (old + 1) (carry + 1))

turned_in_order : (w to n : ℕ) (places : List ℕ) (max : List Bool) → list_all (is_place w) places ≡ true → w ≤ n → to ≡ n → OpsInOrder n (turned_ops to places max)
turned_in_order w to n [] max b h e = tt
turned_in_order w to n (p ∷ places) [] b h e = tt
turned_in_order w to n (p ∷ places) (m ∷ max) b h e =
    let parts = and_parts (is_place w p) (list_all (is_place w) places) b in
    let below = ltb-true p w (and_parts (leb 2 p) (ltb p w) parts.0).1 in
    (two_in_order to (if m then binary.Add else binary.Sub) (Const (pos 0)) (Word p) n e (omega arith) (omega arith), turned_in_order w (to + 1) (n + 1) places max parts.1 (omega arith) (omega arith))

sum_in_order : (k to x n : ℕ) (a : Operand) → to ≡ n → x + k ≤ n → operand_end a ≤ n → OpsInOrder n (sum_ops k to x a)
sum_in_order zero to x n a e h b = tt
sum_in_order (suc k) to x n a e h b = (two_in_order to binary.Add a (Word x) n e b (omega arith), sum_in_order k (to + 1) (x + 1) (n + 1) (Word to) (omega arith) (omega arith) (omega arith))

copy_in_order : (k to x n : ℕ) → to ≡ n → x + k ≤ n → OpsInOrder n (copy_ops k to x)
copy_in_order zero to x n e h = tt
copy_in_order (suc k) to x n e h = (set_in_order to (Word x) n e (omega arith), copy_in_order k (to + 1) (x + 1) (n + 1) (omega arith) (omega arith))

compare_in_order : (k x old prev n : ℕ) → prev + 1 ≡ n → x + k ≤ n → old + k ≤ n → OpsInOrder n (compare_ops k x old prev)
compare_in_order zero x old prev n e hx ho = tt
compare_in_order (suc k) x old prev n e hx ho = (
  two_in_order (prev + 1) binary.Le (Word x) (Word old) n e (omega arith) (omega arith),
  (
    two_in_order (prev + 2) binary.And (Word prev) (Word (prev + 1)) (n + 1) (omega arith) (omega arith) (omega arith),
    compare_in_order k (x + 1) (old + 1) (prev + 2) (n + 1 + 1) (omega arith) (omega arith) (omega arith),
  ),
)

carry_in_order : (k to hit old carry n : ℕ) → to ≡ n → hit < n → old + k ≤ n → carry + k ≤ n → OpsInOrder n (carry_ops k to hit old carry)
carry_in_order zero to hit old carry n e h ho hc = tt
carry_in_order (suc k) to hit old carry n e h ho hc =
    (pick_in_order to (Word hit) (Word old) (Word carry) n e (omega arith) (omega arith) (omega arith), carry_in_order k (to + 1) hit (old + 1) (carry + 1) (n + 1) (omega arith) (omega arith) (omega arith) (omega arith))

first_in_order : (s : Sizes) → IsFine s → OpsInOrder s.width (first_ops s)
first_in_order s fine =
    let w : ℕ = s.width in
    let n : ℕ = length s.places in
    let wide = fine.wide in
    let some = fine.some in (
      two_in_order w binary.Ne (Word 2) (Const (pos 0)) w refl (omega arith) (omega arith),
      both_in_order (turned_ops (w + 1) s.places s.max) _ (w + 1) (w + 1 + n) (omega (arith, turned_long (w + 1) s.places s.max fine.same)) (turned_in_order w (w + 1) (w + 1) s.places s.max fine.placed (omega arith) refl)
          (both_in_order (sum_ops n (w + 1 + n) (w + 1) (Const (pos 0))) _ (w + 1 + n) (w + 1 + 2 * n) (omega (arith, sum_long n (w + 1 + n) (w + 1) (Const (pos 0)))) (sum_in_order n (w + 1 + n) (w + 1) (w + 1 + n) (Const (pos 0)) refl (omega arith) (omega arith)) (
            set_in_order (w + 1 + 2 * n) (Const (pos 1)) (w + 1 + 2 * n) refl (omega arith),
            (
              set_in_order (w + 2 + 2 * n) (Word (w + 2 * n)) (w + 1 + 2 * n + 1) (omega arith) (omega arith),
              both_in_order (copy_ops n (w + 3 + 2 * n) (w + 1)) _ (w + 1 + 2 * n + 1 + 1) (w + 3 + 3 * n) (omega (arith, copy_long n (w + 3 + 2 * n) (w + 1))) (copy_in_order n (w + 3 + 2 * n) (w + 1) (w + 1 + 2 * n + 1 + 1) (omega arith) (omega arith))
                  (set_in_order (w + 3 + 3 * n) (Word (w + 2 * n)) (w + 3 + 3 * n) refl (omega arith), tt),
            ),
          )),
    )

first_long : (s : Sizes) → IsFine s → length (first_ops s) ≡ 3 * length s.places + 4
first_long s fine =
    let w : ℕ = s.width in
    let n : ℕ = length s.places in
    let last : List Op = Set (w + 3 + 3 * n) (Word (w + 2 * n)) ∷ [] in
    let copies : List Op = copy_ops n (w + 3 + 2 * n) (w + 1) in
    let sums : List Op = sum_ops n (w + 1 + n) (w + 1) (Const (pos 0)) in
    let sets : List Op = Set (w + 1 + 2 * n) (Const (pos 1)) ∷ Set (w + 2 + 2 * n) (Word (w + 2 * n)) ∷ copies ++ last in
    omega (arith, length-append (turned_ops (w + 1) s.places s.max) (sums ++ sets), length-append sums sets, length-append copies last, turned_long (w + 1) s.places s.max fine.same, sum_long n (w + 1 + n) (w + 1) (Const (pos 0)), copy_long n (w + 3 + 2 * n) (w + 1))

told_in_order : (n base gate carry x score at : ℕ) → at ≡ base + n + 3 → gate < base → carry + n + 2 ≤ base → x + n ≤ base → score < base → OpsInOrder at (told_ops n base gate carry x score)
told_in_order n base gate carry x score at e gb cb xb sb = (
  two_in_order (base + n + 3) binary.Lt (Word score) (Word (base + 1)) at (omega arith) (omega arith) (omega arith),
  both_in_order (compare_ops n x (base + 2) (base + n + 3)) _ (at + 1) (base + 3 * n + 4) (omega (arith, compare_long n x (base + 2) (base + n + 3))) (compare_in_order n x (base + 2) (base + n + 3) (at + 1) (omega arith) (omega arith) (omega arith)) (
    two_in_order (base + 3 * n + 4) binary.Lt (Word (base + n + 2)) (Word (base + 3 * n + 3)) (base + 3 * n + 4) refl (omega arith) (omega arith),
    (
      two_in_order (base + 3 * n + 5) binary.Lt (Word (base + 3 * n + 4)) (Word gate) (base + 3 * n + 4 + 1) (omega arith) (omega arith) (omega arith),
      both_in_order (carry_ops (suc (suc n)) (base + 3 * n + 6) (base + n + 2) base carry) _ (base + 3 * n + 4 + 1 + 1) (base + 4 * n + 8) (omega (arith, carry_long (suc (suc n)) (base + 3 * n + 6) (base + n + 2) base carry))
          (carry_in_order (suc (suc n)) (base + 3 * n + 6) (base + n + 2) base carry (base + 3 * n + 4 + 1 + 1) (omega arith) (omega arith) (omega arith) (omega arith))
          (pick_in_order (base + 4 * n + 8) (Word (base + n + 2)) (Const (pos 9223372036854775807)) (Word score) (base + 4 * n + 8) refl (omega arith) (omega arith) (omega arith), tt),
    ),
  ),
)

told_long : (n base gate carry x score : ℕ) → length (told_ops n base gate carry x score) ≡ 3 * n + 6
told_long n base gate carry x score =
    let last : List Op = Pick (base + 4 * n + 8) (Word (base + n + 2)) (Const (pos 9223372036854775807)) (Word score) ∷ [] in
    let picks : List Op = carry_ops (suc (suc n)) (base + 3 * n + 6) (base + n + 2) base carry in
    let twos : List Op = Two (base + 3 * n + 4) binary.Lt (Word (base + n + 2)) (Word (base + 3 * n + 3)) ∷ Two (base + 3 * n + 5) binary.Lt (Word (base + 3 * n + 4)) (Word gate) ∷ picks ++ last in
    omega (arith, length-append (compare_ops n x (base + 2) (base + n + 3)) twos, length-append picks last, compare_long n x (base + 2) (base + n + 3), carry_long (suc (suc n)) (base + 3 * n + 6) (base + n + 2) base carry)

-- The access of a point

puts_end : (k from n : ℕ) → from + k ≤ n → operands_end (update_operands (puts_from k from)) ≤ n
puts_end zero from n h = omega arith
puts_end (suc k) from n h = let more = puts_end k (from + 1) n (omega arith) in omega arith

puts_long : (k from : ℕ) → length (puts_from k from) ≡ k
puts_long zero from = refl
puts_long (suc k) from = ap suc (puts_long k (from + 1))

keeps_end : (m : ℕ) → operands_end (update_operands (replicate m update.Keep)) ≡ 0
keeps_end zero = refl
keeps_end (suc m) = keeps_end m

both_end : (xs ys : List Operand) (n : ℕ) → operands_end xs ≤ n → operands_end ys ≤ n → operands_end (xs ++ ys) ≤ n
both_end [] ys n a b = b
both_end (x ∷ xs) ys n a b = let more = both_end xs ys n (omega arith) b in omega arith

point_in_order : (k array base gate carry key : ℕ) (arrays : List Array) (ks : Known) (n : ℕ) → entries_of arrays array ≡ 1 → cells_of arrays array ≡ suc (suc k)
    → n ≡ base → gate < base → carry + k + 2 ≤ base → key < base → AccessInOrder arrays n array ks (point_access k array base gate carry key)
point_in_order k array base gate carry key arrays ks n en ce e gb cb kb =
    let yes_long = eq-eqb (length (puts_from (suc (suc k)) carry)) (suc (suc k)) (puts_long (suc (suc k)) carry) in
    let no_long = eq-eqb (length (replicate (suc (suc k)) update.Keep)) (suc (suc k)) (length-replicate (suc (suc k)) update.Keep) in
    let cells : nat_lt 0 (suc (suc k)) ≡ true = lt-ltb 0 (suc (suc k)) (omega arith) in
    let fits : nat_lt 1 (suc (suc k)) ≡ true = lt-ltb 1 (suc (suc k)) (omega arith) in
    let updates = both_end (update_operands (puts_from (suc (suc k)) carry)) (update_operands (replicate (suc (suc k)) update.Keep)) n
    (puts_end (suc (suc k)) carry n (omega arith)) (let z = keeps_end (suc (suc k)) in omega arith) in
    record {
      next_array = refl;
      shape = rw (en, ce, cells, yes_long, no_long, fits) refl;
      reads = omega arith;
      low = refl;
      high = rw en refl;
      next = sym e;
      next_hit = rw ce (omega arith);
    }

-- The moves of the points

module _ (arrays : List Array) (k x score : ℕ) (moves : List Move) where
  points_in_order : (left array base gate carry key n end b : ℕ) (ks : Known) → n ≡ base → end ≡ base + (4 * k + 9) * left → b ≡ array + left
      → gate < base → carry + k + 2 ≤ base → key < base → x + k ≤ base → score < base
      → ((a : ℕ) → array ≤ a → a < array + left → (entries_of arrays a ≡ 1) × (cells_of arrays a ≡ suc (suc k)))
      → ((ls : Known) → InOrder arrays end b ls moves)
      → InOrder arrays n array ks (points_from left k array base gate carry key x score ++ moves)
  points_in_order zero array base gate carry key n end b ks e v c gb cb kb xb sb one rest =
      let P : ℕ → ℕ → Type 0 = λ i j. InOrder arrays i j ks moves in
      subst (λ (i : ℕ). P i array) (let same : end ≡ n = omega arith in same) (subst (λ (j : ℕ). P end j) (let same : b ≡ array = omega arith in same) (rest ks))
  points_in_order (suc left) array base gate carry key n end b ks e v c gb cb kb xb sb one rest =
      let shape = one array (omega arith) (omega arith) in
      let cells = shape.1 in
      let told : List Op = told_ops k base gate carry x score in
      let later : List Move = points_from left k (array + 1) (base + 4 * k + 9) (base + 3 * k + 5) (base + 3 * k + 6) (base + 4 * k + 8) x score in
      let at : ℕ = n + cells_of arrays array + 1 in
      let ls : Known = after_access arrays (point_access k array base gate carry key) ks in
      let m = mul-suc (4 * k + 9) left in
      let after = computes_in_order arrays told (later ++ moves) at (base + 4 * k + 9) (array + 1) ls (omega (arith, told_long k base gate carry x score))
      (told_in_order k base gate carry x score at (omega arith) gb cb xb sb)
      (λ js. points_in_order left (array + 1) (base + 4 * k + 9) (base + 3 * k + 5) (base + 3 * k + 6) (base + 4 * k + 8) (base + 4 * k + 9) end b js refl (omega arith) (omega arith) (omega arith) (omega arith) (omega arith) (omega arith) (omega arith) (λ a p q. one a (omega arith) (omega arith)) rest) in
      (point_in_order k array base gate carry key arrays ks n shape.0 shape.1 e gb cb kb, subst (λ (ms : List Move). InOrder arrays at (array + 1) ls ms) (sym (append_assoc (computes told) later moves)) after)

  points_words : (left array base gate carry key n end : ℕ) → end ≡ n + (4 * k + 9) * left
      → ((a : ℕ) → array ≤ a → a < array + left → cells_of arrays a ≡ suc (suc k))
      → next_word arrays n (points_from left k array base gate carry key x score ++ moves) ≡ next_word arrays end moves
  points_words zero array base gate carry key n end v one = ap (λ (i : ℕ). next_word arrays i moves) (omega arith)
  points_words (suc left) array base gate carry key n end v one =
      let cells = one array (omega arith) (omega arith) in
      let told : List Op = told_ops k base gate carry x score in
      let later : List Move = points_from left k (array + 1) (base + 4 * k + 9) (base + 3 * k + 5) (base + 3 * k + 6) (base + 4 * k + 8) x score in
      let m = mul-suc (4 * k + 9) left in
      ap (λ (ms : List Move). next_word arrays (n + cells_of arrays array + 1) ms) (append_assoc (computes told) later moves)
      ∙ (computes_words arrays told (later ++ moves) (n + cells_of arrays array + 1) (n + 4 * k + 9) (omega (arith, told_long k base gate carry x score))
      ∙ points_words left (array + 1) (base + 4 * k + 9) (base + 3 * k + 5) (base + 3 * k + 6) (base + 4 * k + 8) (n + 4 * k + 9) end (omega arith) (λ a p q. one a (omega arith) (omega arith)))

  points_reaches : (left array base gate carry key : ℕ) → reaches (points_from left k array base gate carry key x score ++ moves) ≡ left + reaches moves
  points_reaches zero array base gate carry key = omega arith
  points_reaches (suc left) array base gate carry key =
      let told : List Op = told_ops k base gate carry x score in
      let later : List Move = points_from left k (array + 1) (base + 4 * k + 9) (base + 3 * k + 5) (base + 3 * k + 6) (base + 4 * k + 8) x score in
      let more = points_reaches left (array + 1) (base + 4 * k + 9) (base + 3 * k + 5) (base + 3 * k + 6) (base + 4 * k + 8) in
      ap (λ (ms : List Move). reaches ms + 1) (append_assoc (computes told) later moves) ∙ (ap (λ (i : ℕ). i + 1) (computes_reaches told (later ++ moves) ∙ more) ∙ omega arith)

  points_longest : (left array base gate carry key n most : ℕ) → n ≤ most → longest n moves ≤ most → longest (3 * k + 6) moves ≤ most → 3 * k + 6 ≤ most
      → longest n (points_from left k array base gate carry key x score ++ moves) ≤ most
  points_longest zero array base gate carry key n most h a b c = a
  points_longest (suc left) array base gate carry key n most h a b c =
      let told : List Op = told_ops k base gate carry x score in
      let later : List Move = points_from left k (array + 1) (base + 4 * k + 9) (base + 3 * k + 5) (base + 3 * k + 6) (base + 4 * k + 8) x score in
      let more = points_longest left (array + 1) (base + 4 * k + 9) (base + 3 * k + 5) (base + 3 * k + 6) (base + 4 * k + 8) (3 * k + 6) most c b b c in
      let same : longest 0 ((computes told ++ later) ++ moves) ≡ longest (3 * k + 6) (later ++ moves) =
      ap (λ (ms : List Move). longest 0 ms) (append_assoc (computes told) later moves) ∙ computes_longest told (later ++ moves) 0 (3 * k + 6) (omega (arith, told_long k base gate carry x score)) in
      omega arith

gate_below : (left n base gate : ℕ) → gate < base → gate_after left n base gate < base + (4 * n + 9) * left
gate_below zero n base gate h = omega arith
gate_below (suc left) n base gate h = let m = mul-suc (4 * n + 9) left in let more = gate_below left n (base + 4 * n + 9) (base + 3 * n + 5) (omega arith) in omega arith

few_words : (n c : ℕ) → n ≤ 4 → (4 * n + 9) * c ≤ c * (n + 32)
few_words n c f = let a : 4 * n + 9 ≤ n + 32 = omega arith in let b : c ≤ c = omega arith in let h = mul-le (4 * n + 9) c (n + 32) c a b in let e = mul_comm (n + 32) c in omega arith

entries_at : (n a : ℕ) (x : Array) → a < n → entries_of (replicate n x) a ≡ x.entries
entries_at zero a x h = absurd (omega arith)
entries_at (suc n) zero x h = refl
entries_at (suc n) (suc a) x h = entries_at n a x (omega arith)

module _ (s : Sizes) (fine : IsFine s) where
  abbrev n : ℕ
  n = length s.places

  abbrev start : ℕ
  start = s.width + 4 + 3 * length s.places

  abbrev last : List Move
  last = Compute (verdict_op s) ∷ []

  shapes : (a : ℕ) → a < s.points → (entries_of (arrays_of s) a ≡ 1) × (cells_of (arrays_of s) a ≡ suc (suc n))
  shapes a h = (entries_at s.points a (array_of s) h, cells_at s.points a (array_of s) h)

  in_order : InOrder (arrays_of s) s.width 0 (inputs s.width) (moves_of s)
  in_order =
      let some = fine.some in
      let below = gate_below s.points n start s.width (omega arith) in
      computes_in_order (arrays_of s) (first_ops s) (points_of s ++ last) s.width start 0 (inputs s.width) (omega (arith, first_long s fine)) (first_in_order s fine)
      (λ ks. points_in_order (arrays_of s) n (s.width + 1) (s.width + 2 * n) last s.points 0 start s.width (s.width + 1 + 2 * n) (s.width + 3 + 3 * n) start (verdict_of s) s.points ks
      refl refl (omega arith) (omega arith) (omega arith) (omega arith) (omega arith) (omega arith) (λ a p q. shapes a (omega arith))
      (λ ls. (two_in_order (verdict_of s) binary.Eq (Word (gate_after s.points n start s.width)) (Const (pos 0)) (verdict_of s) refl (omega arith) (omega arith), tt)))

  words_are : next_word (arrays_of s) s.width (moves_of s) ≡ verdict_of s + 1
  words_are =
      computes_words (arrays_of s) (first_ops s) (points_of s ++ last) s.width start (omega (arith, first_long s fine))
      ∙ points_words (arrays_of s) n (s.width + 1) (s.width + 2 * n) last s.points 0 start s.width (s.width + 1 + 2 * n) (s.width + 3 + 3 * n) start (verdict_of s) refl (λ a p q. (shapes a (omega arith)).1)

  verdict_there : verdict_of s < next_word (arrays_of s) s.width (moves_of s)
  verdict_there = let words = words_are in omega arith

  -- the program breaks no rule
  pub skyline_unbroken : BreaksNoRule (skyline_program s)
  skyline_unbroken = unbroken s.width (arrays_of s) (moves_of s) (verdict_of s) in_order verdict_there

  -- and is within the need
  pub skyline_measured : (ops : ℕ) → 48 ≤ ops → IsWithin (skyline_need s) ops (sizes_of (skyline_program s))
  skyline_measured ops many =
      let few = fine.few in
      let words = words_are in
      let fewer = few_words n s.points few in
      let arrays = greatest_same s.points 1 (suc (suc n)) in
      let stages = computes_reaches (first_ops s) (points_of s ++ last) ∙ points_reaches (arrays_of s) n (s.width + 1) (s.width + 2 * n) last s.points 0 start s.width (s.width + 1 + 2 * n) (s.width + 3 + 3 * n) in
      let most = points_longest (arrays_of s) n (s.width + 1) (s.width + 2 * n) last s.points 0 start s.width (s.width + 1 + 2 * n) (s.width + 3 + 3 * n) (3 * n + 4) 48 (omega arith) (omega arith) (omega arith) (omega arith) in
      let longest_is : longest 0 (moves_of s) ≡ longest (3 * n + 4) (points_of s ++ last) = computes_longest (first_ops s) (points_of s ++ last) 0 (3 * n + 4) (omega (arith, first_long s fine)) in
      within (skyline_need s) ops s.width (arrays_of s) (moves_of s) (verdict_of s) in_order verdict_there refl (omega arith) (omega arith) (omega arith) (omega arith) many
