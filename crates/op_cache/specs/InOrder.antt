-- The columns are in order.
use Rattle.std.proofs.Common.{◌≡◌, ◌<◌, ◌≤◌, ℕ, zero, suc, ◌+◌, ◌*◌, List, [], ◌∷◌, ◌++◌, pos, refl, sym, ◌∙◌, ap, arith, Some, replicate, length, map}
use Rattle.std.specs.Prelude.{◌-◌}
use Rattle.std.proofs.lemmas.Bool.{lt-ltb, eq-eqb, le-leb}
use Rattle.ch_ir.specs.declared.program.Operand.{Operand}
use Rattle.ch_ir.specs.declared.program.Operand.TheVariants.{Word}
use Rattle.ch_ir.specs.declared.program.Array.{Array}
use Rattle.ch_ir.specs.Machine.{cells_of}
use Rattle.ch_ir.specs.declared.program.Update.{Update}
use Rattle.ch_ir.specs.declared.program.Update.TheVariants as update
use Rattle.ch_ir.specs.Rules.{Known, entries_of, update_operands}
use Rattle.ch_ir.specs.Measure.{operands_end}
use Rattle.op_moves.specs.Moves.{Move, Compute, reaches, longest}
use Rattle.op_moves.specs.InOrder.{AccessInOrder, InOrder, next_word}
use Rattle.op_moves.specs.Reads.{next_op, next_reach}
use Rattle.op_cache.specs.Emitted.{column, gate_op, columns, gate_after, words_from, put_each}
use Rattle.op_cache.specs.Run.{AllBelow, below_later, from_long}

times_more : (a left : ℕ) → a * suc left ≡ a * left + a
times_more a left = omega arith

pub gate_below : (n left base gate : ℕ) → gate < base → gate_after n left base gate < base + (n + 3) * left
gate_below n zero base gate h = omega arith
gate_below n (suc left) base gate h =
    let more = gate_below n left (base + n + 3) (base + n + 2) (omega arith) in
    let e : (n + 3) * suc left ≡ (n + 3) * left + (n + 3) = times_more (n + 3) left in
    omega arith

-- the gate after at least one column
pub gate_is : (n left base gate : ℕ) → gate_after n (suc left) base gate ≡ base + (n + 3) * left + n + 2
gate_is n zero base gate = omega arith
gate_is n (suc left) base gate =
    let e : (n + 3) * suc left ≡ (n + 3) * left + (n + 3) = times_more (n + 3) left in
    gate_is n left (base + n + 3) (base + n + 2) ∙ omega arith

abbrev pub IsColumn : ℕ → ℕ → List Array → ℕ → Type 0
IsColumn rows n arrays a = (entries_of arrays a ≡ rows) × (cells_of arrays a ≡ n + 1)

-- columns after some other arrays
pub columns_there : (m : ℕ) (first : Array) (left rows n a : ℕ) → m ≤ a → a < m + left → IsColumn rows n (replicate m first ++ replicate left (record { entries = rows; cells = n + 1 })) a
columns_there zero first zero rows n a h k = absurd (omega arith)
columns_there zero first (suc left) rows n zero h k = (refl, refl)
columns_there zero first (suc left) rows n (suc a) h k = columns_there zero first left rows n a (omega arith) (omega arith)
columns_there (suc m) first left rows n zero h k = absurd (omega arith)
columns_there (suc m) first left rows n (suc a) h k = columns_there m first left rows n a (omega arith) (omega arith)

put_operands : (carried : List Operand) → update_operands (put_each carried) ≡ carried
put_operands [] = refl
put_operands (a ∷ carried) = ap (λ (rest : List Operand). a ∷ rest) (put_operands carried)

ends_append : (xs ys : List Operand) (n : ℕ) → operands_end xs ≤ n → operands_end ys ≤ n → operands_end (xs ++ ys) ≤ n
ends_append [] ys n h k = k
ends_append (x ∷ xs) ys n h k = let rest = ends_append xs ys n (omega arith) k in omega arith

pub words_end : (n : ℕ) (words : List ℕ) → AllBelow n words → operands_end (map Word words) ≤ n
words_end n [] h = omega arith
words_end n (w ∷ words) h = let first = h.0 in let rest = words_end n words h.1 in omega arith

from_end : (to n : ℕ) → operands_end (words_from to n) ≤ to + n
from_end to zero = omega arith
from_end to (suc n) = let rest = from_end (to + 1) n in omega arith

length_map : {X Y : Type 0} (f : X → Y) (xs : List X) → length (map f xs) ≡ length xs
length_map f [] = refl
length_map f (x ∷ xs) = ap suc (length_map f xs)

column_in_order : (arrays : List Array) (array base gate row rows : ℕ) (words : List ℕ) (carried : List Operand) (ks : Known)
    → IsColumn rows (length words) arrays array → 0 < rows → gate < base → row < base → AllBelow base words → length carried ≡ length words + 1 → operands_end carried ≤ base
    → ks row ≡ Some (record { low = pos 0; high = pos (rows - 1) })
    → AccessInOrder arrays base array ks (column array base gate row words carried)
column_in_order arrays array base gate row rows words carried ks shape some gb rb kb lc cb e =
    let n : ℕ = length words in
    let en = shape.0 in
    let ce = shape.1 in
    let lt : rows - 1 < rows = omega arith in
    let puts : length (put_each carried) ≡ n + 1 = length_map put carried ∙ lc in
    let keys : length (map Word words) ≡ n = length_map Word words in
    let updates : operands_end (update_operands (put_each carried)) ≤ base = rw (put_operands carried) cb in
    let key : operands_end (map Word words) ≤ base = words_end base words kb in
    let others = ends_append (map Word words) (update_operands (put_each carried) ++ update_operands (put_each carried)) base key (ends_append (update_operands (put_each carried)) (update_operands (put_each carried)) base updates updates) in
    record {
      next_array = refl;
      shape = rw (en, ce, lt-ltb 0 rows some, lt-ltb 0 (n + 1) (omega arith), eq-eqb (length (put_each carried)) (n + 1) puts, eq-eqb (length (map Word words)) n keys, lt-ltb n (n + 1) (omega arith)) refl;
      reads = omega arith;
      low = rw e refl;
      high = rw (e, en, lt-ltb (rows - 1) rows lt) refl;
      next = refl;
      next_hit = omega arith;
    }
  where
    put : Operand → Update
    put a = update.Put a

pub columns_in_order : (arrays : List Array) (left array base gate row rows : ℕ) (words : List ℕ) (carried : List Operand) (ks : Known) (rest : List Move)
    → 0 < rows → gate < base → row < base → AllBelow base words → length carried ≡ length words + 1 → operands_end carried ≤ base
    → ks row ≡ Some (record { low = pos 0; high = pos (rows - 1) }) → ((a : ℕ) → array ≤ a → a < array + left → IsColumn rows (length words) arrays a)
    → ((m j : ℕ) (ls : Known) → m ≡ base + (length words + 3) * left → j ≡ array + left → InOrder arrays m j ls rest)
    → InOrder arrays base array ks (columns left array base gate row words carried ++ rest)
columns_in_order arrays zero array base gate row rows words carried ks rest some gb rb kb lc cb e shape then_ = then_ base array ks (omega arith) (omega arith)
columns_in_order arrays (suc left) array base gate row rows words carried ks rest some gb rb kb lc cb e shape then_ =
    let n : ℕ = length words in
    let this = shape array (omega arith) (omega arith) in
    let ce = this.1 in
    let next_carried : List Operand = words_from base (n + 1) in
    let tail : List Move = columns left (array + 1) (base + n + 3) (base + n + 2) row words next_carried ++ rest in
    let times : (n + 3) * suc left ≡ (n + 3) * left + (n + 3) = times_more (n + 3) left in
    let ends = from_end base (n + 1) in
    next_reach arrays base (base + n + 2) array ks (column array base gate row words carried) (Compute (gate_op n base gate) ∷ tail) (omega arith)
    (column_in_order arrays array base gate row rows words carried ks this some gb rb kb lc cb e) (λ k1 f1.
    next_op arrays (base + n + 2) (base + n + 3) (array + 1) k1 (gate_op n base gate) tail (omega arith) (record { next = refl; reads = omega arith; modulus = refl }) (λ k2 s2 f2.
    columns_in_order arrays left (array + 1) (base + n + 3) (base + n + 2) row rows words next_carried k2 rest some (omega arith) (omega arith) (below_later base (base + n + 3) words (omega arith) kb) (from_long base (n + 1)) (omega arith)
    (f2 row (omega arith) ∙ (f1 row rb ∙ e)) (λ a p q. shape a (omega arith) (omega arith)) (λ m j ls p q. then_ m j ls (omega arith) (omega arith))))

pub columns_words : (arrays : List Array) (left array base gate row m : ℕ) (words : List ℕ) (carried : List Operand) (rest : List Move)
    → ((a : ℕ) → array ≤ a → a < array + left → cells_of arrays a ≡ length words + 1)
    → next_word arrays m (columns left array base gate row words carried ++ rest) ≡ next_word arrays (m + (length words + 3) * left) rest
columns_words arrays zero array base gate row m words carried rest shape = ap (λ (i : ℕ). next_word arrays i rest) (omega arith)
columns_words arrays (suc left) array base gate row m words carried rest shape =
    let n : ℕ = length words in
    let ce = shape array (omega arith) (omega arith) in
    let times : (n + 3) * suc left ≡ (n + 3) * left + (n + 3) = times_more (n + 3) left in
    columns_words arrays left (array + 1) (base + n + 3) (base + n + 2) row (m + cells_of arrays array + 1 + 1) words (words_from base (n + 1)) rest (λ a p q. shape a (omega arith) (omega arith))
    ∙ ap (λ (i : ℕ). next_word arrays i rest) (omega arith)

pub columns_reaches : (left array base gate row : ℕ) (words : List ℕ) (carried : List Operand) (rest : List Move) → reaches (columns left array base gate row words carried ++ rest) ≡ left + reaches rest
columns_reaches zero array base gate row words carried rest = omega arith
columns_reaches (suc left) array base gate row words carried rest =
    let more = columns_reaches left (array + 1) (base + length words + 3) (base + length words + 2) row words (words_from base (length words + 1)) rest in omega arith

pub columns_ops : (left array base gate row m : ℕ) (words : List ℕ) (carried : List Operand) (rest : List Move) → m ≤ 12 → ((i : ℕ) → i ≤ 12 → longest i rest ≤ 48)
    → longest m (columns left array base gate row words carried ++ rest) ≤ 48
columns_ops zero array base gate row m words carried rest h then_ = then_ m h
columns_ops (suc left) array base gate row m words carried rest h then_ =
    let more = columns_ops left (array + 1) (base + length words + 3) (base + length words + 2) row (0 + 1) words (words_from base (length words + 1)) rest (omega arith) then_ in omega arith
