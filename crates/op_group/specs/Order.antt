-- The moves are in order, and what they need.
use Rattle.std.proofs.Common.{◌≡◌, ◌<◌, ◌≤◌, ℕ, zero, suc, ◌+◌, ◌*◌, Bool, true, false, List, [], ◌∷◌, ◌++◌, pos, refl, sym, ◌∙◌, ap, arith, Some, length, map, replicate}
use Rattle.std.specs.Prelude.{◌-◌, if◌then◌else◌}
use Rattle.std.proofs.lemmas.Bool.{and_parts, eq-eqb, lt-ltb, ltb-true}
use Rattle.std.proofs.lemmas.List.{length-replicate}
use Rattle.ch_ir.specs.declared.program.Operand.{Operand}
use Rattle.ch_ir.specs.declared.program.Operand.TheVariants.{Word}
use Rattle.ch_ir.specs.declared.program.Update.{Update}
use Rattle.ch_ir.specs.declared.program.Update.TheVariants as update
use Rattle.ch_ir.specs.declared.program.Array.{Array}
use Rattle.ch_ir.specs.Machine.{cells_of}
use Rattle.ch_ir.specs.Measure.{operands_end, sizes_of}
use Rattle.ch_ir.specs.Rules.{BreaksNoRule, Known, entries_of, has_modulus, inputs, update_operands}
use Rattle.ch_prune.specs.Needs.{IsWithin}
use Rattle.op_moves.specs.Moves.{Move, Compute, Reach, longest, reaches}
use Rattle.op_moves.specs.InOrder.{AccessInOrder, InOrder, OpInOrder, next_word}
use Rattle.op_moves.specs.Fits.{unbroken}
use Rattle.op_moves.specs.Reads.{next_op, next_reach, places_end}
use Rattle.op_moves.specs.Values.{places_are}
use Rattle.op_moves.specs.Within.{greatest_same, within}
use Rattle.op_cache.specs.Run.{AllBelow, below_later}
use Rattle.op_cache.specs.InOrder.{words_end}
use Rattle.op_group.specs.Sizes.{Sizes, IsFine}
use Rattle.op_group.specs.Program.{arrays_of, bad_after, bad_op, bad_word, beat_op, column, columns, gate_op, group_need, group_program, last_of, least_op, moves_of, none_op, open_op, other_pair, pairs_of, put_words, raise_pair, row_op, told, value_op, verdict_op}
use Rattle.op_group.specs.Agrees.{places_below}

times_more : (a left : ℕ) → a * suc left ≡ a * left + a
times_more a left = omega arith

bad_below : (n left base bad : ℕ) → bad < base → bad_after n left base bad < base + (n + 7) * left
bad_below n zero base bad h = omega arith
bad_below n (suc left) base bad h =
    let more = bad_below n left (base + n + 7) (base + n + 5) (omega arith) in
    let e = times_more (n + 7) left in
    omega arith

pub bad_is : (n left base bad : ℕ) → bad_after n (suc left) base bad ≡ base + (n + 7) * left + n + 5
bad_is n zero base bad = omega arith
bad_is n (suc left) base bad = let e = times_more (n + 7) left in bad_is n left (base + n + 7) (base + n + 5) ∙ omega arith

-- what the updates of a column read

put_end : (m : ℕ) (words : List ℕ) (us : List Update) → AllBelow m words → operands_end (update_operands us) ≤ m → operands_end (update_operands (put_words words ++ us)) ≤ m
put_end m [] us b h = h
put_end m (w ∷ words) us b h = let first = b.0 in let rest = put_end m words us b.1 h in omega arith

keep_end : (m n : ℕ) → operands_end (update_operands (replicate n update.Keep)) ≤ m
keep_end m zero = omega arith
keep_end m (suc n) = keep_end m n

put_long : (words : List ℕ) (u : Update) → length (put_words words ++ u ∷ []) ≡ length words + 1
put_long [] u = refl
put_long (w ∷ words) u = let rest = put_long words u in omega arith

other_end : (left m value : ℕ) (words : List ℕ) → AllBelow m words → value < m → operands_end (update_operands (other_pair left words value)) ≤ m
other_end zero m value words b h = let e = put_end m words (update.Put (Word value) ∷ []) b (omega arith) in omega arith
other_end (suc left) m value words b h = keep_end m (length words + 2)

other_long : (left value : ℕ) (words : List ℕ) → length (other_pair left words value) ≡ length words + 2
other_long zero value words = let e = put_long words (update.Put (Word value)) in omega arith
other_long (suc left) value words = length-replicate (length words + 2) update.Keep

ends_append : (xs ys : List Operand) (m : ℕ) → operands_end xs ≤ m → operands_end ys ≤ m → operands_end (xs ++ ys) ≤ m
ends_append [] ys m h k = k
ends_append (x ∷ xs) ys m h k = let rest = ends_append xs ys m (omega arith) k in omega arith

length_words : (words : List ℕ) → length (map Word words) ≡ length words
length_words [] = refl
length_words (w ∷ words) = ap suc (length_words words)

abbrev pub IsColumn : ℕ → ℕ → List Array → ℕ → Type 0
IsColumn rows n arrays a = (entries_of arrays a ≡ rows) × (cells_of arrays a ≡ n + 2)

columns_there : (left rows n a : ℕ) → a < left → IsColumn rows n (replicate left (record { entries = rows; cells = n + 2 })) a
columns_there zero rows n a h = absurd (omega arith)
columns_there (suc left) rows n zero h = (refl, refl)
columns_there (suc left) rows n (suc a) h = columns_there left rows n a (omega arith)

column_in_order : (arrays : List Array) (left array base gate row value rows : ℕ) (words : List ℕ) (ks : Known)
    → IsColumn rows (length words) arrays array → 0 < rows → gate < base → row < base → value < base → AllBelow base words
    → ks row ≡ Some (record { low = pos 0; high = pos (rows - 1) })
    → AccessInOrder arrays base array ks (column left array base gate row value words)
column_in_order arrays left array base gate row value rows words ks shape some gb rb vb kb e =
    let n : ℕ = length words in
    let en = shape.0 in
    let ce = shape.1 in
    let lt : rows - 1 < rows = omega arith in
    let yes_long : length (raise_pair words value) ≡ n + 2 = let p = put_long words (update.Max (Word value)) in omega arith in
    let key : operands_end (map Word words) ≤ base = words_end base words kb in
    let yes_end : operands_end (update_operands (raise_pair words value)) ≤ base = let e = put_end base words (update.Max (Word value) ∷ []) kb (omega arith) in omega arith in
    let no_end : operands_end (update_operands (other_pair left words value)) ≤ base = other_end left base value words kb vb in
    let others = ends_append (map Word words) (update_operands (raise_pair words value) ++ update_operands (other_pair left words value)) base key
    (ends_append (update_operands (raise_pair words value)) (update_operands (other_pair left words value)) base yes_end no_end) in
    record {
      next_array = refl;
      shape = rw (
        en,
        ce,
        lt-ltb 0 rows some,
        lt-ltb 0 (n + 2) (omega arith),
        eq-eqb (length (raise_pair words value)) (n + 2) yes_long,
        eq-eqb (length (other_pair left words value)) (n + 2) (other_long left value words),
        eq-eqb (length (map Word words)) n (length_words words),
        lt-ltb n (n + 2) (omega arith),
      ) refl;
      reads = omega arith;
      low = rw e refl;
      high = rw (e, en, lt-ltb (rows - 1) rows lt) refl;
      next = refl;
      next_hit = omega arith;
    }

columns_in_order : (arrays : List Array) (left array base gate row value bad rows : ℕ) (words : List ℕ) (ks : Known) (rest : List Move)
    → 0 < rows → gate < base → row < base → value < base → bad < base → AllBelow base words
    → ks row ≡ Some (record { low = pos 0; high = pos (rows - 1) }) → ((a : ℕ) → array ≤ a → a < array + left → IsColumn rows (length words) arrays a)
    → ((m j : ℕ) (ls : Known) → m ≡ base + (length words + 7) * left → j ≡ array + left → InOrder arrays m j ls rest)
    → InOrder arrays base array ks (columns left array base gate row value bad words ++ rest)
columns_in_order arrays zero array base gate row value bad rows words ks rest some gb rb vb bb kb e shape then_ = then_ base array ks (omega arith) (omega arith)
columns_in_order arrays (suc left) array base gate row value bad rows words ks rest some gb rb vb bb kb e shape then_ =
    let n : ℕ = length words in
    let this = shape array (omega arith) (omega arith) in
    let ce = this.1 in
    let tail : List Move = columns left (array + 1) (base + n + 7) (base + n + 6) row value (base + n + 5) words ++ rest in
    let moves3 : List Move = Compute (open_op n base gate) ∷ tail in
    let moves2 : List Move = Compute (bad_op n base bad) ∷ moves3 in
    let moves1 : List Move = Compute (beat_op n base) ∷ moves2 in
    let times = times_more (n + 7) left in
    next_reach arrays base (base + n + 3) array ks (column left array base gate row value words) (Compute (least_op n base value) ∷ moves1) (omega arith)
    (column_in_order arrays left array base gate row value rows words ks this some gb rb vb kb e) (λ k1 f1.
    next_op arrays (base + n + 3) (base + n + 4) (array + 1) k1 (least_op n base value) moves1 (omega arith) (record { next = refl; reads = omega arith; modulus = refl }) (λ k2 s2 f2.
    next_op arrays (base + n + 4) (base + n + 5) (array + 1) k2 (beat_op n base) moves2 (omega arith) (record { next = refl; reads = omega arith; modulus = refl }) (λ k3 s3 f3.
    next_op arrays (base + n + 5) (base + n + 6) (array + 1) k3 (bad_op n base bad) moves3 (omega arith) (record { next = refl; reads = omega arith; modulus = refl }) (λ k4 s4 f4.
    next_op arrays (base + n + 6) (base + n + 7) (array + 1) k4 (open_op n base gate) tail (omega arith) (record { next = refl; reads = omega arith; modulus = refl }) (λ k5 s5 f5.
    columns_in_order arrays left (array + 1) (base + n + 7) (base + n + 6) row value (base + n + 5) rows words k5 rest some (omega arith) (omega arith) (omega arith) (omega arith) (below_later base (base + n + 7) words (omega arith) kb)
    (f5 row (omega arith) ∙ (f4 row (omega arith) ∙ (f3 row (omega arith) ∙ (f2 row (omega arith) ∙ (f1 row rb ∙ e))))) (λ a p q. shape a (omega arith) (omega arith)) (λ m j ls p q. then_ m j ls (omega arith) (omega arith)))))))

columns_words : (arrays : List Array) (left array base gate row value bad m : ℕ) (words : List ℕ) (rest : List Move)
    → ((a : ℕ) → array ≤ a → a < array + left → cells_of arrays a ≡ length words + 2)
    → next_word arrays m (columns left array base gate row value bad words ++ rest) ≡ next_word arrays (m + (length words + 7) * left) rest
columns_words arrays zero array base gate row value bad m words rest shape = ap (λ (i : ℕ). next_word arrays i rest) (omega arith)
columns_words arrays (suc left) array base gate row value bad m words rest shape =
    let n : ℕ = length words in
    let ce = shape array (omega arith) (omega arith) in
    let times = times_more (n + 7) left in
    columns_words arrays left (array + 1) (base + n + 7) (base + n + 6) row value (base + n + 5) (m + cells_of arrays array + 1 + 1 + 1 + 1 + 1) words rest (λ a p q. shape a (omega arith) (omega arith))
    ∙ ap (λ (i : ℕ). next_word arrays i rest) (omega arith)

columns_reaches : (left array base gate row value bad : ℕ) (words : List ℕ) (rest : List Move) → reaches (columns left array base gate row value bad words ++ rest) ≡ left + reaches rest
columns_reaches zero array base gate row value bad words rest = omega arith
columns_reaches (suc left) array base gate row value bad words rest =
    let more = columns_reaches left (array + 1) (base + length words + 7) (base + length words + 6) row value (base + length words + 5) words rest in omega arith

columns_ops : (left array base gate row value bad m : ℕ) (words : List ℕ) (rest : List Move) → m ≤ 12 → ((i : ℕ) → i ≤ 12 → longest i rest ≤ 48)
    → longest m (columns left array base gate row value bad words ++ rest) ≤ 48
columns_ops zero array base gate row value bad m words rest h then_ = then_ m h
columns_ops (suc left) array base gate row value bad m words rest h then_ =
    let more = columns_ops left (array + 1) (base + length words + 7) (base + length words + 6) row value (base + length words + 5) (0 + 1 + 1 + 1 + 1) words rest (omega arith) then_ in omega arith

module _ (s : Sizes) (fine : IsFine s) where
  abbrev last_move : List Move
  last_move = Compute (verdict_op s) ∷ []

  bad_fits : bad_word s < last_of s
  bad_fits = bad_below (length s.key) s.cols (s.width + 4) (s.width + 3) (omega arith)

  pub group_in_order : InOrder (arrays_of s) s.width 0 (inputs s.width) (moves_of s)
  group_in_order =
      let w : ℕ = s.width in
      let wide = fine.wide in
      let places = places_are s.width s.key fine.places in
      let value_high : s.value < w = ltb-true s.value w (and_parts _ _ fine.value_place).1 in
      let tail : List Move = pairs_of s ++ last_move in
      next_op (arrays_of s) w (w + 1) 0 (inputs w) (gate_op s) (Compute (row_op s) ∷ Compute (value_op s) ∷ Compute (none_op s) ∷ tail) refl (record { next = refl; reads = omega arith; modulus = refl }) (λ k1 s1 f1.
      next_op (arrays_of s) (w + 1) (w + 2) 0 k1 (row_op s) (Compute (value_op s) ∷ Compute (none_op s) ∷ tail) (omega arith) (record { next = refl; reads = places_end w (w + 1) s.key places (omega arith); modulus = lt-ltb 0 s.rows fine.some_rows }) (λ k2 s2 f2.
      next_op (arrays_of s) (w + 2) (w + 3) 0 k2 (value_op s) (Compute (none_op s) ∷ tail) (omega arith) (record { next = refl; reads = omega arith; modulus = refl }) (λ k3 s3 f3.
      next_op (arrays_of s) (w + 3) (w + 4) 0 k3 (none_op s) tail (omega arith) (record { next = refl; reads = omega arith; modulus = refl }) (λ k4 s4 f4.
      columns_in_order (arrays_of s) s.cols 0 (w + 4) w (w + 1) (w + 2) (w + 3) s.rows s.key k4 last_move fine.some_rows (omega arith) (omega arith) (omega arith) (omega arith) (places_below w (w + 4) s.key places (omega arith))
      (f4 (w + 1) (omega arith) ∙ (f3 (w + 1) (omega arith) ∙ s2)) (λ a p q. columns_there s.cols s.rows (length s.key) a (omega arith))
      (λ m j ls p q. (record { next = sym p; reads = (let f = bad_fits in omega arith); modulus = refl }, tt))))))

  words_are : next_word (arrays_of s) s.width (moves_of s) ≡ last_of s + 1
  words_are =
      columns_words (arrays_of s) s.cols 0 (s.width + 4) s.width (s.width + 1) (s.width + 2) (s.width + 3) (s.width + 1 + 1 + 1 + 1) s.key last_move
      (λ a p q. (columns_there s.cols s.rows (length s.key) a (omega arith)).1)
      ∙ omega arith

  pub group_unbroken : BreaksNoRule (group_program s)
  group_unbroken = unbroken s.width (arrays_of s) (moves_of s) (last_of s) group_in_order (let e = words_are in omega arith)

  pub group_measured : (ops : ℕ) → 48 ≤ ops → IsWithin (group_need s) ops (sizes_of (group_program s))
  group_measured ops many =
      let words = words_are in
      let more : (length s.key + 7) * s.cols ≤ s.cols * (length s.key + 32) = less_words (length s.key) s.cols in
      within (group_need s) ops s.width (arrays_of s) (moves_of s) (last_of s) group_in_order (omega arith) refl (greatest_same s.cols s.rows (length s.key + 2)) (omega arith)
      (let r = columns_reaches s.cols 0 (s.width + 4) s.width (s.width + 1) (s.width + 2) (s.width + 3) s.key last_move in omega arith)
      (columns_ops s.cols 0 (s.width + 4) s.width (s.width + 1) (s.width + 2) (s.width + 3) (0 + 1 + 1 + 1 + 1) s.key last_move (omega arith) (λ i h. omega arith))
      many
    where
      less_words : (n cols : ℕ) → (n + 7) * cols ≤ cols * (n + 32)
      less_words n cols = omega arith
