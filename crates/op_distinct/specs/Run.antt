-- The program's registers stand for the policy's lists, and its verdict on a row is the policy's.
use Rattle.std.proofs.Common.{◌≡◌, ◌≤◌, ◌<◌, ℕ, zero, suc, ◌+◌, ◌*◌, Bool, true, false, List, [], ◌∷◌, ◌++◌, ℤ, pos, inl, inr, refl, sym, ◌∙◌, ap, ap₂, arith, Some, length, map, replicate, nat_eq}
use Rattle.std.specs.Prelude.{◌||◌, ◌&&◌, ◌==◌, not, if◌then◌else◌}
use Rattle.std.specs.Ordering.{int_cmp, int_eq}
use Rattle.std.specs.Option.{option_and_then}
use Rattle.std.specs.Cmp.Lexicographic.{slice_cmp}
use Rattle.std.proofs.lemmas.Bool.{cases_Bool, cases_eq, eq-eqb, ne_eqb}
use Rattle.std.proofs.lemmas.List.{append-nil}
use Rattle.ch_lists.specs.Ordered.{is_among}
use Rattle.ch_cover.specs.Rows.{Row}
use Rattle.ch_ir.specs.declared.program.Operand.{Operand}
use Rattle.ch_ir.specs.declared.program.Operand.TheVariants.{Word, Const}
use Rattle.ch_ir.specs.declared.program.Array.{Array}
use Rattle.ch_ir.specs.Hash.{hash_of, hash_of-below}
use Rattle.ch_ir.specs.Machine.{Words, Registers, cells_of, cleared, ends, given, is_set, machine, put_all, read_all, read_words, truth}
use Rattle.ch_words.specs.Policies.{Key, listed_after, touched}
use Rattle.ch_verdicts.specs.Agrees.{Agrees, ArePassed, IsTaken}
use Rattle.op_moves.specs.Moves.{Move, Compute, moves_made}
use Rattle.op_moves.specs.Made.{machine_made, moves_then}
use Rattle.op_moves.specs.Steps.{Steps, steps_agree}
use Rattle.op_moves.specs.Values.{ArePlaces, Shows, places_are, computed, given_at, put_all_at, put_all_below, put_same, read_places, row_words, set_truth, shows_later, word_at}
use Rattle.op_cache.specs.Lists.{AreFormed, changed, encoded, encoded_cleared, encoded_same, entry_of, made, made_gated, still, still_is, touched_formed, touched_short}
use Rattle.op_cache.specs.Run.{AllBelow, moved, read_each}
use Rattle.op_cache.specs.InOrder.{gate_below}
use Rattle.op_distinct.specs.Sizes.{Sizes, IsFine}
use Rattle.op_distinct.specs.Program.{arrays_of, carried_of, distinct_program, fresh_word, gate_op, last_of, lists_of, moves_of, row_op, verdict_op}
use Rattle.op_distinct.specs.Serving.{distinct_policy, hash_row, key_of}

abbrev pub lists_after : Sizes → List (ℕ × Row) → ℕ → List Key
lists_after s before = listed_after s.cols (hash_row s) (key_of s) before

abbrev pub registers_after : Sizes → List (ℕ × Row) → Registers
registers_after s before = encoded (length s.key) s.cols s.rows (lists_after s before)

length_map : {X Y : Type 0} (f : X → Y) (xs : List X) → length (map f xs) ≡ length xs
length_map f [] = refl
length_map f (x ∷ xs) = ap suc (length_map f xs)

-- a list has at most so many keys, each of n words
lists_short : (s : Sizes) (before : List (ℕ × Row)) (i : ℕ) → length (lists_after s before i) ≤ s.cols
lists_short s [] i = omega arith
lists_short s (x ∷ before) i = go (x.1.bit && (hash_row s (key_of s x.1) == i)) (lists_short s before i)
  where
    go : (t : Bool) → length (lists_after s before i) ≤ s.cols → length (if t then touched s.cols (key_of s x.1) (lists_after s before i) else lists_after s before i) ≤ s.cols
    go true ih = touched_short s.cols (key_of s x.1) (lists_after s before i)
    go false ih = ih

lists_formed : (s : Sizes) (before : List (ℕ × Row)) (i : ℕ) → AreFormed (length s.key) (lists_after s before i)
lists_formed s [] i = tt
lists_formed s (x ∷ before) i = go (x.1.bit && (hash_row s (key_of s x.1) == i)) (lists_formed s before i)
  where
    go : (t : Bool) → AreFormed (length s.key) (lists_after s before i) → AreFormed (length s.key) (if t then touched s.cols (key_of s x.1) (lists_after s before i) else lists_after s before i)
    go true ih = touched_formed (length s.key) s.cols (key_of s x.1) (lists_after s before i) (length_map (word_at x.1) s.key) ih
    go false ih = ih

-- the lists after a row
lists_step : (cols r : ℕ) (bit : Bool) (k : Key) (lists : ℕ → List Key) (q : ℕ) → length (lists r) ≤ cols
    → changed r (made cols bit k (Some k) (lists r)) lists q ≡ (if bit && (r == q) then touched cols k (lists q) else lists q)
lists_step cols r bit k lists q short = elim (cases_eq q r) [
  | inl e ↦ rw (e, eq-eqb r r refl) (made_gated cols bit k (lists r) short ∙ go bit)
  | inr n ↦ rw (ne_eqb q r n, ne_eqb r q (λ m. n (sym m))) (other bit)
]
  where
    go : (b : Bool) → (if b then touched cols k (lists r) else lists r) ≡ (if b && true then touched cols k (lists r) else lists r)
    go true = refl
    go false = refl

    other : (b : Bool) → lists q ≡ (if b && false then touched cols k (lists q) else lists q)
    other true = refl
    other false = refl

pub places_below : (width n : ℕ) (places : List ℕ) → ArePlaces width places → width ≤ n → AllBelow n places
places_below width n [] h k = tt
places_below width n (p ∷ places) h k = let first = h.0.1 in (omega arith, places_below width n places h.1 k)

verdict_is : (bit among : Bool) → is_set (truth (int_eq (truth (bit && not among)) (pos 0))) ≡ not bit || among
verdict_is true true = refl
verdict_is true false = refl
verdict_is false among = refl

-- one row
pub step_is : (s : Sizes) → IsFine s → (before : List (ℕ × Row)) (x : ℕ × Row)
    → machine (distinct_program s) (registers_after s before) (row_words x)
    ≡ Some (record { prune = distinct_policy s before x; registers = registers_after s (x ∷ before) })
step_is s fine before x =
    let w : ℕ = s.width in
    let n : ℕ = length s.key in
    let wide = fine.wide in
    let places = places_are s.width s.key fine.places in
    let arrays : List Array = arrays_of s in
    let k : Key = key_of s x.1 in
    let bit : Bool = x.1.bit in
    let r : ℕ = hash_row s k in
    let lists : ℕ → List Key = lists_after s before in
    let regs : Registers = registers_after s before in
    let ws : Words = given w (row_words x) in
    let shows : Shows w (row_words x) ws = λ v h. given_at w (row_words x) v h in
    let last : List Move = Compute (verdict_op s) ∷ [] in
    let moves2 : List Move = lists_of s ++ last in
    let moves1 : List Move = Compute (row_op s) ∷ moves2 in
    let step1 = computed arrays (gate_op s) moves1 ws w [] (truth bit) regs (omega arith) (rw (shows 2 (omega arith)) (ap (λ (b : Bool). Some (truth b)) (set_truth bit))) in
    let ws1 : Words = put_all ws w (truth bit ∷ []) in
    let step2 = computed arrays (row_op s) moves2 ws w (truth bit ∷ []) (pos r) regs refl
    (rw (read_places w x ws1 s.key places (shows_later w (row_words x) ws w (truth bit ∷ []) (omega arith) shows)) refl) in
    let all : List ℤ = truth bit ∷ pos r ∷ [] in
    let ws2 : Words = put_all ws w all in
    let shows2 : Shows w (row_words x) ws2 = shows_later w (row_words x) ws w all (omega arith) shows in
    let keys : read_words ws2 s.key ≡ Some k = read_places w x ws2 s.key places shows2 in
    let long : length (carried_of s) ≡ n + 1 = ap suc (length_map Word_of s.key) ∙ omega arith in
    let cols = moved arrays s.cols 0 (w + 2) w (w + 1) s.key (carried_of s) ws2 [] [] s.rows r lists bit k (Some k)
    (λ a p q. array_cells s.cols s.rows (n + 1) a (omega arith)) refl (omega arith) (omega arith) (places_below w (w + 2) s.key places (omega arith)) (hash_of-below 0 k s.rows fine.some_rows)
    (put_all_at ws w all 0 w (omega arith) (omega arith)) (put_all_at ws w all 1 (w + 1) refl (omega arith)) keys long (lists_formed s before r)
    (λ t. rw (read_each ws2 s.key ∙ keys) refl) (λ t m. cc) in
    let kept : Bool = still s.cols bit k (lists r) in
    let after : Registers = encoded n s.cols s.rows (changed r (made s.cols bit k (Some k) (lists r)) lists) in
    let made_ : moves_made arrays (lists_of s) (record { words = ws2; registers = regs }) ≡ Some (record { words = cols.after; registers = after }) =
    ap (λ (y : Registers). moves_made arrays (lists_of s) (record { words = ws2; registers = y })) (sym (append-nil regs))
    ∙ (cols.is ∙ ap (λ (y : Registers). Some (record { words = cols.after; registers = y })) (append-nil after)) in
    let step3 = moves_then arrays (lists_of s) last (record { words = ws2; registers = regs }) (record { words = cols.after; registers = after }) made_ in
    let short = lists_short s before r in
    let verdict : is_set (truth (int_eq (truth kept) (pos 0))) ≡ distinct_policy s before x =
    ap (λ (b : Bool). is_set (truth (int_eq (truth b) (pos 0)))) (still_is s.cols bit k (lists r) short) ∙ verdict_is bit (is_among (slice_cmp int_cmp) k (lists r)) in
    let end_ : option_and_then (ends (last_of s)) (moves_made arrays last (record { words = cols.after; registers = after })) ≡ Some (record { prune = is_set (truth (int_eq (truth kept) (pos 0))); registers = after }) =
    rw (cols.gate_is, put_same cols.after (last_of s) (truth (int_eq (truth kept) (pos 0))) (last_of s) refl) refl in
    let new : after ≡ registers_after s (x ∷ before) =
    encoded_same n s.cols s.rows (changed r (made s.cols bit k (Some k) (lists r)) lists) (lists_after s (x ∷ before)) (λ q. lists_step s.cols r bit k lists q short) in
    machine_made w arrays (moves_of s) (last_of s) regs (row_words x)
    ∙ (ap (option_and_then (ends (last_of s))) (step1 ∙ (step2 ∙ step3))
    ∙ (end_ ∙ ap₂ (λ (t : Bool) (y : Registers). Some (record { prune = t; registers = y })) verdict new))
  where
    Word_of : ℕ → Operand
    Word_of p = Word p

    array_cells : (left rows m a : ℕ) → a < left → cells_of (replicate left (record { entries = rows; cells = m })) a ≡ m
    array_cells zero rows m a h = absurd (omega arith)
    array_cells (suc left) rows m zero h = refl
    array_cells (suc left) rows m (suc a) h = array_cells left rows m a (omega arith)

suc_cells : (left rows n : ℕ) → cleared (replicate left (record { entries = rows; cells = suc n })) ≡ cleared (replicate left (record { entries = rows; cells = n + 1 }))
suc_cells left rows n = ap (λ (m : ℕ). cleared (replicate left (record { entries = rows; cells = m }))) (omega arith)

pub distinct_steps : (s : Sizes) → IsFine s → Steps (λ r. true) (distinct_program s) (distinct_policy s) (registers_after s)
distinct_steps s fine = record {
  begun = encoded_cleared (length s.key) s.cols s.rows ∙ suc_cells s.cols s.rows (length s.key);
  step = λ before x b t. step_is s fine before x;
}
