-- The program's registers stand for the policy's lists, and its verdict on a row is the policy's.
use Rattle.std.proofs.Common.{◌≡◌, ◌≤◌, ◌<◌, ℕ, zero, suc, ◌+◌, ◌*◌, ◌^◌, Bool, true, false, List, [], ◌∷◌, ◌++◌, ℤ, pos, ◌+ℤ◌, ◌-ℤ◌, ◌≤ℤ◌, int_le, inl, inr, refl, sym, ◌∙◌, ap, ap₂, arith, Some, length, map, replicate, nat_eq, subst}
use Rattle.std.specs.Prelude.{◌||◌, ◌&&◌, ◌==◌, not, if◌then◌else◌}
use Rattle.std.specs.Option.{option_and_then}
use Rattle.std.specs.List.{list_all}
use Rattle.std.proofs.lemmas.Bool.{and_parts, cases_eq, eq-eqb, leb-true, ltb-true, ne_eqb}
use Rattle.std.proofs.lemmas.Int.{ints}
use Rattle.std.proofs.lemmas.List.{append-nil}
use Rattle.ch_cover.specs.Rows.{Row}
use Rattle.ch_ir.specs.declared.program.Binary.TheVariants as binary
use Rattle.ch_ir.specs.declared.program.Array.{Array}
use Rattle.ch_ir.specs.Hash.{hash_of, hash_of-below}
use Rattle.ch_ir.specs.Machine.{Words, Registers, cells_of, cleared, ends, given, machine, put_all, truth, two_of}
use Rattle.ch_prune.specs.Sent.{is_cell_word}
use Rattle.ch_words.specs.Policies.{Key}
use Rattle.op_moves.specs.Moves.{Move, Compute, moves_made}
use Rattle.op_moves.specs.Made.{machine_made, moves_then}
use Rattle.op_moves.specs.Steps.{Steps}
use Rattle.op_moves.specs.Values.{ArePlaces, Shows, computed, finished, given_at, places_are, put_all_at, put_all_below, read_places, row_words, set_truth, shows_later, word_at, word_given}
use Rattle.op_cache.specs.Run.{AllBelow}
use Rattle.op_group.specs.Sizes.{Sizes, IsFine}
use Rattle.op_group.specs.Policy.{Pair, group_policy, hash_row, is_beaten, key_of, oriented, pairs_after, placed, value_of}
use Rattle.op_group.specs.Program.{arrays_of, bad_word, gate_op, group_program, last_of, moves_of, none_op, pairs_of, row_op, value_op, verdict_op}
use Rattle.op_moves.specs.Range.{Small, saturated, turned_small, word_small}
use Rattle.op_group.specs.Lists.{NoneTwice, pairs_formed, pairs_once, pairs_short}
use Rattle.op_group.specs.Encoding.{changed, encoded, encoded_cleared, encoded_same, settled, settled_gated, some_beat, some_beat_is}
use Rattle.op_group.specs.Column.{Reads}
use Rattle.op_group.specs.Run.{settles}

abbrev pub registers_after : Sizes → List (ℕ × Row) → Registers
registers_after s before = encoded (length s.key) s.cols s.rows (pairs_after s before)

-- 2^61 and the oriented value
shifted_is : (is_max : Bool) (v : ℤ) → Small v → two_of (if is_max then binary.Add else binary.Sub) (pos (2 ^ 61)) v ≡ pos (2 ^ 61) +ℤ oriented is_max v
shifted_is true v s = let l = s.low in let h = s.high in saturated (pos (2 ^ 61) +ℤ v) (omega (arith, ints)) (omega (arith, ints))
shifted_is false v s = let l = s.low in let h = s.high in saturated (pos (2 ^ 61) -ℤ v) (omega (arith, ints)) (omega (arith, ints)) ∙ grind (arith, ints)

oriented_small : (is_max : Bool) (v : ℤ) → Small v → Small (oriented is_max v)
oriented_small true v s = s
oriented_small false v s = turned_small v s

no_le : (v : ℤ) → Small v → int_le (pos (2 ^ 61) +ℤ v) (pos 0) ≡ false
no_le v s = let l = s.low in grind (arith, ints)

above_free : (v : ℤ) → Small v → pos 0 ≤ℤ (pos (2 ^ 61) +ℤ v)
above_free v s = let l = s.low in omega (arith, ints)

reads_places : (width : ℕ) (x : ℕ × Row) (ws : Words) (places : List ℕ) → ArePlaces width places → Shows width (row_words x) ws → Reads ws places (map (word_at x.1) places)
reads_places width x ws [] h shows = tt
reads_places width x ws (p ∷ places) h shows = (shows p h.0.1 ∙ ap Some (word_given x p h.0.0), reads_places width x ws places h.1 shows)

pub places_below : (width n : ℕ) (places : List ℕ) → ArePlaces width places → width ≤ n → AllBelow n places
places_below width n [] h k = tt
places_below width n (p ∷ places) h k = let first = h.0.1 in (omega arith, places_below width n places h.1 k)

array_cells : (left rows m a : ℕ) → a < left → cells_of (replicate left (record { entries = rows; cells = m })) a ≡ m
array_cells zero rows m a h = absurd (omega arith)
array_cells (suc left) rows m zero h = refl
array_cells (suc left) rows m (suc a) h = array_cells left rows m a (omega arith)

-- the lists after a row
lists_step : (cols r : ℕ) (bit : Bool) (k : Key) (v : ℤ) (lists : ℕ → List Pair) (q : ℕ) → 1 ≤ cols → length (lists r) ≤ cols → NoneTwice (lists r)
    → changed r (settled cols bit k v (lists r)) lists q ≡ (if bit && (r == q) then placed cols k v (lists q) else lists q)
lists_step cols r bit k v lists q some short once = elim (cases_eq q r) [
  | inl e ↦ rw (e, eq-eqb r r refl) (settled_gated cols bit k v (lists r) some short once ∙ go bit)
  | inr n ↦ rw (ne_eqb q r n, ne_eqb r q (λ m. n (sym m))) (other bit)
]
  where
    go : (b : Bool) → (if b then placed cols k v (lists r) else lists r) ≡ (if b && true then placed cols k v (lists r) else lists r)
    go true = refl
    go false = refl

    other : (b : Bool) → lists q ≡ (if b && false then placed cols k v (lists q) else lists q)
    other true = refl
    other false = refl

verdict_is : (cols : ℕ) (bit : Bool) (k : Key) (v : ℤ) (l : List Pair) → Small v → length l ≤ cols → NoneTwice l → not bit || (false || some_beat cols bit k v l) ≡ not bit || is_beaten k v l
verdict_is cols false k v l small short once = refl
verdict_is cols true k v l small short once = some_beat_is cols k v l (no_le v small) short once

-- one row
pub step_is : (s : Sizes) → IsFine s → (before : List (ℕ × Row)) (x : ℕ × Row) → list_all is_cell_word x.1.words ≡ true
    → machine (group_program s) (registers_after s before) (row_words x)
    ≡ Some (record { prune = group_policy s before x; registers = registers_after s (x ∷ before) })
step_is s fine before x taken =
    let w : ℕ = s.width in
    let n : ℕ = length s.key in
    let wide = fine.wide in
    let places = places_are s.width s.key fine.places in
    let arrays : List Array = arrays_of s in
    let k : Key = key_of s x.1 in
    let raw : ℤ = word_at x.1 s.value in
    let v : ℤ = value_of s x.1 in
    let u : ℤ = pos (2 ^ 61) +ℤ v in
    let small_raw = word_small x.1 s.value taken in
    let small = oriented_small s.is_max raw small_raw in
    let bit : Bool = x.1.bit in
    let r : ℕ = hash_row s k in
    let lists : ℕ → List Pair = pairs_after s before in
    let regs : Registers = registers_after s before in
    let ws : Words = given w (row_words x) in
    let shows : Shows w (row_words x) ws = λ m h. given_at w (row_words x) m h in
    let value = and_parts _ _ fine.value_place in
    let value_low = leb-true 2 s.value value.0 in
    let value_high = ltb-true s.value w value.1 in
    let last : List Move = Compute (verdict_op s) ∷ [] in
    let moves4 : List Move = pairs_of s ++ last in
    let moves3 : List Move = Compute (none_op s) ∷ moves4 in
    let moves2 : List Move = Compute (value_op s) ∷ moves3 in
    let moves1 : List Move = Compute (row_op s) ∷ moves2 in
    let one : List ℤ = truth bit ∷ [] in
    let two : List ℤ = truth bit ∷ pos r ∷ [] in
    let three : List ℤ = truth bit ∷ pos r ∷ u ∷ [] in
    let all : List ℤ = truth bit ∷ pos r ∷ u ∷ truth false ∷ [] in
    let step1 = computed arrays (gate_op s) moves1 ws w [] (truth bit) regs (omega arith) (rw (shows 2 (omega arith)) (ap (λ (b : Bool). Some (truth b)) (set_truth bit))) in
    let step2 = computed arrays (row_op s) moves2 ws w one (pos r) regs refl (rw (read_places w x (put_all ws w one) s.key places (shows_later w (row_words x) ws w one (omega arith) shows)) refl) in
    let shown : put_all ws w two s.value ≡ Some raw = shows_later w (row_words x) ws w two (omega arith) shows s.value value_high ∙ ap Some (word_given x s.value value_low) in
    let step3 = computed arrays (value_op s) moves3 ws w two u regs refl (rw shown (ap Some (shifted_is s.is_max raw small_raw))) in
    let step4 = computed arrays (none_op s) moves4 ws w three (truth false) regs refl refl in
    let ws4 : Words = put_all ws w all in
    let shows4 : Shows w (row_words x) ws4 = shows_later w (row_words x) ws w all (omega arith) shows in
    let short = pairs_short s before r fine.some_cols in
    let once = pairs_once s before r in
    let run = settles arrays s.cols 0 (w + 4) w (w + 1) (w + 2) (w + 3) s.key ws4 [] [] s.rows r lists bit false k v
    (λ a p q. array_cells s.cols s.rows (n + 2) a (omega arith)) refl (omega arith) (omega arith) (omega arith) (omega arith) (places_below w (w + 4) s.key places (omega arith)) (hash_of-below 0 k s.rows fine.some_rows)
    (put_all_at ws w all 0 w (omega arith) (omega arith)) (put_all_at ws w all 1 (w + 1) refl (omega arith)) (put_all_at ws w all 2 (w + 2) refl (omega arith)) (put_all_at ws w all 3 (w + 3) refl (omega arith))
    (reads_places w x ws4 s.key places shows4) (pairs_formed s before r) (above_free v small) in
    let after : Registers = encoded n s.cols s.rows (changed r (settled s.cols bit k v (lists r)) lists) in
    let made_ : moves_made arrays (pairs_of s) (record { words = ws4; registers = regs }) ≡ Some (record { words = run.after; registers = after }) =
    ap (λ (y : Registers). moves_made arrays (pairs_of s) (record { words = ws4; registers = y })) (sym (append-nil regs))
    ∙ (run.is ∙ ap (λ (y : Registers). Some (record { words = run.after; registers = y })) (append-nil after)) in
    let step5 = moves_then arrays (pairs_of s) last (record { words = ws4; registers = regs }) (record { words = run.after; registers = after }) made_ in
    let end_ = finished arrays (last_of s) w (bad_word s) run.after after bit (false || some_beat s.cols bit k v (lists r)) (run.kept w (omega arith) ∙ put_all_at ws w all 0 w (omega arith) (omega arith)) run.bad_is in
    let new : after ≡ registers_after s (x ∷ before) =
    encoded_same n s.cols s.rows (changed r (settled s.cols bit k v (lists r)) lists) (pairs_after s (x ∷ before)) (λ q. lists_step s.cols r bit k v lists q fine.some_cols short once) in
    machine_made w arrays (moves_of s) (last_of s) regs (row_words x)
    ∙ (ap (option_and_then (ends (last_of s))) (step1 ∙ (step2 ∙ (step3 ∙ (step4 ∙ step5))))
    ∙ (end_ ∙ ap₂ (λ (t : Bool) (y : Registers). Some (record { prune = t; registers = y })) (verdict_is s.cols bit k v (lists r) small short once) new))

abbrev pub group_takes : Row → Bool
group_takes r = list_all is_cell_word r.words

pub group_steps : (s : Sizes) → IsFine s → Steps group_takes (group_program s) (group_policy s) (registers_after s)
group_steps s fine = record {
  begun = encoded_cleared (length s.key) s.cols s.rows ∙ ap (λ (m : ℕ). cleared (replicate s.cols (record { entries = s.rows; cells = m }))) (omega arith);
  step = λ before x b t. step_is s fine before x t.1;
}
