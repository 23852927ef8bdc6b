-- The program's verdicts are the policy's.
use Rattle.std.proofs.Common.{◌≡◌, ℕ, zero, suc, ◌+◌, Bool, true, false, List, [], ◌∷◌, ◌++◌, ℤ, pos, negsuc, ◌+ℤ◌, ◌≤ℤ◌, inl, inr, refl, sym, ◌∙◌, ap, ap₂, arith, Option, Some, None, map, filter, nat_eq}
use Rattle.std.specs.Prelude.{if◌then◌else◌, ◌||◌, ◌&&◌, ◌==◌, not, int_le, int_lt}
use Rattle.std.specs.Option.{option_and_then}
use Rattle.std.specs.Int.{w64, saturate_signed, int_min}
use Rattle.std.proofs.lemmas.Bool.{cases_Bool, cases_eq, eq-eqb, ne_eqb, leb-true}
use Rattle.std.proofs.lemmas.Int.{ints, clamps}
use Rattle.ch_cells.specs.Number.{greatest_magnitude}
use Rattle.ch_cover.specs.Rows.{Row}
use Rattle.ch_ir.specs.declared.program.Array.{Array}
use Rattle.ch_ir.specs.Machine.{Words, Registers, put_all, read, truth, is_set, given, machine, ends, cleared}
use Rattle.ch_pred.specs.Meaning.{total}
use Rattle.ch_prune.specs.Sent.{is_cell_word}
use Rattle.ch_verdicts.specs.Agrees.{Agrees, ArePassed}
use Rattle.op_moves.specs.Moves.{Move, Compute}
use Rattle.op_moves.specs.Made.{machine_made, moves_then}
use Rattle.op_moves.specs.Values.{row_words, word_given, Shows, shows_later, given_at, put_all_at, computed, finished, set_truth, pos_eq, or_any, any_below, or_all, verdict_same}
use Rattle.op_moves.specs.Sheets.{sheets, sheets_same, sheets_cleared, changed, array_at}
use Rattle.op_moves.specs.Steps.{Steps, steps_agree}
use Rattle.op_having.specs.declared.sizes.Sizes.{Sizes}
use Rattle.op_having.specs.Fine.{IsFine, is_value_place}
use Rattle.op_having.specs.Places.{place_of}
use Rattle.op_having.specs.Policy.{key_of, amount_at, cell_of, shares, cell_sum, largest, least, prunes}
use Rattle.op_having.specs.Program.{value_operand, bit_op, first_op, added_op, sweep, bad_after, verdict_of, last_op, arrays_of, moves_of, program}
use Rattle.op_having.specs.Run.{places, added_to, is_low, swept}

-- the rows that it takes: what they count isn't negative
abbrev pub counts : Sizes → Row → Bool
counts d r = int_le (pos 0) (amount_at d.value r)

-- what the registers hold: each cell's sum, cut at the largest word
abbrev pub sums : Sizes → List (ℕ × Row) → ℕ → ℕ → ℤ
sums d before i c = int_min largest (cell_sum d before i c)

abbrev pub registers_after : Sizes → List (ℕ × Row) → Registers
registers_after d before = sheets d.hashes 0 d.cells (sums d before)

saturated : (a b : ℕ) → saturate_signed w64 (int_min largest (pos a) +ℤ pos b) ≡ int_min largest (pos b +ℤ pos a)
saturated a b = grind (arith, ints, clamps)

made : (first bit : Bool) (a v : ℤ) → pos 0 ≤ℤ a → pos 0 ≤ℤ v
    → (if bit && true then saturate_signed w64 (int_min largest a +ℤ (if first then v else pos 0)) else int_min largest a) ≡ int_min largest ((if first && (bit && true) then v else pos 0) +ℤ a)
made true true (pos a) (pos v) h k = saturated a v
made false true (pos a) (pos v) h k = saturated a 0
made true false (pos a) (pos v) h k = omega (arith, ints, clamps)
made false false (pos a) (pos v) h k = omega (arith, ints, clamps)
made first bit (negsuc a) v h k = absurd (omega (arith, ints))
made first bit (pos a) (negsuc v) h k = absurd (omega (arith, ints))

unmade : (first bit : Bool) (a b v : ℤ) → (if bit && false then b else int_min largest a) ≡ int_min largest ((if first && (bit && false) then v else pos 0) +ℤ a)
unmade true true a b v = omega (arith, ints, clamps)
unmade false true a b v = omega (arith, ints, clamps)
unmade true false a b v = omega (arith, ints, clamps)
unmade false false a b v = omega (arith, ints, clamps)

-- a cell after a row
cell_made : (first bit : Bool) (c r : ℕ) (v : ℤ) (sum : ℕ → ℤ) → pos 0 ≤ℤ v → pos 0 ≤ℤ sum c
    → (if bit && nat_eq c r then saturate_signed w64 (int_min largest (sum r) +ℤ (if first then v else pos 0)) else int_min largest (sum c))
    ≡ int_min largest ((if first && (bit && (r == c)) then v else pos 0) +ℤ sum c)
cell_made first bit c r v sum hv hs = elim (cases_eq c r) [
  | inl e ↦ rw (← e, eq-eqb c c refl) (made first bit (sum c) v hs hv)
  | inr n ↦ rw (ne_eqb c r n, ne_eqb r c (λ m. n (sym m))) (unmade first bit (sum c) (saturate_signed w64 (int_min largest (sum r) +ℤ (if first then v else pos 0))) v)
]

-- a sum with a row more
sum_more : (f : ℕ × Row → ℤ) (b : Bool) (x : ℕ × Row) (xs : List (ℕ × Row)) → total (map f (if b then x ∷ xs else xs)) ≡ (if b then f x else pos 0) +ℤ total (map f xs)
sum_more f true x xs = refl
sum_more f false x xs = omega (arith, ints)

cell_more : (d : Sizes) (x : ℕ × Row) (before : List (ℕ × Row)) (i c : ℕ)
    → cell_sum d (x ∷ before) i c ≡ (if shares d i c x then amount_at d.value x.1 else pos 0) +ℤ cell_sum d before i c
cell_more d x before i c = sum_more (λ y. amount_at d.value y.1) (shares d i c x) x (filter (shares d i c) before)

kept_sum : (b : Bool) (v s : ℤ) → pos 0 ≤ℤ v → pos 0 ≤ℤ s → pos 0 ≤ℤ ((if b then v else pos 0) +ℤ s)
kept_sum true v s h k = omega (arith, ints)
kept_sum false v s h k = omega (arith, ints)

not_negative : (v : ℤ) → int_le (pos 0) v ≡ true → pos 0 ≤ℤ v
not_negative v h = grind (arith, ints)

-- no sum is negative
none_negative : (d : Sizes) (before : List (ℕ × Row)) → ArePassed (counts d) before → (i c : ℕ) → pos 0 ≤ℤ cell_sum d before i c
none_negative d [] h i c = omega (arith, ints)
none_negative d (x ∷ before) h i c =
    rw (cell_more d x before i c)
    (kept_sum (shares d i c x) (amount_at d.value x.1) (cell_sum d before i c) (not_negative (amount_at d.value x.1) (h x (inl refl)).1) (none_negative d before (λ y j. h y (inr j)) i c))

least_low : (a b above : ℤ) → int_le (int_min a b) above ≡ int_le a above || int_le b above
least_low a b above = elim (cases_Bool (int_lt b a)) [
  | inl t ↦ rw t (grind (arith, ints))
  | inr t ↦ rw t (grind (arith, ints))
]

-- the estimate isn't above where a sum isn't
estimate_low : (sum : ℕ → ℤ) (above : ℤ) → int_le largest above ≡ false → (n : ℕ) → int_le (least sum n) above ≡ any_below n (λ i. int_le (int_min largest (sum i)) above)
estimate_low sum above h zero = h
estimate_low sum above h (suc n) = least_low (int_min largest (sum n)) (least sum n) above ∙ ap (λ (b : Bool). int_le (int_min largest (sum n)) above || b) (estimate_low sum above h n)

value_read : (d : Sizes) (x : ℕ × Row) (ws : Words) (value : Option ℕ) → is_value_place d.width value ≡ true → Shows d.width (row_words x) ws → read ws (value_operand value) ≡ Some (amount_at value x.1)
value_read d x ws None h shows = refl
value_read d x ws (Some p) h shows = let t = place_of d.width p h in shows p t.1 ∙ ap Some (word_given x p t.0)

picked_truth : (first : Bool) (v : ℤ) → (if is_set (truth first) then v else pos 0) ≡ (if first then v else pos 0)
picked_truth first v = rw (set_truth first) refl

-- one row
pub step_is : (d : Sizes) → IsFine d → int_le largest d.above ≡ false → (before : List (ℕ × Row)) (x : ℕ × Row)
    → ((i c : ℕ) → pos 0 ≤ℤ cell_sum d before i c) → pos 0 ≤ℤ amount_at d.value x.1
    → machine (program d) (registers_after d before) (row_words x) ≡ Some (record { prune = prunes d before x; registers = registers_after d (x ∷ before) })
step_is d fine high before x none_below counts =
    let value : ℕ → ℕ → ℤ = sums d before in
    let regs : Registers = sheets d.hashes 0 d.cells value in
    let arrays : List Array = arrays_of d in
    let w : ℕ = d.width in
    let ws : Words = given w (row_words x) in
    let shows : Shows w (row_words x) ws = λ v h. given_at w (row_words x) v h in
    let first : Bool = x.0 == 1 in
    let t : ℤ = truth x.1.bit in
    let v : ℤ = amount_at d.value x.1 in
    let added : ℤ = if first then v else pos 0 in
    let wide = fine.wide in
    let ws2 : Words = put_all ws w (t ∷ truth first ∷ []) in
    let ws3 : Words = put_all ws w (t ∷ truth first ∷ added ∷ []) in
    let rest : List Move = sweep d d.hashes 0 (w + 3) (w + 1) ++ Compute (last_op d) ∷ [] in
    let step1 = computed arrays (bit_op d) (Compute (first_op d) ∷ Compute (added_op d) ∷ rest) ws w [] t regs (omega arith) (rw (shows 2 (omega arith)) (ap (λ (b : Bool). Some (truth b)) (set_truth x.1.bit))) in
    let step2 = computed arrays (first_op d) (Compute (added_op d) ∷ rest) ws w (t ∷ []) (truth first) regs refl
    (rw (shows_later w (row_words x) ws w (t ∷ []) (omega arith) shows 0 (omega arith)) (ap (λ (b : Bool). Some (truth b)) (pos_eq x.0 1))) in
    let step3 = computed arrays (added_op d) rest ws w (t ∷ truth first ∷ []) added regs refl
    (rw (put_all_at ws w (t ∷ truth first ∷ []) 1 (w + 1) refl (omega arith), value_read d x ws2 d.value fine.value (shows_later w (row_words x) ws w (t ∷ truth first ∷ []) (omega arith) shows))
    (ap Some (picked_truth first v))) in
    let run = swept d fine x arrays d.hashes 0 (w + 3) (w + 1) ws3 [] value first added
    (λ a p k. (array_at d.hashes d.cells a (omega arith)).1) refl (omega arith) (omega arith)
    (shows_later w (row_words x) ws w (t ∷ truth first ∷ added ∷ []) (omega arith) shows)
    (put_all_at ws w (t ∷ truth first ∷ added ∷ []) 0 w (omega arith) (omega arith)) (put_all_at ws w (t ∷ truth first ∷ added ∷ []) 2 (w + 2) refl (omega arith))
    (put_all_at ws w (t ∷ truth first ∷ added ∷ []) 1 (w + 1) refl (omega arith)) in
    let regs' : Registers = sheets d.hashes 0 d.cells (changed x.1.bit (places d x) (added_to d x added value) value) in
    let bad : Bool = or_any d.hashes 0 first (is_low d x value) in
    let end_ = finished arrays (verdict_of d) w (bad_after d.hashes (w + 3) (w + 1)) run.words regs' x.1.bit bad
    (run.kept w (omega arith) ∙ put_all_at ws w (t ∷ truth first ∷ added ∷ []) 0 w (omega arith) (omega arith)) run.bad_is in
    let tail = moves_then arrays (sweep d d.hashes 0 (w + 3) (w + 1)) (Compute (last_op d) ∷ []) (record { words = ws3; registers = regs }) (record { words = run.words; registers = regs' }) run.is in
    let own : ℕ → ℤ = λ i. cell_sum d before i (cell_of d i (key_of d x.1)) in
    let lows : x.1.bit ≡ true → first ≡ false → (i : ℕ) → is_low d x value i ≡ int_le (int_min largest (own i)) d.above =
    λ e f i. ap (λ (b : Bool). int_le (if b then value i (places d x i) else pos 0) d.above) e in
    let verdict : not x.1.bit || bad ≡ prunes d before x =
    ap (λ (b : Bool). not x.1.bit || b) (or_all d.hashes first (is_low d x value))
    ∙ (verdict_same d.hashes x.1.bit first (is_low d x value) (λ i. int_le (int_min largest (own i)) d.above) lows
    ∙ ap (λ (b : Bool). first || (not x.1.bit || b)) (sym (estimate_low own d.above high d.hashes))) in
    let new : regs' ≡ registers_after d (x ∷ before) =
    sheets_same d.hashes 0 d.cells (changed x.1.bit (places d x) (added_to d x added value) value) (sums d (x ∷ before))
    (λ j c k. cell_made first x.1.bit c (places d x j) v (cell_sum d before j) counts (none_below j c) ∙ ap (int_min largest) (sym (cell_more d x before j c))) in
    machine_made w arrays (moves_of d) (verdict_of d) regs (row_words x)
    ∙ (ap (option_and_then (ends (verdict_of d))) (step1 ∙ (step2 ∙ (step3 ∙ tail)))
    ∙ (end_ ∙ ap₂ (λ (b : Bool) (r : Registers). Some (record { prune = b; registers = r })) verdict new))

small_low : (v : ℤ) → is_cell_word v ≡ true → int_le largest v ≡ false
small_low (pos v) h = let l = leb-true v greatest_magnitude h in grind (arith, ints)
small_low (negsuc v) h = grind (arith, ints)

-- what is to be above is below the largest word
pub above_low : (d : Sizes) → IsFine d → int_le largest d.above ≡ false
above_low d fine = small_low d.above fine.above

pub having_steps : (d : Sizes) → IsFine d → Steps (counts d) (program d) (prunes d) (registers_after d)
having_steps d fine = record {
  begun = sheets_cleared d.hashes 0 d.cells;
  step = λ before x h t. step_is d fine (above_low d fine) before x (none_negative d before h) (not_negative (amount_at d.value x.1) t.1);
}

-- from cleared registers the program's verdicts are the policy's
pub having_agrees : (d : Sizes) → IsFine d → Agrees (counts d) (program d) None (cleared (program d).arrays) (prunes d)
having_agrees d fine = steps_agree (counts d) (program d) (prunes d) (registers_after d) (having_steps d fine)
