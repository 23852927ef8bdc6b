-- Moves in order break no rule, and what they need of a profile.
use Rattle.std.proofs.Common.{◌≡◌, ◌<◌, ◌≤◌, ℕ, zero, suc, ◌+◌, true, false, List, [], ◌∷◌, ◌++◌, refl, ◌∙◌, ap, arith, Option, Some, None, length, max, is_some, inl, inr}
use Rattle.std.proofs.lemmas.Bool.{cases_eq, cases_lt, eq-eqb, ne_eqb, lt-ltb, le-ltb}
use Rattle.std.proofs.lemmas.List.{length_push}
use Rattle.ch_ir.specs.declared.program.Operand.{Operand}
use Rattle.ch_ir.specs.declared.program.Operand.TheVariants.{Word, Const}
use Rattle.ch_ir.specs.declared.program.Op.{Op}
use Rattle.ch_ir.specs.declared.program.Access.{Access}
use Rattle.ch_ir.specs.declared.program.Array.{Array}
use Rattle.ch_ir.specs.declared.rules.Interval.{Interval}
use Rattle.ch_ir.specs.declared.rules.Refused.{Refused}
use Rattle.ch_ir.specs.Machine.{op_to, cells_of}
use Rattle.ch_ir.specs.Rules.{Known, Used, learn, whole, flag, op_interval, after_access, after_ops, after_old, after_stages, operands_of, access_operands, or_else, first_unknown, op_refusal, ops_refusal, with_array, none_used, old_refusal, access_refusal, stages_refusal, rule_refusal, inputs, BreaksNoRule}
use Rattle.ch_ir.specs.Measure.{operands_end, op_end, ops_end, old_end, run_end, stages_end, words_of, most_ops}
use Rattle.op_moves.specs.Moves.{Move, Compute, Reach, staged, program_of, reaches, longest}
use Rattle.op_moves.specs.InOrder.{OpInOrder, AccessInOrder, InOrder, next_word, after_moves}

-- exactly the words before n are known
pub record Filled (ks : Known) (n : ℕ) : Type 0 where
  pub below : (w : ℕ) → w < n → is_some (ks w) ≡ true
  pub above : (w : ℕ) → n ≤ w → ks w ≡ None

pub learn_same : (ks : Known) (to : ℕ) (s : Interval) (w : ℕ) → w ≡ to → learn ks to s w ≡ Some s
learn_same ks to s w e = rw (eq-eqb w to e) refl

pub learn_below : (ks : Known) (to : ℕ) (s : Interval) (w : ℕ) → w < to → learn ks to s w ≡ ks w
learn_below ks to s w e = rw (ne_eqb w to (omega arith)) refl

learn_above : (ks : Known) (to : ℕ) (s : Interval) (w : ℕ) → to < w → learn ks to s w ≡ ks w
learn_above ks to s w e = rw (ne_eqb w to (omega arith)) refl

known_at : (o : Option Interval) (s : Interval) → o ≡ Some s → is_some o ≡ true
known_at o s e = rw e refl

pub filled_inputs : (width : ℕ) → Filled (inputs width) width
filled_inputs width = record { below = λ w h. rw (lt-ltb w width h) refl; above = λ w h. rw (le-ltb w width h) refl }

pub filled_next : (ks : Known) (n to : ℕ) (s : Interval) → to ≡ n → Filled ks n → Filled (learn ks to s) (n + 1)
filled_next ks n to s e f = record {
  below = λ w h. elim (cases_eq w to) [
    | inl same ↦ known_at (learn ks to s w) s (learn_same ks to s w same)
    | inr other ↦ ap is_some (learn_below ks to s w (omega arith)) ∙ f.below w (omega arith)
  ];
  above = λ w h. learn_above ks to s w (omega arith) ∙ f.above w (omega arith);
}

filled_old : (cells : ℕ) (ks : Known) (n to : ℕ) → to ≡ n → Filled ks n → Filled (after_old to cells ks) (n + cells)
filled_old zero ks n to e f = let z : n + 0 ≡ n = omega arith in rw z f
filled_old (suc cells) ks n to e f =
    let z : n + suc cells ≡ n + 1 + cells = omega arith in
    rw z (filled_old cells (learn ks to whole) (n + 1) (to + 1) (omega arith) (filled_next ks n to whole e f))

filled_access : (arrays : List Array) (x : Access) (ks : Known) (n : ℕ) → x.old ≡ n → x.hit ≡ n + cells_of arrays x.array → Filled ks n → Filled (after_access arrays x ks) (n + cells_of arrays x.array + 1)
filled_access arrays x ks n o h f = filled_next (after_old x.old (cells_of arrays x.array) ks) (n + cells_of arrays x.array) x.hit flag h (filled_old (cells_of arrays x.array) ks n x.old o f)

none_unknown : (ks : Known) (n : ℕ) (operands : List Operand) → Filled ks n → operands_end operands ≤ n → first_unknown ks operands ≡ None
none_unknown ks n [] f h = refl
none_unknown ks n (Word w ∷ rest) f h = rw (f.below w (omega arith)) (none_unknown ks n rest f (omega arith))
none_unknown ks n (Const c ∷ rest) f h = none_unknown ks n rest f (omega arith)

op_fine : (stage : ℕ) (ks : Known) (n : ℕ) (op : Op) → Filled ks n → OpInOrder n op → op_refusal stage ks op ≡ None
op_fine stage ks n op f o =
    let next = o.next in
    rw (o.modulus, none_unknown ks n (operands_of op) f o.reads, f.above (op_to op) (omega arith)) refl

old_fine : (stage to cells : ℕ) (ks : Known) (n : ℕ) → to ≡ n → Filled ks n → old_refusal stage to cells ks ≡ None
old_fine stage to zero ks n e f = refl
old_fine stage to (suc cells) ks n e f = rw (f.above to (omega arith), old_fine stage (to + 1) cells (learn ks to whole) (n + 1) (omega arith) (filled_next ks n to whole e f)) refl

access_fine : (arrays : List Array) (stage : ℕ) (used : Used) (ks : Known) (n a : ℕ) (x : Access) → Filled ks n → used a ≡ false → AccessInOrder arrays n a ks x → access_refusal arrays stage used ks x ≡ None
access_fine arrays stage used ks n a x f u o =
    let fresh : used x.array ≡ false = ap used o.next_array ∙ u in
    let hit : after_old x.old (cells_of arrays x.array) ks x.hit ≡ None = (filled_old (cells_of arrays x.array) ks n x.old o.next f).above x.hit (let e = o.next_hit in omega arith) in
    rw (fresh, o.shape, none_unknown ks n (access_operands x) f o.reads, o.low, o.high, old_fine stage x.old (cells_of arrays x.array) ks n o.next f, hit) refl

first_then : (f g g' : Option Refused) → or_else f g ≡ None → (g ≡ None → g' ≡ None) → or_else f g' ≡ None
first_then None g g' e h = h e
first_then (Some f) g g' e h = cc

ops_more : (stage : ℕ) (xs : List Op) (op : Op) (ks : Known) → ops_refusal stage ks xs ≡ None → op_refusal stage (after_ops xs ks) op ≡ None → ops_refusal stage ks (xs ++ op ∷ []) ≡ None
ops_more stage [] op ks h k = rw k refl
ops_more stage (x ∷ xs) op ks h k = first_then (op_refusal stage ks x) (ops_refusal stage (learn ks (op_to x) (op_interval ks x)) xs) (ops_refusal stage (learn ks (op_to x) (op_interval ks x)) (xs ++ op ∷ [])) h (λ rest. ops_more stage xs op (learn ks (op_to x) (op_interval ks x)) rest k)

ops_after : (xs : List Op) (op : Op) (ks : Known) → after_ops (xs ++ op ∷ []) ks ≡ learn (after_ops xs ks) (op_to op) (op_interval (after_ops xs ks) op)
ops_after [] op ks = refl
ops_after (x ∷ xs) op ks = ops_after xs op (learn ks (op_to x) (op_interval ks x))

-- the stages of moves in order aren't refused
pub stages_fine : (arrays : List Array) (stage : ℕ) (used : Used) (before : List Op) (moves : List Move) (ks ks1 : Known) (n a : ℕ)
    → ops_refusal stage ks before ≡ None → after_ops before ks ≡ ks1 → Filled ks1 n → ((b : ℕ) → a ≤ b → used b ≡ false) → InOrder arrays n a ks1 moves
    → stages_refusal arrays stage used ks (staged before moves) ≡ None
stages_fine arrays stage used before [] ks ks1 n a h e f u o = rw h refl
stages_fine arrays stage used before (Compute op ∷ moves) ks ks1 n a h e f u o =
    let fine : op_refusal stage (after_ops before ks) op ≡ None = ap (λ (k : Known). op_refusal stage k op) e ∙ op_fine stage ks1 n op f o.0 in
    stages_fine arrays stage used (before ++ op ∷ []) moves ks (learn ks1 (op_to op) (op_interval ks1 op)) (n + 1) a
    (ops_more stage before op ks h fine) (ops_after before op ks ∙ ap (λ (k : Known). learn k (op_to op) (op_interval k op)) e)
    (filled_next ks1 n (op_to op) (op_interval ks1 op) o.0.next f) u o.1
stages_fine arrays stage used before (Reach x ∷ moves) ks ks1 n a h e f u o =
    let fine : access_refusal arrays stage used (after_ops before ks) x ≡ None = ap (λ (k : Known). access_refusal arrays stage used k x) e ∙ access_fine arrays stage used ks1 n a x f (u a (omega arith)) o.0 in
    let next = o.0.next_array in
    let more = stages_fine arrays (stage + 1) (with_array used x.array) [] moves (after_access arrays x (after_ops before ks)) (after_access arrays x ks1) (n + cells_of arrays x.array + 1) (a + 1)
    refl (ap (after_access arrays x) e) (filled_access arrays x ks1 n o.0.next o.0.next_hit f)
    (λ b g. rw (ne_eqb b x.array (omega arith)) (u b (omega arith))) o.1 in
    rw (h, fine, more) refl

pub stages_after : (arrays : List Array) (before : List Op) (moves : List Move) (ks : Known) → after_stages arrays (staged before moves) ks ≡ after_moves arrays moves (after_ops before ks)
stages_after arrays before [] ks = refl
stages_after arrays before (Compute op ∷ moves) ks = stages_after arrays (before ++ op ∷ []) moves ks ∙ ap (after_moves arrays moves) (ops_after before op ks)
stages_after arrays before (Reach x ∷ moves) ks = stages_after arrays [] moves (after_access arrays x (after_ops before ks))

pub filled_after : (arrays : List Array) (moves : List Move) (n a : ℕ) (ks : Known) → Filled ks n → InOrder arrays n a ks moves → Filled (after_moves arrays moves ks) (next_word arrays n moves)
filled_after arrays [] n a ks f o = f
filled_after arrays (Compute op ∷ moves) n a ks f o = filled_after arrays moves (n + 1) a (learn ks (op_to op) (op_interval ks op)) (filled_next ks n (op_to op) (op_interval ks op) o.0.next f) o.1
filled_after arrays (Reach x ∷ moves) n a ks f o = filled_after arrays moves (n + cells_of arrays x.array + 1) (a + 1) (after_access arrays x ks) (filled_access arrays x ks n o.0.next o.0.next_hit f) o.1

-- a program of moves in order, whose verdict is one of its words, breaks no rule
pub unbroken : (width : ℕ) (arrays : List Array) (moves : List Move) (verdict : ℕ) → InOrder arrays width 0 (inputs width) moves → verdict < next_word arrays width moves → BreaksNoRule (program_of width arrays moves verdict)
unfolding rule_refusal
unbroken width arrays moves verdict o h =
    let known : is_some (after_stages arrays (staged [] moves) (inputs width) verdict) ≡ true =
    ap (λ (k : Known). is_some (k verdict)) (stages_after arrays [] moves (inputs width)) ∙ (filled_after arrays moves width 0 (inputs width) (filled_inputs width) o).below verdict h in
    rw (stages_fine arrays 0 none_used [] moves (inputs width) (inputs width) width 0 refl refl (filled_inputs width) (λ b g. refl) o, known) refl

-- What it needs

pub next_grows : (arrays : List Array) (moves : List Move) (n : ℕ) → n ≤ next_word arrays n moves
next_grows arrays [] n = omega arith
next_grows arrays (Compute op ∷ moves) n = let k = next_grows arrays moves (n + 1) in omega arith
next_grows arrays (Reach x ∷ moves) n = let k = next_grows arrays moves (n + cells_of arrays x.array + 1) in omega arith

ends_more : (xs : List Op) (op : Op) (n : ℕ) → ops_end xs ≤ n → op_end op ≤ n → ops_end (xs ++ op ∷ []) ≤ n
ends_more [] op n h k = omega arith
ends_more (x ∷ xs) op n h k = let m = ends_more xs op n (omega arith) k in omega arith

run_within : (to n : ℕ) → run_end to n ≤ to + n
run_within to zero = omega arith
run_within to (suc n) = rw (lt-ltb 0 (suc n) (omega arith)) (omega arith)

old_within : (arrays : List Array) (x : Access) (n : ℕ) → x.old ≡ n → old_end arrays x ≤ n + cells_of arrays x.array + 1
old_within arrays x n e = elim (cases_lt x.array (length arrays)) [
  | inl t ↦ rw (lt-ltb x.array (length arrays) t) (let k = run_within x.old (cells_of arrays x.array) in omega arith)
  | inr t ↦ rw (le-ltb x.array (length arrays) t) (let k = run_within x.old 1 in omega arith)
]

ends_within : (arrays : List Array) (before : List Op) (moves : List Move) (n a : ℕ) (ks : Known) → ops_end before ≤ n → InOrder arrays n a ks moves → stages_end arrays (staged before moves) ≤ next_word arrays n moves
ends_within arrays before [] n a ks h o = omega arith
ends_within arrays before (Compute op ∷ moves) n a ks h o =
    let next = o.0.next in let reads = o.0.reads in
    ends_within arrays (before ++ op ∷ []) moves (n + 1) a (learn ks (op_to op) (op_interval ks op)) (ends_more before op (n + 1) (omega arith) (omega arith)) o.1
ends_within arrays before (Reach x ∷ moves) n a ks h o =
    let more = ends_within arrays [] moves (n + cells_of arrays x.array + 1) (a + 1) (after_access arrays x ks) (omega arith) o.1 in
    let grows = next_grows arrays moves (n + cells_of arrays x.array + 1) in
    let old = old_within arrays x n o.0.next in
    let hit = o.0.next_hit in let reads = o.0.reads in
    omega arith

-- it has no word beyond the next one
pub words_within : (width : ℕ) (arrays : List Array) (moves : List Move) (verdict : ℕ) → InOrder arrays width 0 (inputs width) moves → verdict < next_word arrays width moves → words_of (program_of width arrays moves verdict) ≤ next_word arrays width moves
words_within width arrays moves verdict o h =
    let ends = ends_within arrays [] moves width 0 (inputs width) (omega arith) o in
    let grows = next_grows arrays moves width in
    omega arith

pub stages_of : (before : List Op) (moves : List Move) → length (staged before moves) ≡ reaches moves + 1
stages_of before [] = refl
stages_of before (Compute op ∷ moves) = stages_of (before ++ op ∷ []) moves
stages_of before (Reach x ∷ moves) = let e = stages_of [] moves in omega arith

pub ops_of : (before : List Op) (moves : List Move) → most_ops (staged before moves) ≡ longest (length before) moves
ops_of before [] = omega arith
ops_of before (Compute op ∷ moves) = ops_of (before ++ op ∷ []) moves ∙ ap (λ (n : ℕ). longest n moves) (length_push before op)
ops_of before (Reach x ∷ moves) = ap (max (length before)) (ops_of [] moves)
