-- One row: the program's verdict is the policy's, and its registers are those of the longer history.
use Rattle.std.proofs.Common.{◌≡◌, ◌<◌, ◌≤◌, ℕ, zero, suc, ◌+◌, ◌^◌, Bool, true, false, List, [], ◌∷◌, ◌++◌, ℤ, pos, ◌+ℤ◌, ◌-ℤ◌, int_lt, int_le, nat_le, ltb, refl, sym, ◌∙◌, ap, ap₂, arith, length, take, drop, Some, w64, ltb-true, ltb-false, length-append, length-take, replicate}
use Rattle.std.specs.Prelude.{if◌then◌else◌, ◌||◌, ◌&&◌, not}
use Rattle.std.specs.Int.{saturate_signed, int_max}
use Rattle.std.specs.Option.{option_and_then}
use Rattle.std.proofs.lemmas.List.{take_all, take-append-le, drop_all, drop-append-le}
use Rattle.ch_ir.specs.declared.program.Operand.TheVariants.{Word, Const}
use Rattle.ch_ir.specs.declared.program.Binary.TheVariants as binary
use Rattle.ch_ir.specs.declared.program.Test.TheVariants.{Always, Less}
use Rattle.ch_ir.specs.declared.program.Update.TheVariants as update
use Rattle.ch_ir.specs.declared.program.Array.{Array}
use Rattle.ch_ir.specs.Machine.{Words, Registers, put_all, truth, is_set, two_of, holds_at, given, machine, ends, cells_of}
use Rattle.op_moves.specs.Moves.{Move, Compute, Reach, moves_made}
use Rattle.op_moves.specs.Made.{machine_made, moves_then}
use Rattle.op_moves.specs.Values.{put_all_below, put_all_at, computed, finished, set_truth}
use Rattle.op_topn.specs.Emitted.{bit_op, first_access, turned_op, pick_op, greatest_access, later_op, below_op, bad_op, steps, last_bad, verdict_op, arrays_of, moves_of, top_program}
use Rattle.op_topn.specs.Fine.{IsFine}
use Rattle.op_topn.specs.Policy.{distance, oriented, least, reached, threshold, step_prunes, some_step, value_prunes}
use Rattle.op_moves.specs.Range.{Small}
use Rattle.op_topn.specs.Run.{IsStep, behind, does_reach, registers_from, any_from, lt_truth, register_moved, stepped}
use Rattle.op_topn.specs.Values.{AllSmall, small_taken, least_small, oriented_small, turned_is, greatest, greatest_more, greatest_same, not_le, small_distance, reach_is, below_is, counted, counted_more, enough_is, none_enough, firsts, is_first, firsts_more, firsts_same, reached_more}
use Rattle.op_topn.specs.declared.sizes.Sizes.{Sizes}

-- how many later values reach the i-th threshold
abbrev pub reaches : Sizes → List ℤ → ℕ → ℕ
reaches s vs i = reached (threshold s vs i) (drop s.limit vs)

-- the registers that stand for the values of the rows before, the oldest first
abbrev pub registers_of : Sizes → List ℤ → Registers
registers_of s vs = ((firsts s.limit (length vs) ∷ []) ∷ []) ∷ ((greatest (take s.limit vs) ∷ []) ∷ []) ∷ registers_from s.steps 1 (λ i. counted (reaches s vs i))

abbrev pub values_after : Bool → List ℤ → ℤ → List ℤ
values_after bit vs v = if bit then vs ++ v ∷ [] else vs

pub cell_at : (n a : ℕ) → a < n → cells_of (replicate n (record { entries = 1; cells = 1 })) a ≡ 1
cell_at zero a h = absurd (omega arith)
cell_at (suc n) zero h = refl
cell_at (suc n) (suc a) h = cell_at n a (omega arith)

and_truth : (a b : Bool) → is_set (truth a) && is_set (truth b) ≡ a && b
and_truth a b = rw (set_truth a, set_truth b) refl

picked_truth : (b : Bool) (v : ℤ) → (if is_set (truth b) then v else pos 0) ≡ (if b then v else pos 0)
picked_truth b v = rw (set_truth b) refl

-- The run with any values: c and m are what the first two registers hold, c' and m' what they hold after
record Opens (limit : ℕ) (u c m c' m' : ℤ) (g first : Bool) : Type 0 where
  first_is : holds_at (Less 0) (pos limit ∷ []) (c ∷ []) ≡ first
  count_is : (if g && first then saturate_signed w64 (c +ℤ pos 1) else c) ≡ c'
  greatest_is : (if g && true then int_max m (if g && first then u else pos 0) else m) ≡ m'

run : (s : Sizes) (row : List ℤ) (raw u c m c' m' : ℤ) (g first : Bool) (count next : ℕ → ℤ) (beats : ℕ → Bool)
    → IsFine s → given s.width row 2 ≡ Some (truth g) → given s.width row s.value ≡ Some raw
    → two_of (if s.descending then binary.Sub else binary.Add) (pos (2 ^ 61)) raw ≡ u
    → Opens s.limit u c m c' m' g first
    → ((j : ℕ) → 1 ≤ j → j < 1 + s.steps → IsStep s u (if g then m else pos 0) (not (g && first) && g) count next beats j)
    → machine (top_program s) (((c ∷ []) ∷ []) ∷ ((m ∷ []) ∷ []) ∷ registers_from s.steps 1 count) row
    ≡ Some (record {
      prune = not g || any_from s.steps 1 beats ((not (g && first) && g) && int_lt (if g then m else pos 0) u);
      registers = ((c' ∷ []) ∷ []) ∷ ((m' ∷ []) ∷ []) ∷ registers_from s.steps 1 next;
    })
run s row raw u c m c' m' g first count next beats fine bit value turn o is_step =
    let w : ℕ = s.width in
    let ws : Words = given w row in
    let arrays : List Array = arrays_of s in
    let wide = fine.wide in
    let past = fine.past in
    let is_first : Bool = g && first in
    let x : ℤ = if is_first then u else pos 0 in
    let gm : ℤ = if g then m else pos 0 in
    let later : Bool = not is_first && g in
    let below : Bool = int_lt gm u in
    let bad : Bool = later && below in
    let counters : Registers = registers_from s.steps 1 count in
    let tail : Registers = ((m ∷ []) ∷ []) ∷ counters in
    let begun : Registers = behind [] c tail in
    let once : Registers = behind [] c' tail in
    let twice : Registers = behind (((c' ∷ []) ∷ []) ∷ []) m' counters in
    let old : ℤ = if g then c else pos 0 in
    let hit : ℤ = truth (g && true) in
    let v1 : List ℤ = truth g ∷ [] in
    let v3 : List ℤ = truth g ∷ old ∷ truth is_first ∷ [] in
    let v4 : List ℤ = truth g ∷ old ∷ truth is_first ∷ u ∷ [] in
    let v5 : List ℤ = truth g ∷ old ∷ truth is_first ∷ u ∷ x ∷ [] in
    let v7 : List ℤ = truth g ∷ old ∷ truth is_first ∷ u ∷ x ∷ gm ∷ hit ∷ [] in
    let v8 : List ℤ = truth g ∷ old ∷ truth is_first ∷ u ∷ x ∷ gm ∷ hit ∷ truth later ∷ [] in
    let v9 : List ℤ = truth g ∷ old ∷ truth is_first ∷ u ∷ x ∷ gm ∷ hit ∷ truth later ∷ truth below ∷ [] in
    let v10 : List ℤ = truth g ∷ old ∷ truth is_first ∷ u ∷ x ∷ gm ∷ hit ∷ truth later ∷ truth below ∷ truth bad ∷ [] in
    let ws10 : Words = put_all ws w v10 in
    let last : List Move = Compute (verdict_op s) ∷ [] in
    let m8 : List Move = steps s s.steps 1 (w + 9) ++ last in
    let m7 : List Move = Compute (bad_op w) ∷ m8 in
    let m6 : List Move = Compute (below_op w) ∷ m7 in
    let m5 : List Move = Compute (later_op w) ∷ m6 in
    let m4 : List Move = Reach (greatest_access w) ∷ m5 in
    let m3 : List Move = Compute (pick_op w) ∷ m4 in
    let m2 : List Move = Compute (turned_op w s.descending s.value) ∷ m3 in
    let m1 : List Move = Reach (first_access w s.limit) ∷ m2 in
    let step1 = computed arrays (bit_op w) m1 ws w [] (truth g) begun (omega arith) (rw bit (ap (λ (b : Bool). Some (truth b)) (set_truth g))) in
    let step2 = register_moved arrays 0 w (Less 0) (Const (pos s.limit) ∷ []) (update.AddSat (Const (pos 1))) (w + 1) m2 ws w v1 [] tail c (saturate_signed w64 (c +ℤ pos 1)) (pos s.limit ∷ []) g first
    (cell_at (2 + s.steps) 0 (omega arith)) refl refl (put_all_at ws w v1 0 w (omega arith) (omega arith)) refl o.first_is refl in
    let step3 = computed arrays (turned_op w s.descending s.value) m3 ws w v3 u once (omega arith) (rw (put_all_below ws w v3 s.value wide, value) (ap Some turn)) in
    let step4 = computed arrays (pick_op w) m4 ws w v4 x once (omega arith)
    (rw (put_all_at ws w v4 2 (w + 2) (omega arith) (omega arith), put_all_at ws w v4 3 (w + 3) (omega arith) (omega arith)) (ap Some (picked_truth is_first u))) in
    let step5 = register_moved arrays 1 w Always [] (update.Max (Word (w + 4))) (w + 5) m5 ws w v5 (((c' ∷ []) ∷ []) ∷ []) counters m (int_max m x) [] g true
    (cell_at (2 + s.steps) 1 (omega arith)) refl (omega arith) (put_all_at ws w v5 0 w (omega arith) (omega arith)) refl refl (rw (put_all_at ws w v5 4 (w + 4) (omega arith) (omega arith)) refl) in
    let step6 = computed arrays (later_op w) m6 ws w v7 (truth later) twice (omega arith)
    (rw (put_all_at ws w v7 2 (w + 2) (omega arith) (omega arith), put_all_at ws w v7 0 w (omega arith) (omega arith)) (ap (λ (b : Bool). Some (truth b)) (lt_truth is_first g))) in
    let step7 = computed arrays (below_op w) m7 ws w v8 (truth below) twice (omega arith)
    (rw (put_all_at ws w v8 5 (w + 5) (omega arith) (omega arith), put_all_at ws w v8 3 (w + 3) (omega arith) (omega arith)) refl) in
    let step8 = computed arrays (bad_op w) m8 ws w v9 (truth bad) twice (omega arith)
    (rw (put_all_at ws w v9 7 (w + 7) (omega arith) (omega arith), put_all_at ws w v9 8 (w + 8) (omega arith) (omega arith)) (ap (λ (b : Bool). Some (truth b)) (and_truth later below))) in
    let more = stepped s arrays s.steps 1 (w + 9) ws10 (((c' ∷ []) ∷ []) ∷ ((m' ∷ []) ∷ []) ∷ []) g u gm later count next beats bad
    refl (omega arith) (λ a p q. cell_at (2 + s.steps) a (omega arith))
    (record {
      gate_is = put_all_at ws w v10 0 w (omega arith) (omega arith);
      value_is = put_all_at ws w v10 3 (w + 3) (omega arith) (omega arith);
      greatest_is = put_all_at ws w v10 5 (w + 5) (omega arith) (omega arith);
      later_is = put_all_at ws w v10 7 (w + 7) (omega arith) (omega arith);
    })
    (put_all_at ws w v10 9 (w + 9) (omega arith) (omega arith)) is_step in
    let ended : Registers = ((c' ∷ []) ∷ []) ∷ ((m' ∷ []) ∷ []) ∷ registers_from s.steps 1 next in
    let worse : Bool = any_from s.steps 1 beats bad in
    let tail_run = moves_then arrays (steps s s.steps 1 (w + 9)) last (record { words = ws10; registers = twice }) (record { words = more.words; registers = ended }) more.is in
    let end_ = finished arrays (last_bad s + 1) w (last_bad s) more.words ended g worse (more.gate_is ∙ put_all_at ws w v10 0 w (omega arith) (omega arith)) more.bad_is in
    machine_made w arrays (moves_of s) (last_bad s + 1) begun row
    ∙ (ap (option_and_then (ends (last_bad s + 1)))
    (step1 ∙ (step2 ∙ (ap (λ (v : ℤ). moves_made arrays m2 (record { words = put_all ws w v3; registers = behind [] v tail })) o.count_is
    ∙ (step3 ∙ (step4 ∙ (step5 ∙ (ap (λ (v : ℤ). moves_made arrays m5 (record { words = put_all ws w v7; registers = behind (((c' ∷ []) ∷ []) ∷ []) v counters })) o.greatest_is
    ∙ (step6 ∙ (step7 ∙ (step8 ∙ tail_run))))))))))
    ∙ end_)

all_false : (left i : ℕ) → any_from left i (λ j. false) false ≡ false
all_false zero i = refl
all_false (suc left) i = all_false left (i + 1)

-- the thresholds from the next on, where `done` of them have been asked
some_from : (s : Sizes) (vs : List ℤ) (v : ℤ) (b : Bool) (left done : ℕ)
    → any_from left (done + 1) (step_prunes s vs v) (b || some_step s vs v done) ≡ (b || some_step s vs v (done + left))
some_from s vs v b zero done = let e : done + 0 ≡ done = omega arith in rw e refl
some_from s vs v b (suc left) done =
    let one : done + 1 ≡ suc done = omega arith in
    let all : suc done + left ≡ done + suc left = omega arith in
    ap (λ (i : ℕ). any_from left (i + 1) (step_prunes s vs v) ((b || some_step s vs v done) || step_prunes s vs v i)) one
    ∙ ap (any_from left (suc done + 1) (step_prunes s vs v)) (turn b (some_step s vs v done) (step_prunes s vs v (suc done)))
    ∙ some_from s vs v b left (suc done)
    ∙ ap (λ (i : ℕ). b || some_step s vs v i) all
  where
    turn : (a b c : Bool) → ((a || b) || c) ≡ (a || (c || b))
    turn true b c = refl
    turn false true true = refl
    turn false true false = refl
    turn false false true = refl
    turn false false false = refl

some_all : (s : Sizes) (vs : List ℤ) (v : ℤ) (b : Bool) → any_from s.steps 1 (step_prunes s vs v) b ≡ (b || some_step s vs v s.steps)
some_all s vs v b = ap (λ (x : Bool). any_from s.steps 1 (step_prunes s vs v) x) (sym (none b)) ∙ some_from s vs v b s.steps 0 ∙ ap (λ (i : ℕ). b || some_step s vs v i) (zero_first s.steps)
  where
    none : (x : Bool) → (x || false) ≡ x
    none true = refl
    none false = refl

    zero_first : (n : ℕ) → 0 + n ≡ n
    zero_first n = omega arith

and_turned : (a b : Bool) → (a && b) ≡ (b && a)
and_turned true true = refl
and_turned true false = refl
and_turned false true = refl
and_turned false false = refl

length_more : (vs : List ℤ) (v : ℤ) → length (vs ++ v ∷ []) ≡ length vs + 1
length_more vs v = length-append vs (v ∷ [])

-- the step for a row with the oriented value v
pub row_runs : (s : Sizes) → IsFine s → (vs : List ℤ) → AllSmall vs → (row : List ℤ) (raw : ℤ) (g : Bool)
    → Small raw → given s.width row 2 ≡ Some (truth g) → given s.width row s.value ≡ Some raw
    → machine (top_program s) (registers_of s vs) row
    ≡ Some (record { prune = not g || value_prunes s vs (oriented s.descending raw); registers = registers_of s (values_after g vs (oriented s.descending raw)) })
row_runs s fine vs small row raw false range bit value =
    run s row raw (pos (2 ^ 61) -ℤ oriented s.descending raw) (firsts s.limit (length vs)) (greatest (take s.limit vs)) (firsts s.limit (length vs)) (greatest (take s.limit vs)) false (ltb (length vs) s.limit)
    (λ i. counted (reaches s vs i)) (λ i. counted (reaches s vs i)) (λ i. not (does_reach s.gap i (pos (2 ^ 61) -ℤ oriented s.descending raw) (pos 0)) && int_le (pos s.limit) (pos 0))
    fine bit value (turned_is s.descending raw range)
    (record { first_is = is_first s.limit (length vs) fine.some_rows; count_is = refl; greatest_is = refl })
    (λ j p q. record { next_is = refl; beats_is = refl })
row_runs s fine vs small row raw true range bit value = go (ltb (length vs) s.limit) refl
  where
    n : ℕ
    n = s.limit

    few_rows : s.limit < 2 ^ 63
    few_rows = let f = fine.few_rows in omega arith

    v : ℤ
    v = oriented s.descending raw

    u : ℤ
    u = pos (2 ^ 61) -ℤ v

    small_v : Small v
    small_v = oriented_small s.descending raw range

    go : (first : Bool) → ltb (length vs) n ≡ first
        → machine (top_program s) (registers_of s vs) row
        ≡ Some (record { prune = not first && (int_lt v (least (take n vs)) || some_step s vs v s.steps); registers = registers_of s (vs ++ v ∷ []) })
    go true e =
        let short = ltb-true (length vs) n e in
        let more = length_more vs v in
        let all : take n vs ≡ vs = take_all n vs (omega arith) in
        let all' : take n (vs ++ v ∷ []) ≡ vs ++ v ∷ [] = take_all n (vs ++ v ∷ []) (omega arith) in
        let none : drop n vs ≡ [] = drop_all n vs (omega arith) in
        let none' : drop n (vs ++ v ∷ []) ≡ [] = drop_all n (vs ++ v ∷ []) (omega arith) in
        let no_rows = none_enough n fine.some_rows in
        run s row raw u (firsts n (length vs)) (greatest (take n vs)) (firsts n (length (vs ++ v ∷ []))) (greatest (take n (vs ++ v ∷ []))) true true
        (λ i. counted (reaches s vs i)) (λ i. counted (reaches s (vs ++ v ∷ []) i)) (λ j. false)
        fine bit value (turned_is s.descending raw range)
        (record {
          first_is = is_first n (length vs) fine.some_rows ∙ e;
          count_is = firsts_more n (length vs) few_rows e ∙ ap (firsts n) (sym more);
          greatest_is = ap (λ (xs : List ℤ). int_max (greatest xs) u) all ∙ greatest_more vs v small small_v ∙ ap greatest (sym all');
        })
        (λ j p q. record {
          next_is = ap (λ (xs : List ℤ). counted (reached (threshold s vs j) xs)) none ∙ ap (λ (xs : List ℤ). counted (reached (threshold s (vs ++ v ∷ []) j) xs)) (sym none');
          beats_is = ap (λ (b : Bool). not (does_reach s.gap j u (greatest (take n vs))) && b) no_rows ∙ and_turned (not (does_reach s.gap j u (greatest (take n vs)))) false;
        })
        ∙ ap (λ (b : Bool). Some (record { prune = b; registers = registers_of s (vs ++ v ∷ []) })) (all_false s.steps 1)
    go false e =
        let long = ltb-false (length vs) n e in
        let more = length_more vs v in
        let front : take n (vs ++ v ∷ []) ≡ take n vs = take-append-le n vs (v ∷ []) long in
        let back : drop n (vs ++ v ∷ []) ≡ drop n vs ++ v ∷ [] = drop-append-le n vs (v ∷ []) long in
        let taken = small_taken n vs small in
        let t0 : ℤ = least (take n vs) in
        let great : greatest (take n vs) ≡ pos (2 ^ 61) -ℤ t0 = greatest_is (take n vs) (omega (arith, length-take n vs)) in
        let small_t = least_small (take n vs) taken in
        let reach : (j : ℕ) → j < 1 + s.steps → does_reach s.gap j u (greatest (take n vs)) ≡ int_le (threshold s vs j) v = λ j q.
        ap (does_reach s.gap j u) great ∙ reach_is (distance s.gap j) t0 v (small_distance s.gap j fine.small_gap (let few = fine.few_steps in omega arith)) small_t small_v in
        run s row raw u (firsts n (length vs)) (greatest (take n vs)) (firsts n (length (vs ++ v ∷ []))) (greatest (take n (vs ++ v ∷ []))) true false
        (λ i. counted (reaches s vs i)) (λ i. counted (reaches s (vs ++ v ∷ []) i)) (step_prunes s vs v)
        fine bit value (turned_is s.descending raw range)
        (record {
          first_is = is_first n (length vs) fine.some_rows ∙ e;
          count_is = firsts_same n (length vs) e ∙ ap (firsts n) (sym more);
          greatest_is = greatest_same (take n vs) taken ∙ ap greatest (sym front);
        })
        (λ j p q. record {
          next_is = ap (λ (b : Bool). saturate_signed w64 (counted (reaches s vs j) +ℤ truth b)) (reach j q)
              ∙ counted_more (reaches s vs j) (int_le (threshold s vs j) v)
              ∙ ap counted (sym (reached_more (threshold s vs j) (drop n vs) v))
              ∙ ap (λ (xs : List ℤ). counted (reached (threshold s vs j) xs)) (sym back)
              ∙ ap (λ (xs : List ℤ). counted (reached (least xs +ℤ pos (distance s.gap j)) (drop n (vs ++ v ∷ [])))) (sym front);
          beats_is = ap₂ (λ (a b : Bool). not a && b) (reach j q) (enough_is n (reaches s vs j) few_rows)
              ∙ ap (λ (b : Bool). b && nat_le n (reaches s vs j)) (not_le (threshold s vs j) v)
              ∙ and_turned (int_lt v (threshold s vs j)) (nat_le n (reaches s vs j));
        })
        ∙ ap (λ (b : Bool). Some (record { prune = b; registers = registers_of s (vs ++ v ∷ []) }))
        (some_all s vs v (int_lt (greatest (take n vs)) u) ∙ ap (λ (b : Bool). b || some_step s vs v s.steps) (ap (λ (m : ℤ). int_lt m u) great ∙ below_is t0 v))
      where
        greatest_is : (xs : List ℤ) → 1 ≤ length xs → greatest xs ≡ pos (2 ^ 61) -ℤ least xs
        greatest_is [] h = absurd (omega arith)
        greatest_is (x ∷ xs) h = refl
