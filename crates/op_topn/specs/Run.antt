-- The run of the thresholds' moves. Here what their registers hold and tell are any functions of their numbers.
use Rattle.std.proofs.Common.{◌≡◌, ◌<◌, ◌≤◌, ℕ, zero, suc, ◌+◌, ◌*◌, Bool, true, false, List, [], ◌∷◌, ◌++◌, ℤ, pos, ◌+ℤ◌, refl, sym, ◌∙◌, ap, arith, Some, length}
use Rattle.std.specs.Prelude.{if◌then◌else◌, ◌||◌, ◌&&◌, not, int_le, int_lt}
use Rattle.std.specs.Int.{w64, saturate_signed}
use Rattle.std.proofs.lemmas.List.{append_assoc, length_push, get_or_at, set_at}
use Rattle.ch_ir.specs.declared.program.Operand.{Operand}
use Rattle.ch_ir.specs.declared.program.Operand.TheVariants.{Word}
use Rattle.ch_ir.specs.declared.program.Access.{Access}
use Rattle.ch_ir.specs.declared.program.Array.{Array}
use Rattle.ch_ir.specs.declared.program.Test.{Test}
use Rattle.ch_ir.specs.declared.program.Test.TheVariants.{Always}
use Rattle.ch_ir.specs.declared.program.Update.{Update}
use Rattle.ch_ir.specs.declared.program.Update.TheVariants as update
use Rattle.ch_ir.specs.Machine.{Words, Registers, State, put, put_all, read_all, exec_access, truth, cells_of, holds_at, updated}
use Rattle.op_moves.specs.Moves.{Move, Compute, Reach, moves_made}
use Rattle.op_moves.specs.Values.{put_all_below, put_all_at, put_all_push, computed, reached, or_truth}
use Rattle.op_topn.specs.Emitted.{register, far_op, reach_op, count_access, enough_op, beaten_op, or_op, steps}
use Rattle.op_topn.specs.Policy.{distance}
use Rattle.op_topn.specs.declared.sizes.Sizes.{Sizes}

-- "b and not a"
pub lt_truth : (a b : Bool) → int_lt (truth a) (truth b) ≡ not a && b
lt_truth true true = refl
lt_truth true false = refl
lt_truth false true = refl
lt_truth false false = refl

-- an array of one cell, behind others and before others
abbrev pub behind : Registers → ℤ → Registers → Registers
behind front c rest = front ++ ((c ∷ []) ∷ []) ∷ rest

register_made : (array guard : ℕ) (test : Test) (key : List Operand) (change : Update) (old : ℕ) (ws : Words) (front rest : Registers) (c new : ℤ) (ks : List ℤ) (g b : Bool)
    → length front ≡ array → ws guard ≡ Some (truth g) → read_all ws key ≡ Some ks → holds_at test ks (c ∷ []) ≡ b → updated ws change c ≡ Some new
    → exec_access 1 (register array guard test key change old) (record { words = ws; registers = behind front c rest })
    ≡ Some (record { words = put (put ws old (if g then c else pos 0)) (old + 1) (truth (g && b)); registers = behind front (if g && b then new else c) rest })
register_made array guard test key change old ws front rest c new ks false b lf eg ek eh eu = rw eg refl
register_made array guard test key change old ws front rest c new ks true true lf eg ek eh eu =
    rw (eg, get_or_at front ((c ∷ []) ∷ []) rest [] array lf, ek, get_or_at front ((c ∷ []) ∷ []) rest [] array lf, eh, eu, set_at front ((c ∷ []) ∷ []) rest ((new ∷ []) ∷ []) array lf) refl
register_made array guard test key change old ws front rest c new ks true false lf eg ek eh eu =
    rw (eg, get_or_at front ((c ∷ []) ∷ []) rest [] array lf, ek, get_or_at front ((c ∷ []) ∷ []) rest [] array lf, eh, set_at front ((c ∷ []) ∷ []) rest ((c ∷ []) ∷ []) array lf) refl

-- the access to a register in the midst of moves, with the guard on or off
pub register_moved : (arrays : List Array) (array guard : ℕ) (test : Test) (key : List Operand) (change : Update) (old : ℕ) (moves : List Move) (ws : Words) (to : ℕ) (vs : List ℤ)
    (front rest : Registers) (c new : ℤ) (ks : List ℤ) (g b : Bool)
    → cells_of arrays array ≡ 1 → length front ≡ array → old ≡ to + length vs
    → put_all ws to vs guard ≡ Some (truth g) → read_all (put_all ws to vs) key ≡ Some ks → holds_at test ks (c ∷ []) ≡ b → updated (put_all ws to vs) change c ≡ Some new
    → moves_made arrays (Reach (register array guard test key change old) ∷ moves) (record { words = put_all ws to vs; registers = behind front c rest })
    ≡ moves_made arrays moves (record { words = put_all ws to (vs ++ (if g then c else pos 0) ∷ truth (g && b) ∷ []); registers = behind front (if g && b then new else c) rest })
register_moved arrays array guard test key change old moves ws to vs front rest c new ks g b one lf eo eg ek eh eu =
    let x : Access = register array guard test key change old in
    let was : ℤ = if g then c else pos 0 in
    let s : State = record { words = put_all ws to vs; registers = behind front c rest } in
    let after : Registers = behind front (if g && b then new else c) rest in
    let t : State = record { words = put (put (put_all ws to vs) old was) (old + 1) (truth (g && b)); registers = after } in
    let pushed : put (put (put_all ws to vs) old was) (old + 1) (truth (g && b)) ≡ put_all ws to (vs ++ was ∷ truth (g && b) ∷ []) =
    ap (λ (w : Words). put w (old + 1) (truth (g && b))) (put_all_push ws to vs was old eo)
    ∙ (put_all_push ws to (vs ++ was ∷ []) (truth (g && b)) (old + 1) (omega (arith, length_push vs was))
    ∙ ap (put_all ws to) (append_assoc vs (was ∷ []) (truth (g && b) ∷ []))) in
    reached arrays x moves s t (ap (λ (n : ℕ). exec_access n x s) one ∙ register_made array guard test key change old (put_all ws to vs) front rest c new ks g b lf eg ek eh eu)
    ∙ ap (λ (w : Words). moves_made arrays moves (record { words = w; registers = after })) pushed

-- the words that all thresholds read
pub record Facts (w : ℕ) (ws : Words) (g : Bool) (u m : ℤ) (later : Bool) : Type 0 where
  pub gate_is : ws w ≡ Some (truth g)
  pub value_is : ws (w + 3) ≡ Some u
  pub greatest_is : ws (w + 5) ≡ Some m
  pub later_is : ws (w + 7) ≡ Some (truth later)

-- the value reaches the threshold
abbrev pub does_reach : (gap i : ℕ) (u m : ℤ) → Bool
does_reach gap i u m = int_le (saturate_signed w64 (u +ℤ pos (distance gap i))) m

-- what a threshold's register holds after, and whether the threshold prunes
pub record IsStep (s : Sizes) (u m : ℤ) (later : Bool) (count next : ℕ → ℤ) (beats : ℕ → Bool) (i : ℕ) : Type 0 where
  pub next_is : (if later then saturate_signed w64 (count i +ℤ truth (does_reach s.gap i u m)) else count i) ≡ next i
  pub beats_is : (not (does_reach s.gap i u m) && int_le (pos s.limit) (if later then count i else pos 0)) ≡ beats i

abbrev pub registers_from : (left i : ℕ) → (ℕ → ℤ) → Registers
registers_from zero i count = []
registers_from (suc left) i count = ((count i ∷ []) ∷ []) ∷ registers_from left (i + 1) count

abbrev pub any_from : (left i : ℕ) → (ℕ → Bool) → Bool → Bool
any_from zero i beats bad = bad
any_from (suc left) i beats bad = any_from left (i + 1) beats (bad || beats i)

-- what the moves leave
pub record Stepped (s : Sizes) (arrays : List Array) (left i base : ℕ) (ws : Words) (front : Registers) (count next : ℕ → ℤ) (bad : Bool) : Type 0 where
  pub words : Words
  pub is : moves_made arrays (steps s left i base) (record { words = ws; registers = front ++ registers_from left i count }) ≡ Some (record { words = words; registers = front ++ registers_from left i next })
  pub gate_is : words s.width ≡ ws s.width
  pub bad_is : words (base + 7 * left) ≡ Some (truth bad)

pub stepped : (s : Sizes) (arrays : List Array) (left i base : ℕ) (ws : Words) (front : Registers) (g : Bool) (u m : ℤ) (later : Bool) (count next : ℕ → ℤ) (beats : ℕ → Bool) (bad : Bool)
    → length front ≡ i + 1 → s.width + 9 ≤ base → ((a : ℕ) → i < a → a < i + 1 + left → cells_of arrays a ≡ 1)
    → Facts s.width ws g u m later → ws base ≡ Some (truth bad)
    → ((j : ℕ) → i ≤ j → j < i + left → IsStep s u m later count next beats j)
    → Stepped s arrays left i base ws front count next (any_from left i beats bad)
stepped s arrays zero i base ws front g u m later count next beats bad lf hb one f eb is_step = record {
  words = ws;
  is = refl;
  gate_is = refl;
  bad_is = ap ws (let e : base + 7 * 0 ≡ base = omega arith in e) ∙ eb;
}
stepped s arrays (suc left) i base ws front g u m later count next beats bad lf hb one f eb is_step =
    let w : ℕ = s.width in
    let to : ℕ = base + 1 in
    let d : ℤ = saturate_signed w64 (u +ℤ pos (distance s.gap i)) in
    let reach : Bool = does_reach s.gap i u m in
    let c : ℤ = if later then count i else pos 0 in
    let hit : ℤ = truth (later && true) in
    let enough : Bool = int_le (pos s.limit) c in
    let beaten : Bool = not reach && enough in
    let worse : Bool = bad || beaten in
    let rest : Registers = registers_from left (i + 1) count in
    let before : Registers = behind front (count i) rest in
    let after : Registers = behind front (next i) rest in
    let v1 : List ℤ = d ∷ [] in
    let v2 : List ℤ = d ∷ truth reach ∷ [] in
    let v4 : List ℤ = d ∷ truth reach ∷ c ∷ hit ∷ [] in
    let v5 : List ℤ = d ∷ truth reach ∷ c ∷ hit ∷ truth enough ∷ [] in
    let v6 : List ℤ = d ∷ truth reach ∷ c ∷ hit ∷ truth enough ∷ truth beaten ∷ [] in
    let v7 : List ℤ = d ∷ truth reach ∷ c ∷ hit ∷ truth enough ∷ truth beaten ∷ truth worse ∷ [] in
    let m6 : List Move = steps s left (i + 1) (base + 7) in
    let m5 : List Move = Compute (or_op base) ∷ m6 in
    let m4 : List Move = Compute (beaten_op base) ∷ m5 in
    let m3 : List Move = Compute (enough_op base s.limit) ∷ m4 in
    let m2 : List Move = Reach (count_access w base i) ∷ m3 in
    let m1 : List Move = Compute (reach_op w base) ∷ m2 in
    let this = is_step i (omega arith) (omega arith) in
    let low : (vs : List ℤ) (n : ℕ) → n < to → put_all ws to vs n ≡ ws n = λ vs n h. put_all_below ws to vs n h in
    let step1 = computed arrays (far_op w base (distance s.gap i)) m1 ws to [] d before (omega arith) (rw f.value_is refl) in
    let step2 = computed arrays (reach_op w base) m2 ws to v1 (truth reach) before (omega arith)
    (rw (put_all_at ws to v1 0 (base + 1) (omega arith) (omega arith), low v1 (w + 5) (omega arith), f.greatest_is) refl) in
    let step3 = register_moved arrays (i + 1) (w + 7) Always [] (update.AddSat (Word (base + 2))) (base + 3) m3 ws to v2 front rest (count i) (saturate_signed w64 (count i +ℤ truth reach)) [] later true
    (one (i + 1) (omega arith) (omega arith)) lf (omega arith) (low v2 (w + 7) (omega arith) ∙ f.later_is) refl refl (rw (put_all_at ws to v2 1 (base + 2) (omega arith) (omega arith)) refl) in
    let counted : behind front (if later && true then saturate_signed w64 (count i +ℤ truth reach) else count i) rest ≡ after =
    ap (λ (x : ℤ). behind front x rest) (both later (λ (b : Bool). if b then saturate_signed w64 (count i +ℤ truth reach) else count i) ∙ this.next_is) in
    let step4 = computed arrays (enough_op base s.limit) m4 ws to v4 (truth enough) after (omega arith) (rw (put_all_at ws to v4 2 (base + 3) (omega arith) (omega arith)) refl) in
    let step5 = computed arrays (beaten_op base) m5 ws to v5 (truth beaten) after (omega arith)
    (rw (put_all_at ws to v5 1 (base + 2) (omega arith) (omega arith), put_all_at ws to v5 4 (base + 5) (omega arith) (omega arith)) (ap (λ (b : Bool). Some (truth b)) (lt_truth reach enough))) in
    let step6 = computed arrays (or_op base) m6 ws to v6 (truth worse) after (omega arith)
    (rw (low v6 base (omega arith), eb, put_all_at ws to v6 5 (base + 6) (omega arith) (omega arith)) (ap Some (or_truth bad beaten))) in
    let ws7 : Words = put_all ws to v7 in
    let more = stepped s arrays left (i + 1) (base + 7) ws7 (front ++ ((next i ∷ []) ∷ []) ∷ []) g u m later count next beats worse
    (length_push front ((next i ∷ []) ∷ []) ∙ ap (λ (n : ℕ). n + 1) lf) (omega arith) (λ a p q. one a (omega arith) (omega arith))
    (record {
      gate_is = low v7 w (omega arith) ∙ f.gate_is;
      value_is = low v7 (w + 3) (omega arith) ∙ f.value_is;
      greatest_is = low v7 (w + 5) (omega arith) ∙ f.greatest_is;
      later_is = low v7 (w + 7) (omega arith) ∙ f.later_is;
    })
    (put_all_at ws to v7 6 (base + 7) (omega arith) (omega arith)) (λ j p q. is_step j (omega arith) (omega arith)) in
    record {
      words = more.words;
      is = step1 ∙ (step2 ∙ (step3
          ∙ (ap (λ (r : Registers). moves_made arrays m3 (record { words = put_all ws to v4; registers = r })) counted
          ∙ (step4 ∙ (step5 ∙ (step6
          ∙ (ap (λ (r : Registers). moves_made arrays m6 (record { words = ws7; registers = r })) (sym (append_assoc front (((next i ∷ []) ∷ []) ∷ []) rest))
          ∙ (more.is
          ∙ ap (λ (r : Registers). Some (record { words = more.words; registers = r })) (append_assoc front (((next i ∷ []) ∷ []) ∷ []) (registers_from left (i + 1) next))))))))));
      gate_is = more.gate_is ∙ low v7 w (omega arith);
      bad_is = ap more.words (let e : base + 7 * suc left ≡ base + 7 + 7 * left = omega arith in e) ∙ (more.bad_is ∙ ap (λ (b : Bool). Some (truth (any_from left (i + 1) beats (bad || b)))) this.beats_is);
    }
  where
    both : (b : Bool) (h : Bool → ℤ) → h (b && true) ≡ h b
    both true h = refl
    both false h = refl
