-- The run of all points.
use Rattle.std.proofs.Common.{◌≡◌, ◌<◌, ◌≤◌, ℕ, suc, ◌+◌, ◌*◌, Bool, true, false, List, [], ◌∷◌, ◌++◌, ℤ, pos, int_lt, refl, sym, ◌∙◌, ap, arith, Option, Some, length, replicate, subst}
use Rattle.std.specs.Prelude.{if◌then◌else◌, ◌&&◌, not}
use Rattle.std.proofs.lemmas.List.{append_assoc, length_push}
use Rattle.ch_ir.specs.declared.program.Operand.TheVariants.{Word, Const}
use Rattle.ch_ir.specs.declared.program.Binary.TheVariants as binary
use Rattle.ch_ir.specs.declared.program.Op.{Op}
use Rattle.ch_ir.specs.declared.program.Op.TheVariants.{Two, Pick}
use Rattle.ch_ir.specs.declared.program.Access.{Access}
use Rattle.ch_ir.specs.declared.program.Array.{Array}
use Rattle.ch_ir.specs.Machine.{Words, Registers, State, put, put_all, exec_ops, exec_access, truth, cells_of}
use Rattle.op_moves.specs.Moves.{Move, moves_made}
use Rattle.op_moves.specs.Values.{put_same, put_other, put_all_below, reached}
use Rattle.op_skyline.specs.Emitted.{point_access, compare_ops, carry_ops, told_ops, computes, points_from, gate_after}
use Rattle.op_skyline.specs.Ops.{ops_then, computes_made, two_runs, pick_runs, lt_truth}
use Rattle.op_skyline.specs.Run.{Holds, holds_kept, all_held, entry_of, IsFormed, entry_long, is_lower, point_made, Ran, all_le, compare_runs, carry_runs}
use Rattle.op_skyline.specs.Settled.{largest, old_mark, old_score, old_values, hits, opens, settled, stays, encoded, AreFormed, cells_are, values_long, carries, formed_one}

record Told (n base gate carry x score : ℕ) (ws : Words) (g : Bool) (carried : List ℤ) (key : ℤ) : Type 0 where
  ran : Ran (told_ops n base gate carry x score) ws (base + n + 3)
  gate_is : ran.words (base + 3 * n + 5) ≡ Some (truth g)
  carried_is : Holds ran.words (base + 3 * n + 6) carried
  key_is : ran.words (base + 4 * n + 8) ≡ Some key

told_runs : (n base gate carry x score : ℕ) (ws : Words) (o0 o1 sx : ℤ) (os xs cs : List ℤ) (hit g : Bool) → length os ≡ n → length xs ≡ n → length cs ≡ suc (suc n)
    → gate < base → carry + n + 2 ≤ base → x + n ≤ base → score < base
    → Holds ws base (o0 ∷ o1 ∷ os) → ws (base + n + 2) ≡ Some (truth hit) → ws score ≡ Some sx → Holds ws x xs → Holds ws carry cs → ws gate ≡ Some (truth g)
    → Told n base gate carry x score ws (not (not hit && (int_lt sx o1 && all_le xs os)) && g) (if hit then o0 ∷ o1 ∷ os else cs) (if hit then largest else sx)
told_runs n base gate carry x score ws o0 o1 sx os xs cs hit g lo lx lc gb cb xb sb ho eh es hx hc eg =
    let less : Bool = int_lt sx o1 in
    let a : Bool = less && all_le xs os in
    let dom : Bool = not hit && a in
    let next : Bool = not dom && g in
    let ws1 : Words = put ws (base + n + 3) (truth less) in
    let low1 : (m : ℕ) → m < base + n + 3 → ws1 m ≡ ws m = λ m p. put_other ws (base + n + 3) (truth less) m (omega arith) in
    let two : base + 1 + 1 ≡ base + 2 = omega arith in
    let values : Holds ws (base + 2) os = subst (λ (i : ℕ). Holds ws i os) two ho.1.1 in
    let compared = compare_runs n x (base + 2) (base + n + 3) ws1 xs os less lx lo (omega arith) (omega arith)
    (holds_kept ws ws1 x (base + n + 3) xs low1 (omega arith) hx) (holds_kept ws ws1 (base + 2) (base + n + 3) os low1 (omega arith) values) (put_same ws (base + n + 3) (truth less) (base + n + 3) refl) in
    let ws2 : Words = compared.ran.words in
    let low2 : (m : ℕ) → m < base + n + 3 → ws2 m ≡ ws m = λ m p. compared.ran.low m (omega arith) ∙ low1 m p in
    let a2 : ws2 (base + 3 * n + 3) ≡ Some (truth a) = ap ws2 (let e : base + 3 * n + 3 ≡ base + n + 3 + 2 * n = omega arith in e) ∙ compared.told in
    let ws3 : Words = put ws2 (base + 3 * n + 4) (truth dom) in
    let ws4 : Words = put ws3 (base + 3 * n + 5) (truth next) in
    let low4 : (m : ℕ) → m < base + n + 3 → ws4 m ≡ ws m = λ m p. put_other ws3 (base + 3 * n + 5) (truth next) m (omega arith) ∙ put_other ws2 (base + 3 * n + 4) (truth dom) m (omega arith) ∙ low2 m p in
    let carried = carry_runs (suc (suc n)) (base + 3 * n + 6) (base + n + 2) base carry ws4 (o0 ∷ o1 ∷ os) cs hit (omega arith) lc (omega arith) (omega arith) (omega arith)
    (low4 (base + n + 2) (omega arith) ∙ eh) (holds_kept ws ws4 base (base + n + 3) (o0 ∷ o1 ∷ os) low4 (omega arith) ho) (holds_kept ws ws4 carry (base + n + 3) cs low4 (omega arith) hc) in
    let ws5 : Words = carried.ran.words in
    let low5 = carried.ran.low in
    let key : ℤ = if hit then largest else sx in
    let last : List Op = Pick (base + 4 * n + 8) (Word (base + n + 2)) (Const largest) (Word score) ∷ [] in
    let picks : List Op = carry_ops (suc (suc n)) (base + 3 * n + 6) (base + n + 2) base carry ++ last in
    let op5 : List Op = Two (base + 3 * n + 5) binary.Lt (Word (base + 3 * n + 4)) (Word gate) ∷ picks in
    let op4 : List Op = Two (base + 3 * n + 4) binary.Lt (Word (base + n + 2)) (Word (base + 3 * n + 3)) ∷ op5 in
    let high : (if hit then o0 ∷ o1 ∷ os else cs) ≡ (if hit then o0 ∷ o1 ∷ os else cs) = refl in
    record {
      ran = record {
        words = put ws5 (base + 4 * n + 8) key;
        is = two_runs ws (base + n + 3) binary.Lt (Word score) (Word (base + 1)) sx o1 (compare_ops n x (base + 2) (base + n + 3) ++ op4) es ho.1.0
            ∙ ops_then (compare_ops n x (base + 2) (base + n + 3)) op4 ws1 ws2 compared.ran.is
            ∙ two_runs ws2 (base + 3 * n + 4) binary.Lt (Word (base + n + 2)) (Word (base + 3 * n + 3)) (truth hit) (truth a) op5 (low2 (base + n + 2) (omega arith) ∙ eh) a2
            ∙ ap (λ (y : ℤ). exec_ops op5 (put ws2 (base + 3 * n + 4) y)) (lt_truth hit a)
            ∙ two_runs ws3 (base + 3 * n + 5) binary.Lt (Word (base + 3 * n + 4)) (Word gate) (truth dom) (truth g) picks (put_same ws2 (base + 3 * n + 4) (truth dom) (base + 3 * n + 4) refl)
            (put_other ws2 (base + 3 * n + 4) (truth dom) gate (omega arith) ∙ low2 gate (omega arith) ∙ eg)
            ∙ ap (λ (y : ℤ). exec_ops picks (put ws3 (base + 3 * n + 5) y)) (lt_truth dom g)
            ∙ ops_then (carry_ops (suc (suc n)) (base + 3 * n + 6) (base + n + 2) base carry) last ws4 ws5 carried.ran.is
            ∙ pick_runs ws5 (base + 4 * n + 8) (Word (base + n + 2)) (Const largest) (Word score) hit largest sx [] (low5 (base + n + 2) (omega arith) ∙ low4 (base + n + 2) (omega arith) ∙ eh) refl
            (low5 score (omega arith) ∙ low4 score (omega arith) ∙ es);
        low = λ m p. put_other ws5 (base + 4 * n + 8) key m (omega arith) ∙ low5 m (omega arith) ∙ low4 m p;
      };
      gate_is = put_other ws5 (base + 4 * n + 8) key (base + 3 * n + 5) (omega arith) ∙ low5 (base + 3 * n + 5) (omega arith) ∙ put_same ws3 (base + 3 * n + 5) (truth next) (base + 3 * n + 5) refl;
      carried_is = holds_kept ws5 (put ws5 (base + 4 * n + 8) key) (base + 3 * n + 6) (base + 4 * n + 8) (if hit then o0 ∷ o1 ∷ os else cs)
          (λ m p. put_other ws5 (base + 4 * n + 8) key m (omega arith)) (long hit) carried.held;
      key_is = put_same ws5 (base + 4 * n + 8) key (base + 4 * n + 8) refl;
    }
  where
    long : (b : Bool) → base + 3 * n + 6 + length (if b then o0 ∷ o1 ∷ os else cs) ≤ base + 4 * n + 8
    long true = omega arith
    long false = omega arith

-- what the moves of the points leave
pub record Pointed (arrays : List Array) (n array base gate carry key x score : ℕ) (ws : Words) (front : Registers) (c : Option (List ℤ)) (g shift : Bool) (sx : ℤ) (xs : List ℤ) (ds : List (Option (List ℤ))) : Type 0 where
  pub words : Words
  pub is : moves_made arrays (points_from (length ds) n array base gate carry key x score) (record { words = ws; registers = front ++ encoded n ds })
      ≡ Some (record { words = words; registers = front ++ encoded n (settled n sx xs ds g shift c) })
  pub gate_is : words (gate_after (length ds) n base gate) ≡ Some (truth (stays n sx xs ds g shift))

pub points_run : (arrays : List Array) (ds : List (Option (List ℤ))) (n array base gate carry key x score : ℕ) (ws : Words) (front : Registers)
    (c : Option (List ℤ)) (g shift : Bool) (sx : ℤ) (xs : List ℤ)
    → length front ≡ array → gate < base → carry + n + 2 ≤ base → key < base → x + n ≤ base → score < base
    → ((a : ℕ) → array ≤ a → a < array + length ds → cells_of arrays a ≡ suc (suc n))
    → ws gate ≡ Some (truth g) → Holds ws carry (entry_of n c) → ws key ≡ Some (if shift then largest else sx) → ws score ≡ Some sx → Holds ws x xs
    → length xs ≡ n → IsFormed n c → AreFormed n ds
    → Pointed arrays n array base gate carry key x score ws front c g shift sx xs ds
points_run arrays [] n array base gate carry key x score ws front c g shift sx xs lf gb cb kb xb sb ce eg hc ek es hx lx fc fd = record { words = ws; is = refl; gate_is = eg }
points_run arrays (d ∷ ds) n array base gate carry key x score ws front c g shift sx xs lf gb cb kb xb sb ce eg hc ek es hx lx fc fd =
    let kv : ℤ = if shift then largest else sx in
    let hit : Bool = hits g shift sx d in
    let cells : List ℤ = if g then entry_of n d else replicate (suc (suc n)) (pos 0) in
    let olds : List ℤ = old_mark g d ∷ old_score g d ∷ old_values n g d in
    let ws2 : Words = put (put_all ws base cells) (base + n + 2) (truth hit) in
    let rest : Registers = encoded n ds in
    let made : List (List ℤ) = entry_of n (if hit then c else d) ∷ [] in
    let low2 : (m : ℕ) → m < base → ws2 m ≡ ws m = λ m p. put_other (put_all ws base cells) (base + n + 2) (truth hit) m (omega arith) ∙ put_all_below ws base cells m p in
    let vlong = values_long n g d fd.0 in
    let held : Holds ws2 base olds =
    holds_kept (put_all ws base cells) ws2 base (base + n + 2) olds (λ m p. put_other (put_all ws base cells) (base + n + 2) (truth hit) m (omega arith)) (omega arith)
    (subst (Holds (put_all ws base cells) base) (cells_are n g d) (all_held ws base cells)) in
    let clong = entry_long n c fc in
    let told = told_runs n base gate carry x score ws2 (old_mark g d) (old_score g d) sx (old_values n g d) xs (entry_of n c) hit g vlong lx clong gb cb xb sb held
    (put_same (put_all ws base cells) (base + n + 2) (truth hit) (base + n + 2) refl) (low2 score sb ∙ es) (holds_kept ws ws2 x base xs low2 (omega arith) hx)
    (holds_kept ws ws2 carry base (entry_of n c) low2 (omega arith) hc) (low2 gate gb ∙ eg) in
    let ws3 : Words = told.ran.words in
    let low3 : (m : ℕ) → m < base → ws3 m ≡ ws m = λ m p. told.ran.low m (omega arith) ∙ low2 m p in
    let carried : Holds ws3 (base + 3 * n + 6) (entry_of n (if hit then d else c)) = subst (Holds ws3 (base + 3 * n + 6)) (carries n g (is_lower kv d) c d) told.carried_is in
    let more = points_run arrays ds n (array + 1) (base + 4 * n + 9) (base + 3 * n + 5) (base + 3 * n + 6) (base + 4 * n + 8) x score ws3 (front ++ made ∷ [])
    (if hit then d else c) (opens n g shift sx xs d) hit sx xs
    (length_push front made ∙ ap (λ (m : ℕ). m + 1) lf) (omega arith) (omega arith) (omega arith) (omega arith) (omega arith) (λ a p q. ce a (omega arith) (omega arith)) told.gate_is carried told.key_is
    (low3 score sb ∙ es) (holds_kept ws ws3 x base xs low3 (omega arith) hx) lx (formed_one n hit c d fc fd.0) fd.1 in
    let access : Access = point_access n array base gate carry key in
    let later : List Move = points_from (length ds) n (array + 1) (base + 4 * n + 9) (base + 3 * n + 5) (base + 3 * n + 6) (base + 4 * n + 8) x score in
    let told_moves : List Move = computes (told_ops n base gate carry x score) ++ later in
    let s : State = record { words = ws; registers = front ++ (entry_of n d ∷ []) ∷ rest } in
    let t : State = record { words = ws2; registers = front ++ made ∷ rest } in
    let step1 = reached arrays access told_moves s t (ap (λ (m : ℕ). exec_access m access s) (ce array (omega arith) (omega arith)) ∙ point_made n array base gate carry key ws front rest c d g kv lf eg ek hc fc fd.0) in
    let step2 = computes_made arrays (told_ops n base gate carry x score) later ws2 ws3 (front ++ made ∷ rest) told.ran.is in
    record {
      words = more.words;
      is = step1 ∙ (step2
          ∙ (ap (λ (r : Registers). moves_made arrays later (record { words = ws3; registers = r })) (sym (append_assoc front (made ∷ []) rest))
          ∙ (more.is
          ∙ ap (λ (r : Registers). Some (record { words = more.words; registers = r })) (append_assoc front (made ∷ []) (encoded n (settled n sx xs ds (opens n g shift sx xs d) hit (if hit then d else c)))))));
      gate_is = more.gate_is;
    }
