-- On every history of rows in the cell range the program's verdicts are the policy's.
use Rattle.std.proofs.Common.{◌≡◌, ◌<◌, ◌≤◌, ℕ, zero, suc, ◌+◌, ◌*◌, Bool, true, false, cond, List, [], ◌∷◌, ◌++◌, ℤ, pos, int_le, int_lt, refl, sym, ◌∙◌, ap, ap₂, arith, Some, None, Option, length, take, replicate, subst, inl, inr}
use Rattle.std.specs.Prelude.{if◌then◌else◌, ◌||◌, not}
use Rattle.std.specs.List.{list_all, list_any}
use Rattle.std.specs.Option.{option_and_then}
use Rattle.ch_cover.specs.Rows.{Row}
use Rattle.ch_ir.specs.declared.program.Operand.TheVariants.{Word, Const}
use Rattle.ch_ir.specs.declared.program.Binary.TheVariants as binary
use Rattle.ch_ir.specs.declared.program.Op.TheVariants.{Two}
use Rattle.ch_ir.specs.declared.program.Array.{Array}
use Rattle.ch_ir.specs.Machine.{Registers, Words, machine, cleared, ends, given, truth, cells_of}
use Rattle.ch_prune.specs.Sent.{is_cell_word}
use Rattle.ch_verdicts.specs.Agrees.{Agrees, ArePassed, IsTaken}
use Rattle.op_moves.specs.Made.{machine_made, moves_then}
use Rattle.op_moves.specs.Moves.{Move, Compute, moves_made}
use Rattle.op_moves.specs.Steps.{steps_agree}
use Rattle.op_moves.specs.Values.{row_words, word_at, given_at, word_given, put_same, set_truth}
use Rattle.op_skyline.specs.Emitted.{array_of, arrays_of, first_ops, gate_after, moves_of, points_from, points_of, skyline_program, verdict_of, verdict_op}
use Rattle.op_skyline.specs.Fine.{IsFine}
use Rattle.op_skyline.specs.Ops.{computes_made, eq_truth}
use Rattle.op_skyline.specs.Pointed.{points_run}
use Rattle.op_skyline.specs.Points.{pad, pad_long, AreGood, settled_off, stays_off, settled_is, stays_is}
use Rattle.op_skyline.specs.Policy.{dominates, inserted, point_of, score, skyline_policy, stored, stored_after}
use Rattle.op_moves.specs.Range.{Small, word_small}
use Rattle.op_skyline.specs.Settled.{largest, settled, stays, encoded, AreFormed}
use Rattle.op_skyline.specs.Start.{AllSmall, IsGiven, point_long, point_small, small_score, starts}
use Rattle.op_skyline.specs.Stored.{NeverRise, stored_ordered, stored_short}
use Rattle.op_skyline.specs.declared.sizes.Sizes.{Sizes}

-- the rows on which they agree: their words are in the cell range
abbrev pub skyline_takes : Row → Bool
skyline_takes r = list_all is_cell_word r.words

pub cells_at : (n a : ℕ) (x : Array) → a < n → cells_of (replicate n x) a ≡ x.cells
cells_at zero a x h = absurd (omega arith)
cells_at (suc n) zero x h = refl
cells_at (suc n) (suc a) x h = cells_at n a x (omega arith)

-- the last move
closed : (arrays : List Array) (verdict gate : ℕ) (ws : Words) (registers : Registers) (open_ : Bool) → ws gate ≡ Some (truth open_)
    → option_and_then (ends verdict) (moves_made arrays (Compute (Two verdict binary.Eq (Word gate) (Const (pos 0))) ∷ []) (record { words = ws; registers = registers }))
    ≡ Some (record { prune = not open_; registers = registers })
closed arrays verdict gate ws registers open_ e =
    rw (e, eq_truth open_, put_same ws verdict (truth (not open_)) verdict refl, set_truth (not open_)) refl

good_inserted : (n : ℕ) (p : List ℤ) (l : List (List ℤ)) → (length p ≡ n) × (int_lt (score p) largest ≡ true) → AreGood n l → AreGood n (inserted p l)
good_inserted n p [] g h = (g, tt)
good_inserted n p (s ∷ l) g h = go (good_inserted n p l g h.1) (int_le (score p) (score s))
  where
    go : AreGood n (inserted p l) → (b : Bool) → AreGood n (cond b (s ∷ inserted p l) (p ∷ s ∷ l))
    go ih true = (h.0, ih)
    go ih false = (g, h)

good_taken : (n m : ℕ) (l : List (List ℤ)) → AreGood n l → AreGood n (take m l)
good_taken n zero l h = tt
good_taken n (suc m) [] h = tt
good_taken n (suc m) (p ∷ l) h = (h.0, good_taken n m l h.1)

formed_pad : (n m : ℕ) (l : List (List ℤ)) → AreGood n l → AreFormed n (pad m l)
formed_pad n zero l h = tt
formed_pad n (suc m) [] h = (tt, formed_pad n m [] tt)
formed_pad n (suc m) (p ∷ l) h = (h.0.0, formed_pad n m l h.1)

encoded_cleared : (n m : ℕ) → encoded n (pad m []) ≡ cleared (replicate m (record { entries = 1; cells = suc (suc n) }))
encoded_cleared n zero = refl
encoded_cleared n (suc m) = ap (λ (r : Registers). (replicate (suc (suc n)) (pos 0) ∷ []) ∷ r) (encoded_cleared n m)

-- the step for a row, where the stored points are l
row_runs : (s : Sizes) → IsFine s → (l : List (List ℤ)) (r : Row) (row : List ℤ) (bit : Bool) → given s.width row 2 ≡ Some (truth bit) → IsGiven s.width r (given s.width row)
    → ((p : ℕ) → Small (word_at r p)) → length l ≤ s.points → AreGood (length s.places) l → NeverRise l
    → machine (skyline_program s) (encoded (length s.places) (pad s.points l)) row
    ≡ Some (record {
      prune = not bit || list_any (λ t. dominates t (point_of s r)) l;
      registers = encoded (length s.places) (pad s.points (if bit then stored_after s.points (point_of s r) l else l));
    })
row_runs s fine l r row bit eb read small short good falls = go (point_of s r) refl
  where
    n : ℕ
    n = length s.places

    told : (b : Bool) (p : List ℤ) → length p ≡ n → not (stays n (score p) p (pad s.points l) b false) ≡ (not b || list_any (λ t. dominates t p) l)
    told false p lp = ap not (stays_off n (score p) p (pad s.points l) false)
    told true p lp = ap not (stays_is n s.points p l lp short good falls) ∙ twice (list_any (λ t. dominates t p) l)
      where
        twice : (b : Bool) → not (not b) ≡ b
        twice true = refl
        twice false = refl

    listed : (b : Bool) (p : List ℤ) → length p ≡ n → settled n (score p) p (pad s.points l) b false (Some p) ≡ pad s.points (if b then stored_after s.points p l else l)
    listed false p lp = settled_off n (score p) p (pad s.points l) false (Some p)
    listed true p lp = settled_is n s.points p l lp short good falls

    go : (p : List ℤ) → point_of s r ≡ p
        → machine (skyline_program s) (encoded n (pad s.points l)) row
        ≡ Some (record { prune = not bit || list_any (λ t. dominates t p) l; registers = encoded n (pad s.points (if bit then stored_after s.points p l else l)) })
    go [] e = let some = fine.some in let long = sym (point_long s.places s.max r fine.same) ∙ ap (λ (q : List ℤ). length q) e in absurd (omega arith)
    go (v ∷ xs) e =
        let p : List ℤ = v ∷ xs in
        let w : ℕ = s.width in
        let arrays : List Array = arrays_of s in
        let ws : Words = given w row in
        let wide = fine.wide in
        let lp : length p ≡ n = ap (λ (q : List ℤ). length q) (sym e) ∙ point_long s.places s.max r fine.same in
        let begun = starts s fine r ws bit eb read small v xs e (subst AllSmall e (point_small s.places s.max r small)) in
        let ds : List (Option (List ℤ)) = pad s.points l in
        let padded : length ds ≡ s.points = pad_long s.points l in
        let run = points_run arrays ds n 0 (w + 4 + 3 * n) w (w + 1 + 2 * n) (w + 3 + 3 * n) (w + 1) (w + 2 * n) begun.words [] (Some p) bit false (score p) p
        refl (omega arith) (omega arith) (omega arith) (omega arith) (omega arith) (λ a q k. cells_at s.points a (array_of s) (omega arith))
        begun.gate_is begun.carried_is begun.key_is begun.score_is begun.values_are lp lp (formed_pad n s.points l good) in
        let before : Registers = encoded n ds in
        let after : Registers = encoded n (settled n (score p) p ds bit false (Some p)) in
        let open_ : Bool = stays n (score p) p ds bit false in
        let last : List Move = Compute (verdict_op s) ∷ [] in
        let moved : moves_made arrays (points_of s) (record { words = begun.words; registers = before }) ≡ Some (record { words = run.words; registers = after }) =
        ap (λ (m : ℕ). moves_made arrays (points_from m n 0 (w + 4 + 3 * n) w (w + 1 + 2 * n) (w + 3 + 3 * n) (w + 1) (w + 2 * n)) (record { words = begun.words; registers = before })) (sym padded) ∙ run.is in
        let gate : run.words (gate_after s.points n (w + 4 + 3 * n) w) ≡ Some (truth open_) = ap (λ (m : ℕ). run.words (gate_after m n (w + 4 + 3 * n) w)) (sym padded) ∙ run.gate_is in
        machine_made w arrays (moves_of s) (verdict_of s) before row
        ∙ (ap (option_and_then (ends (verdict_of s)))
        (computes_made arrays (first_ops s) (points_of s ++ last) ws begun.words before begun.is
        ∙ moves_then arrays (points_of s) last (record { words = begun.words; registers = before }) (record { words = run.words; registers = after }) moved)
        ∙ (closed arrays (verdict_of s) (gate_after s.points n (w + 4 + 3 * n) w) run.words after open_ gate
        ∙ ap₂ (λ (b : Bool) (k : Registers). Some (record { prune = b; registers = k })) (told bit p lp) (ap (encoded n) (listed bit p lp))))

module _ (s : Sizes) (fine : IsFine s) where
  abbrev after : List (ℕ × Row) → Registers
  after before = encoded (length s.places) (pad s.points (stored s before))

  good_stored : (before : List (ℕ × Row)) → ArePassed skyline_takes before → AreGood (length s.places) (stored s before)
  good_stored [] h = tt
  good_stored (x ∷ before) h = go (good_stored before (λ y i. h y (inr i))) x.1.bit (list_any (λ t. dominates t (point_of s x.1)) (stored s before))
    where
      small : (p : ℕ) → Small (word_at x.1 p)
      small p = word_small x.1 p (h x (inl refl)).1

      long : length (point_of s x.1) ≡ length s.places
      long = point_long s.places s.max x.1 fine.same

      good : (length (point_of s x.1) ≡ length s.places) × (int_lt (score (point_of s x.1)) largest ≡ true)
      good = (long, small_score (point_of s x.1) (point_small s.places s.max x.1 small) (let few = fine.few in let l = long in omega arith))

      go : AreGood (length s.places) (stored s before) → (b d : Bool)
          → AreGood (length s.places) (cond b (cond d (stored s before) (take s.points (inserted (point_of s x.1) (stored s before)))) (stored s before))
      go ih false d = ih
      go ih true true = ih
      go ih true false = good_taken (length s.places) s.points (inserted (point_of s x.1) (stored s before)) (good_inserted (length s.places) (point_of s x.1) (stored s before) good ih)

  row_step : (before : List (ℕ × Row)) (x : ℕ × Row) → ArePassed skyline_takes before → IsTaken skyline_takes x
      → machine (skyline_program s) (after before) (row_words x) ≡ Some (record { prune = skyline_policy s before x; registers = after (x ∷ before) })
  row_step before x h hx =
      row_runs s fine (stored s before) x.1 (row_words x) x.1.bit (given_at s.width (row_words x) 2 fine.wide) (λ p k q. given_at s.width (row_words x) p q ∙ ap Some (word_given x p k))
      (λ p. word_small x.1 p hx.1) (stored_short s before) (good_stored before h) (stored_ordered s before)

  pub skyline_agrees : Agrees skyline_takes (skyline_program s) None (cleared (arrays_of s)) (skyline_policy s)
  skyline_agrees = steps_agree skyline_takes (skyline_program s) (skyline_policy s) after (record { begun = encoded_cleared (length s.places) s.points; step = row_step })
