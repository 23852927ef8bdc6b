-- What moves read, in order.
use Rattle.std.proofs.Common.{◌≡◌, ◌<◌, ◌≤◌, ℕ, zero, suc, ◌+◌, List, [], ◌∷◌, ◌++◌, pos, refl, ◌∙◌, arith, Some, map}
use Rattle.std.proofs.lemmas.Bool.{lt-ltb}
use Rattle.ch_ir.specs.declared.program.Operand.TheVariants.{Word}
use Rattle.ch_ir.specs.declared.program.Update.{Update}
use Rattle.ch_ir.specs.declared.program.Array.{Array}
use Rattle.ch_ir.specs.declared.program.Op.{Op}
use Rattle.ch_ir.specs.declared.program.Access.{Access}
use Rattle.ch_ir.specs.Machine.{op_to, cells_of}
use Rattle.ch_ir.specs.Rules.{Known, learn, whole, flag, entries_of, update_operands, op_interval, after_old, after_access}
use Rattle.ch_ir.specs.Measure.{operands_end}
use Rattle.op_moves.specs.Values.{ArePlaces}
use Rattle.op_moves.specs.Moves.{Move, Compute, Reach}
use Rattle.op_moves.specs.InOrder.{OpInOrder, AccessInOrder, InOrder}
use Rattle.op_moves.specs.Fits.{learn_same, learn_below}
use Rattle.op_moves.specs.Sheets.{cell_access}

pub places_end : (width n : ℕ) (places : List ℕ) → ArePlaces width places → width ≤ n → operands_end (map Word places) ≤ n
places_end width n [] h k = omega arith
places_end width n (p ∷ places) h k = let rest = places_end width n places h.1 k in let first = h.0.1 in omega arith

pub cell_in_order : (arrays : List Array) (n i : ℕ) (ks : Known) (index guard : ℕ) (u : Update) (old cells high : ℕ)
    → entries_of arrays i ≡ cells → cells_of arrays i ≡ 1 → high < cells → ks index ≡ Some (record { low = pos 0; high = pos high })
    → index < n → guard < n → operands_end (update_operands (u ∷ []) ++ []) ≤ n → old ≡ n
    → AccessInOrder arrays n i ks (cell_access i index guard u old)
cell_in_order arrays n i ks index guard u old cells high en ce lt e hi hg hu o = record {
  next_array = refl;
  shape = rw (en, ce, lt-ltb 0 cells (omega arith)) refl;
  reads = omega arith;
  low = rw e refl;
  high = rw (e, en, lt-ltb high cells lt) refl;
  next = o;
  next_hit = omega (arith);
}

-- What is known after a move, as any map of what was known before and of the words that it assigns

old_below : (cells to : ℕ) (ks : Known) (w : ℕ) → w < to → after_old to cells ks w ≡ ks w
old_below zero to ks w h = refl
old_below (suc cells) to ks w h = old_below cells (to + 1) (learn ks to whole) w (omega arith) ∙ learn_below ks to whole w h

-- m is the next word after it
pub next_op : (arrays : List Array) (n m a : ℕ) (ks : Known) (op : Op) (moves : List Move) → m ≡ n + 1 → OpInOrder n op
    → ((ls : Known) → ls n ≡ Some (op_interval ks op) → ((w : ℕ) → w < n → ls w ≡ ks w) → InOrder arrays m a ls moves)
    → InOrder arrays n a ks (Compute op ∷ moves)
next_op arrays n m a ks op moves e o then_ =
    let next = o.next in
    (o, rw (← e) (then_ (learn ks (op_to op) (op_interval ks op)) (learn_same ks (op_to op) (op_interval ks op) n (omega arith)) (λ w h. learn_below ks (op_to op) (op_interval ks op) w (omega arith))))

pub next_reach : (arrays : List Array) (n m a : ℕ) (ks : Known) (x : Access) (moves : List Move) → m ≡ n + cells_of arrays x.array + 1 → AccessInOrder arrays n a ks x
    → ((ls : Known) → ((w : ℕ) → w < n → ls w ≡ ks w) → InOrder arrays m (a + 1) ls moves)
    → InOrder arrays n a ks (Reach x ∷ moves)
next_reach arrays n m a ks x moves e o then_ =
    let old = o.next in
    let hit = o.next_hit in
    (o, rw (← e) (then_ (after_access arrays x ks) (λ w h. learn_below (after_old x.old (cells_of arrays x.array) ks) x.hit flag w (omega arith) ∙ old_below (cells_of arrays x.array) x.old ks w (omega arith))))
