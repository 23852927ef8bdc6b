-- The program's moves are in order, so that it breaks no rule, and what it needs.
use Rattle.std.proofs.Common.{◌≡◌, ◌<◌, ◌≤◌, ℕ, zero, suc, ◌+◌, ◌*◌, true, List, [], ◌∷◌, ◌++◌, refl, arith, replicate, length, nat_eq}
use Rattle.std.specs.Prelude.{◌&&◌}
use Rattle.ch_ir.specs.declared.program.Operand.{Operand}
use Rattle.ch_ir.specs.declared.program.Test.{Test}
use Rattle.ch_ir.specs.declared.program.Update.{Update}
use Rattle.ch_ir.specs.declared.program.Array.{Array}
use Rattle.ch_ir.specs.Machine.{cells_of}
use Rattle.ch_ir.specs.Measure.{operands_end, sizes_of}
use Rattle.ch_ir.specs.Rules.{Known, BreaksNoRule, entries_of, inputs, key_words, test_fits, update_operands}
use Rattle.ch_prune.specs.Needs.{IsWithin}
use Rattle.ch_prune.specs.declared.operator.Need.{Need}
use Rattle.op_moves.specs.Fits.{unbroken}
use Rattle.op_moves.specs.InOrder.{AccessInOrder, InOrder, next_word}
use Rattle.op_moves.specs.Moves.{Compute, longest, reaches}
use Rattle.op_moves.specs.Within.{greatest_same, within}
use Rattle.op_topn.specs.Emitted.{arrays_of, last_bad, moves_of, register, steps, top_program, verdict_op}
use Rattle.op_topn.specs.Fine.{IsFine}
use Rattle.op_topn.specs.Step.{cell_at}
use Rattle.op_topn.specs.declared.sizes.Sizes.{Sizes}

-- the need of a plan with one key column
abbrev pub top_need : Sizes → Need
top_need s = record { width = s.width; cells = 1; words = s.width + 32 + (s.steps + 2) * 33; stages = 2 + (s.steps + 2) }

entry_at : (n a : ℕ) → a < n → entries_of (replicate n (record { entries = 1; cells = 1 })) a ≡ 1
entry_at zero a h = absurd (omega arith)
entry_at (suc n) zero h = refl
entry_at (suc n) (suc a) h = entry_at n a (omega arith)

register_in_order : (arrays : List Array) (n a : ℕ) (ks : Known) (guard : ℕ) (test : Test) (key : List Operand) (change : Update) (old : ℕ)
    → entries_of arrays a ≡ 1 → cells_of arrays a ≡ 1 → (nat_eq (length key) (key_words test) && test_fits test 1) ≡ true
    → guard < n → operands_end (key ++ (update_operands (change ∷ []) ++ [])) ≤ n → old ≡ n
    → AccessInOrder arrays n a ks (register a guard test key change old)
register_in_order arrays n a ks guard test key change old en ce fits g reads e = record {
  next_array = refl;
  shape = rw (en, ce) fits;
  reads = omega arith;
  low = refl;
  high = rw en refl;
  next = e;
  next_hit = omega arith;
}

module _ (s : Sizes) (fine : IsFine s) where
  steps_in_order : (arrays : List Array) (left i base n : ℕ) (ks : Known) → n ≡ base + 1 → last_bad s ≡ base + 7 * left → s.width + 9 ≤ base
      → ((a : ℕ) → i < a → a < i + 1 + left → (entries_of arrays a ≡ 1) × (cells_of arrays a ≡ 1))
      → InOrder arrays n (i + 1) ks (steps s left i base ++ Compute (verdict_op s) ∷ [])
  steps_in_order arrays zero i base n ks e v wide shape = (record { next = omega arith; reads = omega arith; modulus = refl }, tt)
  steps_in_order arrays (suc left) i base n ks e v wide shape =
      let this = shape (i + 1) (omega arith) (omega arith) in
      let one = this.1 in (
        record { next = omega arith; reads = omega arith; modulus = refl },
        (
          record { next = omega arith; reads = omega arith; modulus = refl },
          (
            register_in_order arrays (n + 1 + 1) (i + 1) _ (s.width + 7) _ _ _ (base + 3) this.0 this.1 refl (omega arith) (omega arith) (omega arith),
            (
              record { next = omega arith; reads = omega arith; modulus = refl },
              (
                record { next = omega arith; reads = omega arith; modulus = refl },
                (
                  record { next = omega arith; reads = omega arith; modulus = refl },
                  steps_in_order arrays left (i + 1) (base + 7) _ _ (omega arith) (omega arith) (omega arith) (λ a p q. shape a (omega arith) (omega arith)),
                ),
              ),
            ),
          ),
        ),
      )

  steps_words : (arrays : List Array) (left i base n : ℕ) → ((a : ℕ) → i < a → a < i + 1 + left → cells_of arrays a ≡ 1)
      → next_word arrays n (steps s left i base ++ Compute (verdict_op s) ∷ []) ≡ n + 7 * left + 1
  steps_words arrays zero i base n one = omega arith
  steps_words arrays (suc left) i base n one =
      let this = one (i + 1) (omega arith) (omega arith) in
      let more = steps_words arrays left (i + 1) (base + 7) (n + 1 + 1 + cells_of arrays (i + 1) + 1 + 1 + 1 + 1) (λ a p q. one a (omega arith) (omega arith)) in
      omega arith

  steps_reaches : (left i base : ℕ) → reaches (steps s left i base ++ Compute (verdict_op s) ∷ []) ≡ left
  steps_reaches zero i base = refl
  steps_reaches (suc left) i base = let more = steps_reaches left (i + 1) (base + 7) in omega arith

  steps_ops : (left i base n : ℕ) → n ≤ 3 → longest n (steps s left i base ++ Compute (verdict_op s) ∷ []) ≤ 5
  steps_ops zero i base n h = omega arith
  steps_ops (suc left) i base n h = let more = steps_ops left (i + 1) (base + 7) (0 + 1 + 1 + 1) (omega arith) in omega arith

  shapes : (a : ℕ) → a < 2 + s.steps → (entries_of (arrays_of s) a ≡ 1) × (cells_of (arrays_of s) a ≡ 1)
  shapes a h = (entry_at (2 + s.steps) a h, cell_at (2 + s.steps) a h)

  in_order : InOrder (arrays_of s) s.width 0 (inputs s.width) (moves_of s)
  in_order =
      let wide = fine.wide in
      let past = fine.past in
      let zeroth = shapes 0 (omega arith) in
      let first = shapes 1 (omega arith) in
      let c0 = zeroth.1 in
      let c1 = first.1 in (
        record { next = refl; reads = omega arith; modulus = refl },
        (
          register_in_order (arrays_of s) (s.width + 1) 0 _ s.width _ _ _ (s.width + 1) zeroth.0 zeroth.1 refl (omega arith) (omega arith) refl,
          (
            record { next = omega arith; reads = omega arith; modulus = refl },
            (
              record { next = omega arith; reads = omega arith; modulus = refl },
              (
                register_in_order (arrays_of s) _ 1 _ s.width _ _ _ (s.width + 5) first.0 first.1 refl (omega arith) (omega arith) (omega arith),
                (
                  record { next = omega arith; reads = omega arith; modulus = refl },
                  (
                    record { next = omega arith; reads = omega arith; modulus = refl },
                    (
                      record { next = omega arith; reads = omega arith; modulus = refl },
                      steps_in_order (arrays_of s) s.steps 1 (s.width + 9) _ _ (omega arith) refl (omega arith) (λ a p q. shapes a (omega arith)),
                    ),
                  ),
                ),
              ),
            ),
          ),
        ),
      )

  words_are : next_word (arrays_of s) s.width (moves_of s) ≡ s.width + 11 + 7 * s.steps
  words_are =
      let c0 = (shapes 0 (omega arith)).1 in
      let c1 = (shapes 1 (omega arith)).1 in
      let after : ℕ = s.width + 1 + cells_of (arrays_of s) 0 + 1 + 1 + 1 + cells_of (arrays_of s) 1 + 1 + 1 + 1 + 1 in
      let words = steps_words (arrays_of s) s.steps 1 (s.width + 9) after (λ a p q. (shapes a (omega arith)).1) in
      omega arith

  verdict_there : last_bad s + 1 < next_word (arrays_of s) s.width (moves_of s)
  verdict_there = let words = words_are in omega arith

  -- the program breaks no rule
  pub top_unbroken : BreaksNoRule (top_program s)
  top_unbroken = unbroken s.width (arrays_of s) (moves_of s) (last_bad s + 1) in_order verdict_there

  -- and is within the need
  pub top_measured : (ops : ℕ) → 48 ≤ ops → IsWithin (top_need s) ops (sizes_of (top_program s))
  top_measured ops many =
      let words = words_are in
      let arrays = greatest_same (2 + s.steps) 1 1 in
      let stages = steps_reaches s.steps 1 (s.width + 9) in
      let most = steps_ops s.steps 1 (s.width + 9) (0 + 1 + 1 + 1) (omega arith) in
      within (top_need s) ops s.width (arrays_of s) (moves_of s) (last_bad s + 1) in_order verdict_there refl (omega arith) (omega arith) (omega arith) (omega arith) many
