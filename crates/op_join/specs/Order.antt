-- The program breaks no rule, and is within the need.
use Rattle.std.proofs.Common.{◌≡◌, ◌<◌, ◌≤◌, ℕ, ◌+◌, ◌*◌, [], ◌∷◌, refl, ◌∙◌, arith}
use Rattle.ch_ir.specs.Rules.{inputs, BreaksNoRule}
use Rattle.ch_ir.specs.Measure.{sizes_of}
use Rattle.op_moves.specs.Moves.{Compute}
use Rattle.op_moves.specs.InOrder.{InOrder, next_word}
use Rattle.op_moves.specs.Fits.{unbroken}
use Rattle.op_moves.specs.Sheets.{array_at}
use Rattle.op_moves.specs.Within.{within, greatest_same}
use Rattle.ch_prune.specs.Needs.{IsWithin}
use Rattle.op_bloom.specs.declared.sizes.Sizes.{Sizes}
use Rattle.op_bloom.specs.Fine.{IsFine}
use Rattle.op_bloom.specs.Program.{end_of, bloom_arrays}
use Rattle.op_bloom.specs.Order.{bad_below, bloom_in_order, sweep_words, sweep_reaches, sweep_ops}
use Rattle.op_join.specs.Program.{join_need, verdict_op, moves_of, program}

module _ (d : Sizes) (fine : IsFine d) where
  in_order : InOrder (bloom_arrays d) d.width 0 (inputs d.width) (moves_of d)
  in_order =
      let bad = bad_below d.hashes (d.width + 5) (d.width + 1) (omega arith) in
      bloom_in_order d fine (bloom_arrays d) (Compute (verdict_op d) ∷ []) (λ a h. array_at d.hashes (2 * d.cells) a h)
      (λ ls. (record { next = refl; reads = omega arith; modulus = refl }, tt))

  words_are : next_word (bloom_arrays d) d.width (moves_of d) ≡ end_of d + 1
  words_are = sweep_words d fine (bloom_arrays d) d.hashes 0 (d.width + 5) (d.width + 1) (d.width + 1 + 1 + 1 + 1 + 1) (Compute (verdict_op d) ∷ []) (λ a p q. (array_at d.hashes (2 * d.cells) a (omega arith)).1) ∙ omega arith

  verdict_there : end_of d < next_word (bloom_arrays d) d.width (moves_of d)
  verdict_there = let words = words_are in omega arith

  -- the program breaks no rule
  pub unbroken_program : BreaksNoRule (program d)
  unbroken_program = unbroken d.width (bloom_arrays d) (moves_of d) (end_of d) in_order verdict_there

  -- and is within the need
  pub within_need : (ops : ℕ) → 48 ≤ ops → IsWithin (join_need d) ops (sizes_of (program d))
  within_need ops many =
      let words = words_are in
      let arrays = greatest_same d.hashes (2 * d.cells) 1 in
      let stages = sweep_reaches d fine d.hashes 0 (d.width + 5) (d.width + 1) (Compute (verdict_op d) ∷ []) in
      let longest_ = sweep_ops d fine d.hashes 0 (d.width + 5) (d.width + 1) (0 + 1 + 1 + 1 + 1 + 1) (Compute (verdict_op d) ∷ []) (omega arith) (λ m h. omega arith) in
      within (join_need d) ops d.width (bloom_arrays d) (moves_of d) (end_of d) in_order verdict_there
      refl (omega arith) (omega arith) (omega arith) (omega arith) many
