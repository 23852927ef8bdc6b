-- The program breaks no rule, and is within the need.
use Rattle.std.proofs.Common.{◌≡◌, ◌<◌, ◌≤◌, ℕ, zero, suc, ◌+◌, ◌*◌, [], ◌∷◌, ◌++◌, refl, ◌∙◌, arith, max, replicate}
use Rattle.std.proofs.lemmas.Bool.{lt-ltb}
use Rattle.ch_ir.specs.Rules.{inputs, BreaksNoRule}
use Rattle.ch_ir.specs.Measure.{sizes_of, greatest_array}
use Rattle.op_moves.specs.Moves.{Compute}
use Rattle.op_moves.specs.InOrder.{InOrder, next_word}
use Rattle.op_moves.specs.Fits.{unbroken}
use Rattle.op_moves.specs.Reads.{next_op}
use Rattle.op_moves.specs.Sheets.{arrays_at}
use Rattle.op_moves.specs.Within.{within, greatest_same}
use Rattle.op_bloom.specs.Program.{end_of}
use Rattle.op_bloom.specs.Order.{bad_below, bloom_in_order, sweep_words, sweep_reaches, sweep_ops}
use Rattle.op_cache.specs.InOrder.{gate_below, columns_there, columns_in_order, columns_words, columns_reaches, columns_ops}
use Rattle.ch_prune.specs.Needs.{IsWithin}
use Rattle.op_semi.specs.declared.sizes.Sizes.{Sizes}
use Rattle.op_semi.specs.Fine.{IsFine}
use Rattle.op_semi.specs.Program.{semi_need, key_word, carried_of, ok_op, row_op, inner_op, list_moves, last_of, after_lists, after_bloom, list_arrays, arrays_of, moves_of, program}

greatest_both : (n : ℕ) (m entries_n entries_m : ℕ) → greatest_array (replicate n (record { entries = entries_n; cells = 1 }) ++ replicate m (record { entries = entries_m; cells = 2 })) ≤ max entries_n (2 * entries_m)
greatest_both zero m a b = let k = greatest_same m b 2 in omega arith
greatest_both (suc n) m a b = let k = greatest_both n m a b in omega arith

module _ (d : Sizes) (fine : IsFine d) where
  in_order : InOrder (arrays_of d) d.bloom.width 0 (inputs d.bloom.width) (moves_of d)
  in_order =
      let e = end_of d.bloom in
      let bad = bad_below d.bloom.hashes (d.bloom.width + 5) (d.bloom.width + 1) (omega arith) in
      let gate = gate_below 1 d.cols (e + 3) (e + 2) (omega arith) in
      let b = fine.bloom in
      let wide = b.wide in
      bloom_in_order d.bloom b (arrays_of d) (after_bloom d) (λ a h. arrays_at d.bloom.hashes (2 * d.bloom.cells) a (list_arrays d) h) (λ ls.
      next_op (arrays_of d) e (e + 1) d.bloom.hashes ls (ok_op d) (Compute (row_op d) ∷ Compute (inner_op d) ∷ (list_moves d ++ after_lists d)) refl (record { next = refl; reads = omega arith; modulus = refl }) (λ k1 s1 f1.
      next_op (arrays_of d) (e + 1) (e + 2) d.bloom.hashes k1 (row_op d) (Compute (inner_op d) ∷ (list_moves d ++ after_lists d)) (omega arith) (record { next = refl; reads = omega arith; modulus = lt-ltb 0 d.rows fine.some }) (λ k2 s2 f2.
      next_op (arrays_of d) (e + 2) (e + 3) d.bloom.hashes k2 (inner_op d) (list_moves d ++ after_lists d) (omega arith) (record { next = refl; reads = omega arith; modulus = refl }) (λ k3 s3 f3.
      columns_in_order (arrays_of d) d.cols d.bloom.hashes (e + 3) (e + 2) (e + 1) d.rows (key_word d ∷ []) (carried_of d) k3 (after_lists d) fine.some
      (omega arith) (omega arith) (omega arith, tt) refl (omega arith) (f3 (e + 1) (omega arith) ∙ s2)
      (λ a p q. columns_there d.bloom.hashes (record { entries = 2 * d.bloom.cells; cells = 1 }) d.cols d.rows 1 a p q)
      (λ m j ls p q. (record { next = omega arith; reads = omega arith; modulus = refl }, (record { next = omega arith; reads = omega arith; modulus = refl }, tt)))))))

  words_are : next_word (arrays_of d) d.bloom.width (moves_of d) ≡ last_of d + 2
  words_are =
      let e = end_of d.bloom in
      sweep_words d.bloom fine.bloom (arrays_of d) d.bloom.hashes 0 (d.bloom.width + 5) (d.bloom.width + 1) (d.bloom.width + 1 + 1 + 1 + 1 + 1) (after_bloom d)
      (λ a p q. (arrays_at d.bloom.hashes (2 * d.bloom.cells) a (list_arrays d) (omega arith)).1)
      ∙ (columns_words (arrays_of d) d.cols d.bloom.hashes (e + 3) (e + 2) (e + 1) (d.bloom.width + 1 + 1 + 1 + 1 + 1 + 10 * d.bloom.hashes + 1 + 1 + 1) (key_word d ∷ []) (carried_of d) (after_lists d)
      (λ a p q. (columns_there d.bloom.hashes (record { entries = 2 * d.bloom.cells; cells = 1 }) d.cols d.rows 1 a p q).1)
      ∙ omega arith)

  verdict_there : last_of d + 1 < next_word (arrays_of d) d.bloom.width (moves_of d)
  verdict_there = let words = words_are in omega arith

  -- the program breaks no rule
  pub unbroken_program : BreaksNoRule (program d)
  unbroken_program = unbroken d.bloom.width (arrays_of d) (moves_of d) (last_of d + 1) in_order verdict_there

  -- and is within the need
  pub within_need : (ops : ℕ) → 48 ≤ ops → IsWithin (semi_need d) ops (sizes_of (program d))
  within_need ops many =
      let e = end_of d.bloom in
      let words = words_are in
      let arrays = greatest_both d.bloom.hashes d.cols (2 * d.bloom.cells) d.rows in
      let stages = sweep_reaches d.bloom fine.bloom d.bloom.hashes 0 (d.bloom.width + 5) (d.bloom.width + 1) (after_bloom d) in
      let more = columns_reaches d.cols d.bloom.hashes (e + 3) (e + 2) (e + 1) (key_word d ∷ []) (carried_of d) (after_lists d) in
      let longest_ = sweep_ops d.bloom fine.bloom d.bloom.hashes 0 (d.bloom.width + 5) (d.bloom.width + 1) (0 + 1 + 1 + 1 + 1 + 1) (after_bloom d) (omega arith)
      (λ m h. columns_ops d.cols d.bloom.hashes (e + 3) (e + 2) (e + 1) (m + 1 + 1 + 1) (key_word d ∷ []) (carried_of d) (after_lists d) (omega arith) (λ n k. omega arith)) in
      within (semi_need d) ops d.bloom.width (arrays_of d) (moves_of d) (last_of d + 1) in_order verdict_there
      refl (omega arith) (omega arith) (omega arith) (omega arith) many
