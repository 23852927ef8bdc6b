-- The moves are in order, and what they need.
use Rattle.std.proofs.Common.{◌≡◌, ◌<◌, ◌≤◌, ℕ, zero, suc, ◌+◌, ◌*◌, List, [], ◌∷◌, ◌++◌, pos, refl, sym, ◌∙◌, ap, arith, Some, length, map, replicate}
use Rattle.std.proofs.lemmas.Bool.{lt-ltb}
use Rattle.ch_ir.specs.declared.program.Operand.TheVariants.{Word}
use Rattle.ch_ir.specs.Measure.{operands_end, greatest_array, sizes_of}
use Rattle.ch_ir.specs.Rules.{BreaksNoRule, inputs}
use Rattle.ch_prune.specs.Needs.{IsWithin}
use Rattle.op_moves.specs.Moves.{Move, Compute, longest, reaches}
use Rattle.op_moves.specs.InOrder.{InOrder, next_word}
use Rattle.op_moves.specs.Fits.{unbroken}
use Rattle.op_moves.specs.Reads.{next_op, places_end}
use Rattle.op_moves.specs.Values.{places_are}
use Rattle.op_moves.specs.Within.{greatest_same, within}
use Rattle.op_cache.specs.InOrder.{columns_in_order, columns_ops, columns_reaches, columns_there, columns_words, gate_below}
use Rattle.op_distinct.specs.Sizes.{Sizes, IsFine}
use Rattle.op_distinct.specs.Program.{arrays_of, carried_of, distinct_need, distinct_program, fresh_word, gate_op, last_of, lists_of, moves_of, row_op, verdict_op}
use Rattle.op_distinct.specs.Run.{places_below}

length_words : (places : List ℕ) → length (map Word places) ≡ length places
length_words [] = refl
length_words (p ∷ places) = ap suc (length_words places)

module _ (s : Sizes) (fine : IsFine s) where
  abbrev last_move : List Move
  last_move = Compute (verdict_op s) ∷ []

  fresh_below : fresh_word s < last_of s
  fresh_below = gate_below (length s.key) s.cols (s.width + 2) s.width (omega arith)

  pub distinct_in_order : InOrder (arrays_of s) s.width 0 (inputs s.width) (moves_of s)
  distinct_in_order =
      let w : ℕ = s.width in
      let wide = fine.wide in
      let places = places_are s.width s.key fine.places in
      let tail : List Move = lists_of s ++ last_move in
      let long : length (carried_of s) ≡ length s.key + 1 = let e = length_words s.key in omega arith in
      let ends : operands_end (carried_of s) ≤ w + 2 = let e = places_end w (w + 2) s.key places (omega arith) in omega arith in
      next_op (arrays_of s) w (w + 1) 0 (inputs w) (gate_op s) (Compute (row_op s) ∷ tail) refl (record { next = refl; reads = omega arith; modulus = refl }) (λ k1 s1 f1.
      next_op (arrays_of s) (w + 1) (w + 2) 0 k1 (row_op s) tail (omega arith) (record { next = refl; reads = places_end w (w + 1) s.key places (omega arith); modulus = lt-ltb 0 s.rows fine.some_rows }) (λ k2 s2 f2.
      columns_in_order (arrays_of s) s.cols 0 (w + 2) w (w + 1) s.rows s.key (carried_of s) k2 last_move fine.some_rows (omega arith) (omega arith) (places_below w (w + 2) s.key places (omega arith)) long ends s2
      (λ a p q. columns_there 0 (record { entries = 0; cells = 0 }) s.cols s.rows (length s.key) a p q)
      (λ m j ls p q. (record { next = sym p; reads = (let f = fresh_below in omega arith); modulus = refl }, tt))))

  words_are : next_word (arrays_of s) s.width (moves_of s) ≡ last_of s + 1
  words_are =
      columns_words (arrays_of s) s.cols 0 (s.width + 2) s.width (s.width + 1) (s.width + 1 + 1) s.key (carried_of s) last_move
      (λ a p q. (columns_there 0 (record { entries = 0; cells = 0 }) s.cols s.rows (length s.key) a p q).1)
      ∙ omega arith

  pub distinct_unbroken : BreaksNoRule (distinct_program s)
  distinct_unbroken = unbroken s.width (arrays_of s) (moves_of s) (last_of s) distinct_in_order (let e = words_are in omega arith)

  pub distinct_measured : (ops : ℕ) → 48 ≤ ops → IsWithin (distinct_need s) ops (sizes_of (distinct_program s))
  distinct_measured ops many =
      let words = words_are in
      let more : (length s.key + 3) * s.cols ≤ s.cols * (length s.key + 32) = less_words (length s.key) s.cols in
      within (distinct_need s) ops s.width (arrays_of s) (moves_of s) (last_of s) distinct_in_order (omega arith) refl (greatest_same s.cols s.rows (length s.key + 1)) (omega arith)
      (let r = columns_reaches s.cols 0 (s.width + 2) s.width (s.width + 1) s.key (carried_of s) last_move in omega arith)
      (columns_ops s.cols 0 (s.width + 2) s.width (s.width + 1) (0 + 1 + 1) s.key (carried_of s) last_move (omega arith) (λ i h. omega arith))
      many
    where
      less_words : (n cols : ℕ) → (n + 3) * cols ≤ cols * (n + 32)
      less_words n cols = omega arith
