-- The program breaks no rule, and is within the need.
use Rattle.std.proofs.Common.{◌≡◌, ◌<◌, ◌≤◌, ℕ, zero, suc, ◌+◌, ◌*◌, true, List, [], ◌∷◌, ◌++◌, pos, refl, arith, Option, Some, None}
use Rattle.std.specs.Prelude.{◌-◌}
use Rattle.std.proofs.lemmas.Bool.{lt-ltb}
use Rattle.ch_ir.specs.declared.program.Operand.TheVariants.{Word}
use Rattle.ch_ir.specs.declared.program.Binary.TheVariants as binary
use Rattle.ch_ir.specs.declared.program.Op.{Op}
use Rattle.ch_ir.specs.declared.program.Op.TheVariants.{Two}
use Rattle.ch_ir.specs.declared.program.Array.{Array}
use Rattle.ch_ir.specs.Machine.{cells_of}
use Rattle.ch_ir.specs.Rules.{Known, inputs, learn, entries_of, BreaksNoRule}
use Rattle.ch_ir.specs.Measure.{operand_end, sizes_of}
use Rattle.op_moves.specs.Moves.{Compute, reaches, longest}
use Rattle.op_moves.specs.InOrder.{InOrder, next_word}
use Rattle.op_moves.specs.Fits.{learn_same, unbroken}
use Rattle.op_moves.specs.Sheets.{array_at}
use Rattle.op_moves.specs.Values.{places_are}
use Rattle.op_moves.specs.Reads.{places_end, cell_in_order}
use Rattle.op_moves.specs.Within.{within, greatest_same}
use Rattle.ch_prune.specs.Needs.{IsWithin}
use Rattle.op_having.specs.declared.sizes.Sizes.{Sizes}
use Rattle.op_having.specs.Fine.{IsFine, is_value_place}
use Rattle.op_having.specs.Places.{place_of}
use Rattle.op_having.specs.Program.{having_need, value_operand, sweep, bad_after, verdict_of, last_op, arrays_of, moves_of, program}

bad_below : (left base bad : ℕ) → bad < base → bad_after left base bad < base + 5 * left
bad_below zero base bad h = omega arith
bad_below (suc left) base bad h = let more = bad_below left (base + 5) (base + 4) (omega arith) in omega arith

module _ (d : Sizes) (fine : IsFine d) where
  sweep_in_order : (arrays : List Array) (left i base bad n v : ℕ) (ks : Known) → n ≡ base → v ≡ base + 5 * left → d.width + 2 < base → bad < base
      → ((a : ℕ) → i ≤ a → a < i + left → (entries_of arrays a ≡ d.cells) × (cells_of arrays a ≡ 1))
      → InOrder arrays n i ks (sweep d left i base bad ++ Compute (Two v binary.Le (Word d.width) (Word (bad_after left base bad))) ∷ [])
  sweep_in_order arrays zero i base bad n v ks e ve wb bb shape = (record { next = omega arith; reads = omega arith; modulus = refl }, tt)
  sweep_in_order arrays (suc left) i base bad n v ks e ve wb bb shape =
      let ends = places_end d.width n d.keys (places_are d.width d.keys fine.keys) (omega arith) in
      let some = fine.some in
      let this = shape i (omega arith) (omega arith) in
      let ce = this.1 in
      let range = learn_same ks base (record { low = pos 0; high = pos (d.cells - 1) }) base refl in (
        record { next = omega arith; reads = ends; modulus = lt-ltb 0 d.cells some },
        (
          cell_in_order arrays (n + 1) i (learn ks base (record { low = pos 0; high = pos (d.cells - 1) })) base d.width _ (base + 1) d.cells (d.cells - 1) this.0 ce (omega arith) range (omega arith) (omega arith) (omega arith) (omega arith),
          (
            record { next = omega arith; reads = omega arith; modulus = refl },
            (
              record { next = omega arith; reads = omega arith; modulus = refl },
              sweep_in_order arrays left (i + 1) (base + 5) (base + 4) _ v _ (omega arith) (omega arith) (omega arith) (omega arith) (λ a p q. shape a (omega arith) (omega arith)),
            ),
          ),
        ),
      )

  sweep_words : (arrays : List Array) (left i base bad n : ℕ) (op : Op) → ((a : ℕ) → i ≤ a → a < i + left → (entries_of arrays a ≡ d.cells) × (cells_of arrays a ≡ 1))
      → next_word arrays n (sweep d left i base bad ++ Compute op ∷ []) ≡ n + 5 * left + 1
  sweep_words arrays zero i base bad n op shape = omega arith
  sweep_words arrays (suc left) i base bad n op shape =
      let ce = (shape i (omega arith) (omega arith)).1 in
      let more = sweep_words arrays left (i + 1) (base + 5) (base + 4) (n + 1 + cells_of arrays i + 1 + 1 + 1) op (λ a p q. shape a (omega arith) (omega arith)) in
      omega arith

  sweep_reaches : (left i base bad : ℕ) (op : Op) → reaches (sweep d left i base bad ++ Compute op ∷ []) ≡ left
  sweep_reaches zero i base bad op = refl
  sweep_reaches (suc left) i base bad op = let more = sweep_reaches left (i + 1) (base + 5) (base + 4) op in omega arith

  sweep_ops : (left i base bad n : ℕ) (op : Op) → n ≤ 3 → longest n (sweep d left i base bad ++ Compute op ∷ []) ≤ 4
  sweep_ops zero i base bad n op h = omega arith
  sweep_ops (suc left) i base bad n op h = let more = sweep_ops left (i + 1) (base + 5) (base + 4) (0 + 1 + 1) op (omega arith) in omega arith

  value_end : (value : Option ℕ) → is_value_place d.width value ≡ true → operand_end (value_operand value) ≤ d.width
  value_end None h = omega arith
  value_end (Some p) h = let t = (place_of d.width p h).1 in omega arith

  shapes : (a : ℕ) → a < d.hashes → (entries_of (arrays_of d) a ≡ d.cells) × (cells_of (arrays_of d) a ≡ 1)
  shapes a h = array_at d.hashes d.cells a h

  in_order : InOrder (arrays_of d) d.width 0 (inputs d.width) (moves_of d)
  in_order =
      let wide = fine.wide in
      let value = value_end d.value fine.value in (
        record { next = refl; reads = omega arith; modulus = refl },
        (
          record { next = refl; reads = omega arith; modulus = refl },
          (
            record { next = omega arith; reads = omega arith; modulus = refl },
            sweep_in_order (arrays_of d) d.hashes 0 (d.width + 3) (d.width + 1) _ (verdict_of d) _ (omega arith) (omega arith) (omega arith) (omega arith) (λ a p q. shapes a (omega arith)),
          ),
        ),
      )

  verdict_there : verdict_of d < next_word (arrays_of d) d.width (moves_of d)
  verdict_there = let words = sweep_words (arrays_of d) d.hashes 0 (d.width + 3) (d.width + 1) (d.width + 1 + 1 + 1) (last_op d) (λ a p q. shapes a (omega arith)) in omega arith

  -- the program breaks no rule
  pub unbroken_program : BreaksNoRule (program d)
  unbroken_program = unbroken d.width (arrays_of d) (moves_of d) (verdict_of d) in_order verdict_there

  -- and is within the need
  pub within_need : (ops : ℕ) → 48 ≤ ops → IsWithin (having_need d) ops (sizes_of (program d))
  within_need ops many =
      let words = sweep_words (arrays_of d) d.hashes 0 (d.width + 3) (d.width + 1) (d.width + 1 + 1 + 1) (last_op d) (λ a p q. shapes a (omega arith)) in
      let arrays = greatest_same d.hashes d.cells 1 in
      let stages = sweep_reaches d.hashes 0 (d.width + 3) (d.width + 1) (last_op d) in
      let longest_ = sweep_ops d.hashes 0 (d.width + 3) (d.width + 1) (0 + 1 + 1 + 1) (last_op d) (omega arith) in
      within (having_need d) ops d.width (arrays_of d) (moves_of d) (verdict_of d) in_order verdict_there
      refl (omega arith) (omega arith) (omega arith) (omega arith) many
