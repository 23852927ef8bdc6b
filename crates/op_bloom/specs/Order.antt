-- The moves of the Bloom filters are in order.
use Rattle.std.proofs.Common.{◌≡◌, ◌<◌, ◌≤◌, ℕ, zero, suc, ◌+◌, ◌*◌, ◌^◌, List, ◌∷◌, ◌++◌, pos, refl, ◌∙◌, ap, ap₂, arith, Option, Some}
use Rattle.std.specs.Prelude.{◌-◌}
use Rattle.std.proofs.lemmas.Bool.{lt-ltb}
use Rattle.ch_ir.specs.declared.program.Binary.TheVariants as binary
use Rattle.ch_ir.specs.declared.program.Array.{Array}
use Rattle.ch_ir.specs.declared.rules.Interval.{Interval}
use Rattle.ch_ir.specs.Machine.{cells_of}
use Rattle.ch_ir.specs.Rules.{Known, inputs, entries_of, two_interval, hull, or_whole}
use Rattle.op_moves.specs.Moves.{Move, Compute, Reach, reaches, longest}
use Rattle.op_moves.specs.InOrder.{InOrder, next_word}
use Rattle.op_moves.specs.Reads.{cell_in_order, next_op, next_reach}
use Rattle.op_bloom.specs.declared.sizes.Sizes.{Sizes}
use Rattle.op_bloom.specs.Fine.{IsFine}
use Rattle.op_bloom.specs.Program.{set_op, first_op, key_op, half_op, offset_op, hash_op, bit_op, cell_op, entry_op, put_op, filter_access, mask_op, clear_op, bad_op, sweep, bad_after, end_of, bloom_moves}

pub bad_below : (left base bad : ℕ) → bad < base → bad_after left base bad < base + 10 * left
bad_below zero base bad h = omega arith
bad_below (suc left) base bad h = let more = bad_below left (base + 10) (base + 9) (omega arith) in omega arith

-- the array of a hash
abbrev pub IsFilter : Sizes → List Array → ℕ → Type 0
IsFilter d arrays a = (entries_of arrays a ≡ 2 * d.cells) × (cells_of arrays a ≡ 1)

abbrev pub offset_interval : Sizes → Interval
offset_interval d = record { low = pos 0; high = pos d.cells }

summed : (c : ℕ) → c < 2 ^ 31 → 0 < c → two_interval binary.Add (record { low = pos 0; high = pos c }) (record { low = pos 0; high = pos (c - 1) }) ≡ record { low = pos 0; high = pos (2 * c - 1) }
summed c h k = ap (λ (n : ℕ). record { low = pos 0; high = pos n }) (omega arith)

hulled : (c : ℕ) → 0 < c → hull (record { low = pos c; high = pos c }) (record { low = pos 0; high = pos 0 }) ≡ record { low = pos 0; high = pos c }
hulled c h = rw (lt-ltb 0 c h) refl

module _ (d : Sizes) (fine : IsFine d) where
  pub sweep_in_order : (arrays : List Array) (left i base bad : ℕ) (ks : Known) (rest : List Move) → d.width + 4 < base → bad < base
      → ks (d.width + 4) ≡ Some (offset_interval d) → ((a : ℕ) → i ≤ a → a < i + left → IsFilter d arrays a)
      → ((m j : ℕ) (ls : Known) → m ≡ base + 10 * left → j ≡ i + left → InOrder arrays m j ls rest)
      → InOrder arrays base i ks (sweep d left i base bad ++ rest)
  sweep_in_order arrays zero i base bad ks rest wb bb span shape then_ = then_ base i ks (omega arith) (omega arith)
  sweep_in_order arrays (suc left) i base bad ks rest wb bb span shape then_ =
      let this = shape i (omega arith) (omega arith) in
      let ce = this.1 in
      let some = fine.some in
      let tail : List Move = sweep d left (i + 1) (base + 10) (base + 9) ++ rest in
      let moves8 : List Move = Compute (bad_op base bad) ∷ tail in
      let moves7 : List Move = Compute (clear_op base) ∷ moves8 in
      let moves6 : List Move = Compute (mask_op base) ∷ moves7 in
      let moves5 : List Move = Reach (filter_access d i base) ∷ moves6 in
      let moves4 : List Move = Compute (put_op d base) ∷ moves5 in
      let moves3 : List Move = Compute (entry_op d base) ∷ moves4 in
      let moves2 : List Move = Compute (cell_op d i base) ∷ moves3 in
      let moves1 : List Move = Compute (bit_op base) ∷ moves2 in
      next_op arrays base (base + 1) i ks (hash_op d i base) moves1 refl (record { next = refl; reads = omega arith; modulus = refl }) (λ k1 s1 f1.
      next_op arrays (base + 1) (base + 2) i k1 (bit_op base) moves2 (omega arith) (record { next = refl; reads = omega arith; modulus = refl }) (λ k2 s2 f2.
      next_op arrays (base + 2) (base + 3) i k2 (cell_op d i base) moves3 (omega arith) (record { next = refl; reads = omega arith; modulus = lt-ltb 0 d.cells some }) (λ k3 s3 f3.
      next_op arrays (base + 3) (base + 4) i k3 (entry_op d base) moves4 (omega arith) (record { next = refl; reads = omega arith; modulus = refl }) (λ k4 s4 f4.
      next_op arrays (base + 4) (base + 5) i k4 (put_op d base) moves5 (omega arith) (record { next = refl; reads = omega arith; modulus = refl }) (λ k5 s5 f5.
      let o3 : k3 (d.width + 4) ≡ Some (offset_interval d) = f3 (d.width + 4) (omega arith) ∙ (f2 (d.width + 4) (omega arith) ∙ (f1 (d.width + 4) (omega arith) ∙ span)) in
      let at : k5 (base + 3) ≡ Some (record { low = pos 0; high = pos (2 * d.cells - 1) }) =
      f5 (base + 3) (omega arith) ∙ (s4 ∙ (ap₂ (λ (a b : Option Interval). Some (two_interval binary.Add (or_whole a) (or_whole b))) o3 s3 ∙ ap Some (summed d.cells fine.small some))) in
      next_reach arrays (base + 5) (base + 7) i k5 (filter_access d i base) moves6 (omega arith)
      (cell_in_order arrays (base + 5) i k5 (base + 3) d.width _ (base + 5) (2 * d.cells) (2 * d.cells - 1) this.0 ce (omega arith) at (omega arith) (omega arith) (omega arith) refl) (λ k6 f6.
      next_op arrays (base + 7) (base + 8) (i + 1) k6 (mask_op base) moves7 (omega arith) (record { next = refl; reads = omega arith; modulus = refl }) (λ k7 s7 f7.
      next_op arrays (base + 8) (base + 9) (i + 1) k7 (clear_op base) moves8 (omega arith) (record { next = refl; reads = omega arith; modulus = refl }) (λ k8 s8 f8.
      next_op arrays (base + 9) (base + 10) (i + 1) k8 (bad_op base bad) tail (omega arith) (record { next = refl; reads = omega arith; modulus = refl }) (λ k9 s9 f9.
      let o9 : k9 (d.width + 4) ≡ Some (offset_interval d) =
      f9 (d.width + 4) (omega arith) ∙ (f8 (d.width + 4) (omega arith) ∙ (f7 (d.width + 4) (omega arith) ∙ (f6 (d.width + 4) (omega arith) ∙ (f5 (d.width + 4) (omega arith) ∙ (f4 (d.width + 4) (omega arith) ∙ o3))))) in
      sweep_in_order arrays left (i + 1) (base + 10) (base + 9) k9 rest (omega arith) (omega arith) o9 (λ a p q. shape a (omega arith) (omega arith))
      (λ m j ls e g. then_ m j ls (omega arith) (omega arith)))))))))))

  -- the moves of the filters, in front of others
  pub bloom_in_order : (arrays : List Array) (rest : List Move) → ((a : ℕ) → a < d.hashes → IsFilter d arrays a)
      → ((ls : Known) → InOrder arrays (end_of d) d.hashes ls rest) → InOrder arrays d.width 0 (inputs d.width) (bloom_moves d ++ rest)
  bloom_in_order arrays rest shape then_ =
      let wide = fine.wide in
      let left = fine.left.1 in
      let right = fine.right.1 in
      let w : ℕ = d.width in
      let rest5 : List Move = sweep d d.hashes 0 (w + 5) (w + 1) ++ rest in
      let rest4 : List Move = Compute (offset_op d) ∷ rest5 in
      let rest3 : List Move = Compute (half_op d) ∷ rest4 in
      let rest2 : List Move = Compute (key_op d) ∷ rest3 in
      let rest1 : List Move = Compute (first_op d) ∷ rest2 in
      next_op arrays w (w + 1) 0 (inputs w) (set_op d) rest1 refl (record { next = refl; reads = omega arith; modulus = refl }) (λ k1 s1 f1.
      next_op arrays (w + 1) (w + 2) 0 k1 (first_op d) rest2 (omega arith) (record { next = refl; reads = omega arith; modulus = refl }) (λ k2 s2 f2.
      next_op arrays (w + 2) (w + 3) 0 k2 (key_op d) rest3 (omega arith) (record { next = refl; reads = omega arith; modulus = refl }) (λ k3 s3 f3.
      next_op arrays (w + 3) (w + 4) 0 k3 (half_op d) rest4 (omega arith) (record { next = refl; reads = omega arith; modulus = refl }) (λ k4 s4 f4.
      next_op arrays (w + 4) (w + 5) 0 k4 (offset_op d) rest5 (omega arith) (record { next = refl; reads = omega arith; modulus = refl }) (λ k5 s5 f5.
      sweep_in_order arrays d.hashes 0 (w + 5) (w + 1) k5 rest (omega arith) (omega arith) (s5 ∙ ap Some (hulled d.cells fine.some)) (λ a p q. shape a (omega arith))
      (λ m j ls e g. let em : m ≡ end_of d = omega arith in let ej : j ≡ d.hashes = omega arith in rw (em, ej) (then_ ls)))))))

  -- their words, accesses and longest stage
  pub sweep_words : (arrays : List Array) (left i base bad n : ℕ) (rest : List Move) → ((a : ℕ) → i ≤ a → a < i + left → cells_of arrays a ≡ 1)
      → next_word arrays n (sweep d left i base bad ++ rest) ≡ next_word arrays (n + 10 * left) rest
  sweep_words arrays zero i base bad n rest shape = ap (λ (m : ℕ). next_word arrays m rest) (omega arith)
  sweep_words arrays (suc left) i base bad n rest shape =
      let ce = shape i (omega arith) (omega arith) in
      sweep_words arrays left (i + 1) (base + 10) (base + 9) (n + 1 + 1 + 1 + 1 + 1 + cells_of arrays i + 1 + 1 + 1 + 1) rest (λ a p q. shape a (omega arith) (omega arith))
      ∙ ap (λ (m : ℕ). next_word arrays m rest) (omega arith)

  pub sweep_reaches : (left i base bad : ℕ) (rest : List Move) → reaches (sweep d left i base bad ++ rest) ≡ left + reaches rest
  sweep_reaches zero i base bad rest = omega arith
  sweep_reaches (suc left) i base bad rest = let more = sweep_reaches left (i + 1) (base + 10) (base + 9) rest in omega arith

  pub sweep_ops : (left i base bad n : ℕ) (rest : List Move) → n ≤ 5 → ((m : ℕ) → m ≤ 5 → longest m rest ≤ 48) → longest n (sweep d left i base bad ++ rest) ≤ 48
  sweep_ops zero i base bad n rest h then_ = then_ n h
  sweep_ops (suc left) i base bad n rest h then_ = let more = sweep_ops left (i + 1) (base + 10) (base + 9) (0 + 1 + 1 + 1) rest (omega arith) then_ in omega arith
