-- Builders in the midst of a loop that computes ops.
use Rattle.std.proofs.Common.{◌≡◌, ◌<◌, ℕ, suc, ◌+◌, ◌-◌, List, [], ◌∷◌, ◌++◌, sym, ◌∙◌, ap, ap₂, arith}
use Rattle.ch_ir.specs.declared.program.Operand.TheVariants.{Word}
use Rattle.ch_ir.specs.declared.program.Binary.TheVariants as binary
use Rattle.ch_ir.specs.declared.program.Op.{Op}
use Rattle.ch_ir.specs.declared.program.Op.TheVariants.{Two}
use Rattle.ch_ir.specs.declared.program.Update.TheVariants as update
use Rattle.op_moves.specs.Built.{HasMade, stages_after}
use Rattle.op_moves.specs.Moves.{Move, Compute}
use Rattle.op_moves.specs.declared.builder.Builder.{Builder}
use Rattle.op_skyline.specs.Emitted.{compare_ops, computes, puts_from}

-- of all ops some are still to be computed
pub record IsComputing (todo all : List Op) (start now : Builder) : Type 0 where
  pub made : (rest : List Move) → stages_after now (computes todo ++ rest) ≡ stages_after start (computes all ++ rest)

pub computing_next : (op : Op) (todo later all : List Op) (start a b : Builder) → todo ≡ op ∷ later → IsComputing todo all start a → HasMade (Compute op ∷ []) a b → IsComputing later all start b
computing_next op todo later all start a b e w h =
    record { made = λ rest. h (computes later ++ rest) ∙ (ap (λ (ops : List Op). stages_after a (computes ops ++ rest)) (sym e) ∙ w.made rest) }

-- What is left of a list

more : (a b : ℕ) → a + b + 1 ≡ a + (b + 1)
more a b = omega arith

pub compare_next : (n x old prev done : ℕ) → done < n
    → compare_ops (n - done) (x + done) (old + done) prev
    ≡ Two (prev + 1) binary.Le (Word (x + done)) (Word (old + done)) ∷ Two (prev + 2) binary.And (Word prev) (Word (prev + 1)) ∷ compare_ops (n - (done + 1)) (x + (done + 1)) (old + (done + 1)) (prev + 2)
compare_next n x old prev done h =
    let left : n - done ≡ suc (n - (done + 1)) = omega arith in
    ap (λ (k : ℕ). compare_ops k (x + done) (old + done) prev) left
    ∙ ap₂ (λ (t y : ℕ). Two (prev + 1) binary.Le (Word (x + done)) (Word (old + done)) ∷ Two (prev + 2) binary.And (Word prev) (Word (prev + 1)) ∷ compare_ops (n - (done + 1)) t y (prev + 2)) (more x done) (more old done)

-- so many words put, and the others still to be
pub puts_next : (n from done : ℕ) → done < n → puts_from (n - done) (from + done) ≡ update.Put (Word (from + done)) ∷ puts_from (n - (done + 1)) (from + (done + 1))
puts_next n from done h =
    let left : n - done ≡ suc (n - (done + 1)) = omega arith in
    ap (λ (k : ℕ). puts_from k (from + done)) left ∙ ap (λ (y : ℕ). update.Put (Word (from + done)) ∷ puts_from (n - (done + 1)) y) (more from done)
