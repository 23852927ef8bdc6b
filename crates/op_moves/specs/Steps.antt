-- A program agrees with a policy where its registers are a function of the history, and one row's step is the policy's.
use Rattle.std.proofs.Common.{◌≡◌, ℕ, Bool, List, [], ◌∷◌, refl, sym, ◌∙◌, ap, Some, None, inl, inr}
use Rattle.ch_cover.specs.Rows.{Policy, Row}
use Rattle.ch_ir.specs.declared.program.Program.{Program}
use Rattle.ch_ir.specs.Machine.{Outcome, Registers, cleared, machine}
use Rattle.ch_verdicts.specs.Handed.{says, leaves, registers_by}
use Rattle.ch_verdicts.specs.Agrees.{Agrees, ArePassed, IsTaken}
use Rattle.op_moves.specs.Values.{row_words}

pub record Steps (is_row : Row → Bool) (p : Program) (prunes : Policy) (registers : List (ℕ × Row) → Registers) : Type 0 where
  pub begun : registers [] ≡ cleared p.arrays
  pub step : (before : List (ℕ × Row)) (x : ℕ × Row) → ArePassed is_row before → IsTaken is_row x
      → machine p (registers before) (row_words x) ≡ Some (record { prune = prunes before x; registers = registers (x ∷ before) })

-- the registers after a history
held : (is_row : Row → Bool) (p : Program) (prunes : Policy) (registers : List (ℕ × Row) → Registers) → Steps is_row p prunes registers
    → (before : List (ℕ × Row)) → ArePassed is_row before → registers_by p None (cleared p.arrays) before ≡ registers before
held is_row p prunes registers s [] b = sym s.begun
held is_row p prunes registers s (x ∷ before) b =
    ap (λ (r : Registers). leaves (machine p r (row_words x))) (held is_row p prunes registers s before (λ y i. b y (inr i)))
    ∙ ap leaves (s.step before x (λ y i. b y (inr i)) (b x (inl refl)))

pub steps_agree : (is_row : Row → Bool) (p : Program) (prunes : Policy) (registers : List (ℕ × Row) → Registers) → Steps is_row p prunes registers
    → Agrees is_row p None (cleared p.arrays) prunes
steps_agree is_row p prunes registers s before x b t =
    ap (λ (r : Registers). says (machine p r (row_words x))) (held is_row p prunes registers s before b) ∙ ap says (s.step before x b t)
