-- Moves that break no rule: each assigns the next word, reads only words before it, and reaches the next array in range.
use Rattle.std.proofs.Common.{◌≡◌, ◌≤◌, ℕ, ◌+◌, true, List, [], ◌∷◌, pos}
use Rattle.std.specs.Prelude.{int_le, int_lt}
use Rattle.ch_ir.specs.declared.program.Op.{Op}
use Rattle.ch_ir.specs.declared.program.Access.{Access}
use Rattle.ch_ir.specs.declared.program.Array.{Array}
use Rattle.ch_ir.specs.Machine.{op_to, cells_of}
use Rattle.ch_ir.specs.Rules.{Known, learn, op_interval, interval_of, after_access, operands_of, has_modulus, has_shape, access_operands, entries_of}
use Rattle.ch_ir.specs.Measure.{operands_end}
use Rattle.op_moves.specs.Moves.{Move, Compute, Reach}

pub record OpInOrder (n : ℕ) (op : Op) : Type 0 where
  pub next : op_to op ≡ n
  pub reads : operands_end (operands_of op) ≤ n
  pub modulus : has_modulus op ≡ true

pub record AccessInOrder (arrays : List Array) (n a : ℕ) (ks : Known) (x : Access) : Type 0 where
  pub next_array : x.array ≡ a
  pub shape : has_shape arrays x ≡ true
  pub reads : operands_end (access_operands x) ≤ n
  pub low : int_le (pos 0) ((interval_of ks x.index).low) ≡ true
  pub high : int_lt ((interval_of ks x.index).high) (pos (entries_of arrays x.array)) ≡ true
  pub next : x.old ≡ n
  pub next_hit : x.hit ≡ n + cells_of arrays x.array

-- n the next word, a the next array
abbrev pub InOrder : List Array → ℕ → ℕ → Known → List Move → Type 0
InOrder arrays n a ks [] = Unit {0}
InOrder arrays n a ks (Compute op ∷ moves) = OpInOrder n op × InOrder arrays (n + 1) a (learn ks (op_to op) (op_interval ks op)) moves
InOrder arrays n a ks (Reach x ∷ moves) = AccessInOrder arrays n a ks x × InOrder arrays (n + cells_of arrays x.array + 1) (a + 1) (after_access arrays x ks) moves

-- the next word and the next array after some moves, and what is known there
abbrev pub next_word : List Array → ℕ → List Move → ℕ
next_word arrays n [] = n
next_word arrays n (Compute op ∷ moves) = next_word arrays (n + 1) moves
next_word arrays n (Reach x ∷ moves) = next_word arrays (n + cells_of arrays x.array + 1) moves

abbrev pub next_array : ℕ → List Move → ℕ
next_array a [] = a
next_array a (Compute op ∷ moves) = next_array a moves
next_array a (Reach x ∷ moves) = next_array (a + 1) moves

abbrev pub after_moves : List Array → List Move → Known → Known
after_moves arrays [] ks = ks
after_moves arrays (Compute op ∷ moves) ks = after_moves arrays moves (learn ks (op_to op) (op_interval ks op))
after_moves arrays (Reach x ∷ moves) ks = after_moves arrays moves (after_access arrays x ks)
