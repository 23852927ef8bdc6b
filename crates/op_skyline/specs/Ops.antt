-- Runs of ops, and of moves that are ops.
use Rattle.std.proofs.Common.{◌≡◌, ℕ, Bool, true, false, List, [], ◌∷◌, ◌++◌, ℤ, pos, refl, ap, Some}
use Rattle.std.specs.Prelude.{if◌then◌else◌, ◌&&◌, not}
use Rattle.std.proofs.lemmas.Option.{option_and_then_some}
use Rattle.ch_ir.specs.declared.program.Operand.{Operand}
use Rattle.ch_ir.specs.declared.program.Binary.{Binary}
use Rattle.ch_ir.specs.declared.program.Binary.TheVariants as binary
use Rattle.ch_ir.specs.declared.program.Op.{Op}
use Rattle.ch_ir.specs.declared.program.Op.TheVariants.{Set, Two, Pick}
use Rattle.ch_ir.specs.declared.program.Array.{Array}
use Rattle.ch_ir.specs.Machine.{Words, Registers, put, read, exec_ops, truth, two_of, op_value, op_to}
use Rattle.op_moves.specs.Moves.{Move, moves_made}
use Rattle.op_skyline.specs.Emitted.{computes}

pub ops_then : (xs ys : List Op) (ws ws1 : Words) → exec_ops xs ws ≡ Some ws1 → exec_ops (xs ++ ys) ws ≡ exec_ops ys ws1
ops_then [] ys ws ws1 h = let same : ws ≡ ws1 = cc in ap (exec_ops ys) same
ops_then (x ∷ xs) ys ws ws1 h = option_and_then_some (λ (v : ℤ). exec_ops xs (put ws (op_to x) v)) (op_value ws x) ws1 h (λ v e f. rw e (ops_then xs ys (put ws (op_to x) v) ws1 f))

-- moves that are ops do what the ops do
pub computes_made : (arrays : List Array) (ops : List Op) (moves : List Move) (ws ws1 : Words) (registers : Registers) → exec_ops ops ws ≡ Some ws1
    → moves_made arrays (computes ops ++ moves) (record { words = ws; registers = registers }) ≡ moves_made arrays moves (record { words = ws1; registers = registers })
computes_made arrays [] moves ws ws1 registers h = let same : ws ≡ ws1 = cc in ap (λ (w : Words). moves_made arrays moves (record { words = w; registers = registers })) same
computes_made arrays (op ∷ ops) moves ws ws1 registers h =
    option_and_then_some (λ (v : ℤ). exec_ops ops (put ws (op_to op) v)) (op_value ws op) ws1 h (λ v e f. rw e (computes_made arrays ops moves (put ws (op_to op) v) ws1 registers f))

pub two_runs : (ws : Words) (to : ℕ) (kind : Binary) (a b : Operand) (x y : ℤ) (rest : List Op) → read ws a ≡ Some x → read ws b ≡ Some y
    → exec_ops (Two to kind a b ∷ rest) ws ≡ exec_ops rest (put ws to (two_of kind x y))
two_runs ws to kind a b x y rest ea eb = rw (ea, eb) refl

pub pick_runs : (ws : Words) (to : ℕ) (a b c : Operand) (t : Bool) (y z : ℤ) (rest : List Op) → read ws a ≡ Some (truth t) → read ws b ≡ Some y → read ws c ≡ Some z
    → exec_ops (Pick to a b c ∷ rest) ws ≡ exec_ops rest (put ws to (if t then y else z))
pick_runs ws to a b c true y z rest ea eb ec = rw (ea, eb, ec) refl
pick_runs ws to a b c false y z rest ea eb ec = rw (ea, eb, ec) refl

pub set_runs : (ws : Words) (to : ℕ) (a : Operand) (v : ℤ) (rest : List Op) → read ws a ≡ Some v → exec_ops (Set to a ∷ rest) ws ≡ exec_ops rest (put ws to v)
set_runs ws to a v rest e = rw e refl

pub ne_truth : (b : Bool) → two_of binary.Ne (truth b) (pos 0) ≡ truth b
ne_truth true = refl
ne_truth false = refl

pub eq_truth : (b : Bool) → two_of binary.Eq (truth b) (pos 0) ≡ truth (not b)
eq_truth true = refl
eq_truth false = refl

-- "b and not a"
pub lt_truth : (a b : Bool) → two_of binary.Lt (truth a) (truth b) ≡ truth (not a && b)
lt_truth true true = refl
lt_truth true false = refl
lt_truth false true = refl
lt_truth false false = refl

pub and_truth : (a b : Bool) → two_of binary.And (truth a) (truth b) ≡ truth (a && b)
and_truth true true = refl
and_truth true false = refl
and_truth false true = refl
and_truth false false = refl
