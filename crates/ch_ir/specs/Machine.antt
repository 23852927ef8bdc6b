-- The meaning of a program. It has no value where a word without a value is read or an index is out of range.
use Rattle.std.specs.Prelude.{Option, Some, None, ℕ, zero, suc, ◌+◌, ◌^◌, Bool, true, false, not, if◌then◌else◌, ◌&&◌, ◌||◌, List, [], ◌∷◌, ℤ, pos, negsuc, ◌+ℤ◌, ◌-ℤ◌, int_lt, int_le, nat_lt, nat_eq, length, get_or, set, take, replicate}
use Rattle.std.specs.Option.{option_map, option_and_then}
use Rattle.std.specs.Ordering.{int_eq}
use Rattle.std.specs.Int.{w64, saturate_signed, int_bit_and, int_bit_or, int_max, int_min}
use Rattle.ch_ir.specs.declared.program.Operand.{Operand}
use Rattle.ch_ir.specs.declared.program.Operand.TheVariants.{Word, Const}
use Rattle.ch_ir.specs.declared.program.Binary.{Binary}
use Rattle.ch_ir.specs.declared.program.Binary.TheVariants as binary
use Rattle.ch_ir.specs.declared.program.Op.{Op}
use Rattle.ch_ir.specs.declared.program.Op.TheVariants.{Set, Two, Bit, Pick, Hash}
use Rattle.ch_ir.specs.declared.program.Test.{Test}
use Rattle.ch_ir.specs.declared.program.Test.TheVariants.{Always, KeyEq, KeyEqOrFree, Less}
use Rattle.ch_ir.specs.declared.program.Update.{Update}
use Rattle.ch_ir.specs.declared.program.Update.TheVariants as update
use Rattle.ch_ir.specs.declared.program.Access.{Access}
use Rattle.ch_ir.specs.declared.program.Array.{Array}
use Rattle.ch_ir.specs.declared.program.Stage.{Stage}
use Rattle.ch_ir.specs.declared.program.Program.{Program}
use Rattle.ch_ir.specs.Hash.{hash_of}

-- the words that have a value
abbrev pub Words : Type 0
Words = ℕ → Option ℤ

-- arrays, their entries, and the cells of an entry
abbrev pub Registers : Type 0
Registers = List (List (List ℤ))

abbrev pub put : Words → ℕ → ℤ → Words
put ws to v w = if nat_eq w to then Some v else ws w

abbrev pub read : Words → Operand → Option ℤ
read ws (Word w) = ws w
read ws (Const c) = Some c

-- a value in front of others, where all are there
abbrev pub cons_read : Option ℤ → Option (List ℤ) → Option (List ℤ)
cons_read first rest = option_and_then (λ v. option_map (λ vs. v ∷ vs) rest) first

abbrev pub read_all : Words → List Operand → Option (List ℤ)
read_all ws [] = Some []
read_all ws (a ∷ rest) = cons_read (read ws a) (read_all ws rest)

abbrev pub read_words : Words → List ℕ → Option (List ℤ)
read_words ws [] = Some []
read_words ws (w ∷ rest) = cons_read (ws w) (read_words ws rest)

abbrev pub truth : Bool → ℤ
truth true = pos 1
truth false = pos 0

abbrev pub is_set : ℤ → Bool
is_set v = not (int_eq v (pos 0))

abbrev pub two_of : Binary → ℤ → ℤ → ℤ
two_of binary.Add a b = saturate_signed w64 (a +ℤ b)
two_of binary.Sub a b = saturate_signed w64 (a -ℤ b)
two_of binary.Lt a b = truth (int_lt a b)
two_of binary.Le a b = truth (int_le a b)
two_of binary.Eq a b = truth (int_eq a b)
two_of binary.Ne a b = truth (not (int_eq a b))
two_of binary.And a b = truth (is_set a && is_set b)
two_of binary.Or a b = truth (is_set a || is_set b)
two_of binary.Mask a b = int_bit_and w64 a b

abbrev pub bit_of : ℤ → ℤ
bit_of (pos n) = if nat_lt n 62 then pos (2 ^ n) else pos 0
bit_of (negsuc n) = pos 0

-- the word that an op assigns
abbrev pub op_to : Op → ℕ
op_to (Set to a) = to
op_to (Two to kind a b) = to
op_to (Bit to a) = to
op_to (Pick to a b c) = to
op_to (Hash to seed modulus words) = to

abbrev pub both : (ℤ → ℤ → ℤ) → Option ℤ → Option ℤ → Option ℤ
both f a b = option_and_then (λ x. option_map (f x) b) a

abbrev pub picked : Option ℤ → Option ℤ → Option ℤ → Option ℤ
picked a b c = option_and_then (λ x. both (λ y z. if is_set x then y else z) b c) a

-- the value that an op assigns
abbrev pub op_value : Words → Op → Option ℤ
op_value ws (Set to a) = read ws a
op_value ws (Two to kind a b) = both (two_of kind) (read ws a) (read ws b)
op_value ws (Bit to a) = option_map bit_of (read ws a)
op_value ws (Pick to a b c) = picked (read ws a) (read ws b) (read ws c)
op_value ws (Hash to seed modulus words) = option_map (λ vs. pos (hash_of seed vs modulus)) (read_words ws words)

abbrev pub exec_ops : List Op → Words → Option Words
exec_ops [] ws = Some ws
exec_ops (op ∷ ops) ws = option_and_then (λ v. exec_ops ops (put ws (op_to op) v)) (op_value ws op)

-- values in the words from a number on
abbrev pub put_all : Words → ℕ → List ℤ → Words
put_all ws to [] = ws
put_all ws to (v ∷ vs) = put_all (put ws to v) (to + 1) vs

abbrev pub same_words : List ℤ → List ℤ → Bool
same_words [] [] = true
same_words [] (b ∷ bs) = false
same_words (a ∷ rest) [] = false
same_words (a ∷ rest) (b ∷ bs) = int_eq a b && same_words rest bs

abbrev pub mark_of : List ℤ → ℤ
mark_of [] = pos 0
mark_of (x ∷ xs) = x

abbrev pub after_mark : List ℤ → List ℤ
after_mark [] = []
after_mark (x ∷ xs) = xs

-- whether a test holds of the cells of an entry
abbrev pub holds_at : Test → List ℤ → List ℤ → Bool
holds_at Always key cells = true
holds_at (KeyEq n) key cells = is_set (mark_of cells) && same_words (take n (after_mark cells)) key
holds_at (KeyEqOrFree n) key cells = not (is_set (mark_of cells)) || same_words (take n (after_mark cells)) key
holds_at (Less c) key cells = not (is_set (mark_of cells)) || int_lt (get_or cells c (pos 0)) (mark_of key)

-- what becomes of a cell
abbrev pub updated : Words → Update → ℤ → Option ℤ
updated ws update.Keep x = Some x
updated ws (update.Put a) x = read ws a
updated ws (update.AddSat a) x = option_map (λ v. saturate_signed w64 (x +ℤ v)) (read ws a)
updated ws (update.Min a) x = option_map (int_min x) (read ws a)
updated ws (update.Max a) x = option_map (int_max x) (read ws a)
updated ws (update.Or a) x = option_map (int_bit_or w64 x) (read ws a)

-- one update per cell
abbrev pub update_all : Words → List Update → List ℤ → Option (List ℤ)
update_all ws [] [] = Some []
update_all ws [] (x ∷ xs) = None
update_all ws (u ∷ us) [] = None
update_all ws (u ∷ us) (x ∷ xs) = cons_read (updated ws u x) (update_all ws us xs)

-- an index that is one
abbrev pub index_of : ℤ → ℕ → Option ℕ
index_of (pos n) len = if nat_lt n len then Some n else None
index_of (negsuc n) len = None

pub record State : Type 0 where
  pub words : Words
  pub registers : Registers

-- an access to the entry e: the words and cells after it
abbrev pub at_entry : Access → State → ℕ → Option State
at_entry x s e =
    let cells = get_or (get_or s.registers x.array []) e [] in
    option_and_then (λ key.
    let hit = holds_at x.test key cells in
    option_map (λ new. record {
      words = put (put_all s.words x.old cells) x.hit (truth hit);
      registers = set s.registers x.array (set (get_or s.registers x.array []) e new);
    }) (update_all s.words (if hit then x.yes else x.no) cells))
    (read_all s.words x.key)

-- an access to an array whose entries have so many cells
abbrev pub exec_access : ℕ → Access → State → Option State
exec_access cells x s = option_and_then (λ guard.
    if is_set guard
    then option_and_then (λ i. option_and_then (at_entry x s) (index_of i (length (get_or s.registers x.array [])))) (read s.words x.index)
    else Some (record { words = put (put_all s.words x.old (replicate cells (pos 0))) x.hit (pos 0); registers = s.registers }))
    (read s.words x.guard)

-- the cells of an entry; an array that isn't there has none
abbrev pub cells_of : List Array → ℕ → ℕ
cells_of [] a = 0
cells_of (x ∷ xs) zero = x.cells
cells_of (x ∷ xs) (suc a) = cells_of xs a

abbrev pub exec_accesses : List Array → List Access → State → Option State
exec_accesses arrays [] s = Some s
exec_accesses arrays (x ∷ xs) s = option_and_then (exec_accesses arrays xs) (exec_access (cells_of arrays x.array) x s)

abbrev pub exec_stage : List Array → Stage → State → Option State
exec_stage arrays stage s = option_and_then (λ ws. exec_accesses arrays stage.accesses (record { words = ws; registers = s.registers })) (exec_ops stage.ops s.words)

abbrev pub exec_stages : List Array → List Stage → State → Option State
exec_stages arrays [] s = Some s
exec_stages arrays (stage ∷ stages) s = option_and_then (exec_stages arrays stages) (exec_stage arrays stage s)

-- the words of a row; those that it lacks are 0
abbrev pub given : ℕ → List ℤ → Words
given width row w = if nat_lt w width then Some (get_or row w (pos 0)) else None

pub record Outcome : Type 0 where
  pub prune : Bool
  pub registers : Registers

abbrev pub ends : ℕ → State → Option Outcome
ends verdict s = option_map (λ v. record { prune = is_set v; registers = s.registers }) (s.words verdict)

-- a step: the verdict on a row, and the registers after it
abbrev pub machine : Program → Registers → List ℤ → Option Outcome
machine p registers row = option_and_then (ends p.verdict) (exec_stages p.arrays p.stages (record { words = given p.width row; registers = registers }))

abbrev pub cleared : List Array → Registers
cleared [] = []
cleared (x ∷ xs) = replicate x.entries (replicate x.cells (pos 0)) ∷ cleared xs

-- the verdicts on rows in turn
abbrev pub verdicts : Program → Registers → List (List ℤ) → Option (List Bool)
verdicts p registers [] = Some []
verdicts p registers (row ∷ rows) = option_and_then (λ o. option_map (λ bs. o.prune ∷ bs) (verdicts p o.registers rows)) (machine p registers row)
