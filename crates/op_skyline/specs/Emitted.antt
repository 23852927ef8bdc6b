-- The program of SKYLINE OF, as moves.
use Rattle.std.specs.Prelude.{ℕ, zero, suc, ◌+◌, ◌*◌, Bool, if◌then◌else◌, List, [], ◌∷◌, ◌++◌, pos, replicate, map, length}
use Rattle.ch_ir.specs.declared.program.Operand.{Operand}
use Rattle.ch_ir.specs.declared.program.Operand.TheVariants.{Word, Const}
use Rattle.ch_ir.specs.declared.program.Binary.TheVariants as binary
use Rattle.ch_ir.specs.declared.program.Op.{Op}
use Rattle.ch_ir.specs.declared.program.Op.TheVariants.{Set, Two, Pick}
use Rattle.ch_ir.specs.declared.program.Test.TheVariants.{Less}
use Rattle.ch_ir.specs.declared.program.Update.{Update}
use Rattle.ch_ir.specs.declared.program.Update.TheVariants as update
use Rattle.ch_ir.specs.declared.program.Access.{Access}
use Rattle.ch_ir.specs.declared.program.Array.{Array}
use Rattle.ch_ir.specs.declared.program.Program.{Program}
use Rattle.ch_prune.specs.Fronts.{front_operand}
use Rattle.op_moves.specs.Moves.{Move, Compute, Reach, program_of}
use Rattle.op_skyline.specs.declared.sizes.Sizes.{Sizes}

-- The words from the width w on, with n dimensions
--   w                  the bit                  w + 1          the oriented values
--   w + 1 + n          sums of the first of them, the last of which is the score
--   w + 1 + 2n         the carried cells: mark, score, values           w + 3 + 3n  the key
-- and then for each point, from the word `base` on
--   base               its old mark, score and values       base + n + 2    hit
--   base + n + 3       whether the row's score is less      ..and in each dimension, with the values so far
--   base + 3n + 4      whether the point dominates the row  base + 3n + 5   whether the next point is open
--   base + 3n + 6      the cells that are carried on        base + 4n + 8   the next key

abbrev pub bit_op : ℕ → Op
bit_op w = Two w binary.Ne front_operand (Const (pos 0))

-- an oriented value, in the word `to`
abbrev pub turned_op : (to place : ℕ) → Bool → Op
turned_op to place max = Two to (if max then binary.Add else binary.Sub) (Const (pos 0)) (Word place)

-- the oriented values, from the word `to` on
abbrev pub turned_ops : ℕ → List ℕ → List Bool → List Op
turned_ops to [] max = []
turned_ops to (p ∷ places) [] = []
turned_ops to (p ∷ places) (m ∷ max) = turned_op to p m ∷ turned_ops (to + 1) places max

-- the sums of `so_far` and the n words from x on, in the words from `to` on
abbrev pub sum_ops : (n to x : ℕ) → Operand → List Op
sum_ops zero to x so_far = []
sum_ops (suc n) to x so_far = Two to binary.Add so_far (Word x) ∷ sum_ops n (to + 1) (x + 1) (Word to)

-- n words are copied
abbrev pub copy_ops : (n to x : ℕ) → List Op
copy_ops zero to x = []
copy_ops (suc n) to x = Set to (Word x) ∷ copy_ops n (to + 1) (x + 1)

abbrev pub first_ops : Sizes → List Op
first_ops s =
    let w = s.width in
    let n = length s.places in
    bit_op w
    ∷ turned_ops (w + 1) s.places s.max
    ++ (sum_ops n (w + 1 + n) (w + 1) (Const (pos 0))
    ++ (Set (w + 1 + 2 * n) (Const (pos 1))
    ∷ Set (w + 2 + 2 * n) (Word (w + 2 * n))
    ∷ copy_ops n (w + 3 + 2 * n) (w + 1)
    ++ (Set (w + 3 + 3 * n) (Word (w + 2 * n)) ∷ [])))

-- the n words from a number on are put
abbrev pub puts_from : (n from : ℕ) → List Update
puts_from zero from = []
puts_from (suc n) from = update.Put (Word from) ∷ puts_from n (from + 1)

-- where the entry is free or its score is below the key, it takes the carried cells
abbrev pub point_access : (n array base gate carry key : ℕ) → Access
point_access n array base gate carry key = record {
  array = array;
  index = Const (pos 0);
  guard = Word gate;
  test = Less 1;
  key = Word key ∷ [];
  yes = puts_from (suc (suc n)) carry;
  no = replicate (suc (suc n)) update.Keep;
  old = base;
  hit = base + n + 2;
}

-- in n dimensions the word from x on is at most that from `old` on, and so it was before; from the word after `prev` on
abbrev pub compare_ops : (n x old prev : ℕ) → List Op
compare_ops zero x old prev = []
compare_ops (suc n) x old prev =
    Two (prev + 1) binary.Le (Word x) (Word old) ∷ Two (prev + 2) binary.And (Word prev) (Word (prev + 1)) ∷ compare_ops n (x + 1) (old + 1) (prev + 2)

-- where it was a hit the old word goes on, and else the carried one
abbrev pub carry_ops : (n to hit old carry : ℕ) → List Op
carry_ops zero to hit old carry = []
carry_ops (suc n) to hit old carry = Pick to (Word hit) (Word old) (Word carry) ∷ carry_ops n (to + 1) hit (old + 1) (carry + 1)

abbrev pub told_ops : (n base gate carry x score : ℕ) → List Op
told_ops n base gate carry x score =
    Two (base + n + 3) binary.Lt (Word score) (Word (base + 1))
    ∷ compare_ops n x (base + 2) (base + n + 3)
    ++ (Two (base + 3 * n + 4) binary.Lt (Word (base + n + 2)) (Word (base + 3 * n + 3))
    ∷ Two (base + 3 * n + 5) binary.Lt (Word (base + 3 * n + 4)) (Word gate)
    ∷ carry_ops (suc (suc n)) (base + 3 * n + 6) (base + n + 2) base carry
    ++ (Pick (base + 4 * n + 8) (Word (base + n + 2)) (Const (pos 9223372036854775807)) (Word score) ∷ []))

abbrev pub computes : List Op → List Move
computes ops = map Compute ops

abbrev pub point_moves : (n array base gate carry key x score : ℕ) → List Move
point_moves n array base gate carry key x score = Reach (point_access n array base gate carry key) ∷ computes (told_ops n base gate carry x score)

-- the moves of so many points, from the array and the word `base` on
abbrev pub points_from : (left n array base gate carry key x score : ℕ) → List Move
points_from zero n array base gate carry key x score = []
points_from (suc left) n array base gate carry key x score =
    point_moves n array base gate carry key x score
    ++ points_from left n (array + 1) (base + 4 * n + 9) (base + 3 * n + 5) (base + 3 * n + 6) (base + 4 * n + 8) x score

-- the gate after so many points
abbrev pub gate_after : (left n base gate : ℕ) → ℕ
gate_after zero n base gate = gate
gate_after (suc left) n base gate = gate_after left n (base + 4 * n + 9) (base + 3 * n + 5)

abbrev pub points_of : Sizes → List Move
points_of s =
    let w = s.width in
    let n = length s.places in
    points_from s.points n 0 (w + 4 + 3 * n) w (w + 1 + 2 * n) (w + 3 + 3 * n) (w + 1) (w + 2 * n)

-- the next word after the points
abbrev pub verdict_of : Sizes → ℕ
verdict_of s = s.width + 4 + 3 * length s.places + (4 * length s.places + 9) * s.points

abbrev pub verdict_op : Sizes → Op
verdict_op s = Two (verdict_of s) binary.Eq (Word (gate_after s.points (length s.places) (s.width + 4 + 3 * length s.places) s.width)) (Const (pos 0))

abbrev pub array_of : Sizes → Array
array_of s = record { entries = 1; cells = suc (suc (length s.places)) }

abbrev pub arrays_of : Sizes → List Array
arrays_of s = replicate s.points (array_of s)

abbrev pub moves_of : Sizes → List Move
moves_of s = computes (first_ops s) ++ (points_of s ++ Compute (verdict_op s) ∷ [])

abbrev pub skyline_program : Sizes → Program
skyline_program s = program_of s.width (arrays_of s) (moves_of s) (verdict_of s)
