-- The program of GROUP BY with MAX or MIN: the gate, the hash row and the value, and a column for each pair of a list.
use Rattle.std.specs.Prelude.{ℕ, zero, suc, ◌+◌, ◌*◌, ◌^◌, if◌then◌else◌, List, [], ◌∷◌, ◌++◌, length, map, pos, replicate}
use Rattle.ch_ir.specs.declared.program.Operand.TheVariants.{Word, Const}
use Rattle.ch_ir.specs.declared.program.Binary.TheVariants as binary
use Rattle.ch_ir.specs.declared.program.Op.{Op}
use Rattle.ch_ir.specs.declared.program.Op.TheVariants.{Set, Two, Hash}
use Rattle.ch_ir.specs.declared.program.Test.TheVariants.{KeyEqOrFree}
use Rattle.ch_ir.specs.declared.program.Update.{Update}
use Rattle.ch_ir.specs.declared.program.Update.TheVariants as update
use Rattle.ch_ir.specs.declared.program.Access.{Access}
use Rattle.ch_ir.specs.declared.program.Array.{Array}
use Rattle.ch_ir.specs.declared.program.Program.{Program}
use Rattle.ch_prune.specs.Fronts.{front_operand}
use Rattle.ch_prune.specs.declared.operator.Need.{Need}
use Rattle.op_moves.specs.Moves.{Move, Compute, Reach, program_of}
use Rattle.op_group.specs.Sizes.{Sizes}

-- From the width w on:
--   w  the gate     w + 1  the hash row     w + 2  2^61 and the oriented value     w + 3  0: no column has pruned yet
-- and for each column, with n key words, from the word `base` on:
--   base          its old mark, key and best     base + n + 2  hit
--   base + n + 3  whether the old best is at least the value
--   base + n + 4  whether the column prunes      base + n + 5  whether one so far does
--   base + n + 6  whether the next column is open
abbrev pub put_words : List ℕ → List Update
put_words words = map (λ w. update.Put (Word w)) words

-- the pair of the row, or the key with the greater of two bests
abbrev pub put_pair : (words : List ℕ) (value : ℕ) → List Update
put_pair words value = update.Put (Const (pos 1)) ∷ put_words words ++ update.Put (Word value) ∷ []

abbrev pub raise_pair : (words : List ℕ) (value : ℕ) → List Update
raise_pair words value = update.Put (Const (pos 1)) ∷ put_words words ++ update.Max (Word value) ∷ []

-- only the last column replaces
abbrev pub other_pair : (left : ℕ) (words : List ℕ) (value : ℕ) → List Update
other_pair zero words value = put_pair words value
other_pair (suc left) words value = replicate (length words + 2) update.Keep

abbrev pub column : (left array base gate row value : ℕ) (words : List ℕ) → Access
column left array base gate row value words = record {
  array = array;
  index = Word row;
  guard = Word gate;
  test = KeyEqOrFree (length words);
  key = map Word words;
  yes = raise_pair words value;
  no = other_pair left words value;
  old = base;
  hit = base + length words + 2;
}

abbrev pub least_op : (n base value : ℕ) → Op
least_op n base value = Two (base + n + 3) binary.Le (Word value) (Word (base + n + 1))

abbrev pub beat_op : (n base : ℕ) → Op
beat_op n base = Two (base + n + 4) binary.And (Word (base + n + 2)) (Word (base + n + 3))

abbrev pub bad_op : (n base bad : ℕ) → Op
bad_op n base bad = Two (base + n + 5) binary.Or (Word bad) (Word (base + n + 4))

abbrev pub open_op : (n base gate : ℕ) → Op
open_op n base gate = Two (base + n + 6) binary.Lt (Word (base + n + 2)) (Word gate)

abbrev pub told : (n base gate value bad : ℕ) → List Move
told n base gate value bad = Compute (least_op n base value) ∷ Compute (beat_op n base) ∷ Compute (bad_op n base bad) ∷ Compute (open_op n base gate) ∷ []

abbrev pub columns : (left array base gate row value bad : ℕ) (words : List ℕ) → List Move
columns zero array base gate row value bad words = []
columns (suc left) array base gate row value bad words =
    Reach (column left array base gate row value words) ∷ told (length words) base gate value bad
    ++ columns left (array + 1) (base + length words + 7) (base + length words + 6) row value (base + length words + 5) words

-- the word that tells whether a column has pruned
abbrev pub bad_after : (n left base bad : ℕ) → ℕ
bad_after n zero base bad = bad
bad_after n (suc left) base bad = bad_after n left (base + n + 7) (base + n + 5)

abbrev pub gate_op : Sizes → Op
gate_op s = Two s.width binary.Ne front_operand (Const (pos 0))

abbrev pub row_op : Sizes → Op
row_op s = Hash (s.width + 1) 0 s.rows s.key

abbrev pub value_op : Sizes → Op
value_op s = Two (s.width + 2) (if s.is_max then binary.Add else binary.Sub) (Const (pos (2 ^ 61))) (Word s.value)

abbrev pub none_op : Sizes → Op
none_op s = Set (s.width + 3) (Const (pos 0))

abbrev pub pairs_of : Sizes → List Move
pairs_of s = columns s.cols 0 (s.width + 4) s.width (s.width + 1) (s.width + 2) (s.width + 3) s.key

abbrev pub bad_word : Sizes → ℕ
bad_word s = bad_after (length s.key) s.cols (s.width + 4) (s.width + 3)

abbrev pub last_of : Sizes → ℕ
last_of s = s.width + 4 + (length s.key + 7) * s.cols

abbrev pub verdict_op : Sizes → Op
verdict_op s = Two (last_of s) binary.Le (Word s.width) (Word (bad_word s))

abbrev pub moves_of : Sizes → List Move
moves_of s = Compute (gate_op s) ∷ Compute (row_op s) ∷ Compute (value_op s) ∷ Compute (none_op s) ∷ (pairs_of s ++ Compute (verdict_op s) ∷ [])

abbrev pub arrays_of : Sizes → List Array
arrays_of s = replicate s.cols (record { entries = s.rows; cells = length s.key + 2 })

abbrev pub group_program : Sizes → Program
group_program s = program_of s.width (arrays_of s) (moves_of s) (last_of s)

abbrev pub group_need : Sizes → Need
group_need s = record {
  width = s.width;
  cells = s.rows * (length s.key + 2);
  words = s.width + 32 + s.cols * (length s.key + 32);
  stages = 2 + s.cols;
}
