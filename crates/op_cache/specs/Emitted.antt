-- The moves of the lists of keys: a column for each place of a list.
use Rattle.std.specs.Prelude.{ℕ, zero, suc, ◌+◌, List, [], ◌∷◌, length, map}
use Rattle.ch_ir.specs.declared.program.Operand.{Operand}
use Rattle.ch_ir.specs.declared.program.Operand.TheVariants.{Word}
use Rattle.ch_ir.specs.declared.program.Binary.TheVariants as binary
use Rattle.ch_ir.specs.declared.program.Test.TheVariants.{KeyEq}
use Rattle.ch_ir.specs.declared.program.Update.{Update}
use Rattle.ch_ir.specs.declared.program.Update.TheVariants as update
use Rattle.ch_ir.specs.declared.program.Op.{Op}
use Rattle.ch_ir.specs.declared.program.Op.TheVariants.{Two}
use Rattle.ch_ir.specs.declared.program.Access.{Access}
use Rattle.op_moves.specs.Moves.{Move, Compute, Reach}

-- n words in a row
abbrev pub words_from : ℕ → ℕ → List Operand
words_from to zero = []
words_from to (suc n) = Word to ∷ words_from (to + 1) n

abbrev pub put_each : List Operand → List Update
put_each carried = map update.Put carried

-- Of a key of n words, from the word `base` on: its old mark and key; base + n + 1: hit; base + n + 2: the gate of the next
-- column. `carried` is the mark and the key that the column takes
abbrev pub column : (array base gate row : ℕ) (words : List ℕ) → List Operand → Access
column array base gate row words carried = record {
  array = array;
  index = Word row;
  guard = Word gate;
  test = KeyEq (length words);
  key = map Word words;
  yes = put_each carried;
  no = put_each carried;
  old = base;
  hit = base + length words + 1;
}

abbrev pub gate_op : (n base gate : ℕ) → Op
gate_op n base gate = Two (base + n + 2) binary.Lt (Word (base + n + 1)) (Word gate)

-- each column takes what the one before it had
abbrev pub columns : (left array base gate row : ℕ) (words : List ℕ) → List Operand → List Move
columns zero array base gate row words carried = []
columns (suc left) array base gate row words carried =
    Reach (column array base gate row words carried) ∷ Compute (gate_op (length words) base gate)
    ∷ columns left (array + 1) (base + length words + 3) (base + length words + 2) row words (words_from base (length words + 1))

-- the gate after the last column
abbrev pub gate_after : (n left base gate : ℕ) → ℕ
gate_after n zero base gate = gate
gate_after n (suc left) base gate = gate_after n left (base + n + 3) (base + n + 2)
