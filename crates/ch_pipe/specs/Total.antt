-- What the pipeline computes: each word has some value, and the static rooms keep its indices in range.
use Rattle.std.specs.Prelude.{ℕ, ◌<◌, List, [], ◌∷◌, ℤ, pos, negsuc, get_or, set, if◌then◌else◌, ◌+◌, ◌+ℤ◌}
use Rattle.std.specs.Int.{w64, saturate_signed, int_min, int_max, int_bit_or}
use Rattle.ch_ir.specs.declared.program.Update.{Update}
use Rattle.ch_ir.specs.declared.program.Update.TheVariants as update
use Rattle.ch_ir.specs.declared.program.Operand.{Operand}
use Rattle.ch_ir.specs.declared.program.Operand.TheVariants.{Word, Const}
use Rattle.ch_ir.specs.declared.program.Op.{Op}
use Rattle.ch_ir.specs.declared.program.Op.TheVariants.{Set, Two, Bit, Pick, Hash}
use Rattle.ch_ir.specs.Machine.{op_to, two_of, bit_of, is_set}
use Rattle.ch_ir.specs.Hash.{hash_of}

abbrev pub value_at : List ℤ → Operand → ℤ
value_at words (Word w) = get_or words w (pos 0)
value_at words (Const c) = c

abbrev pub values_at : List ℤ → List ℕ → List ℤ
values_at words [] = []
values_at words (w ∷ rest) = get_or words w (pos 0) ∷ values_at words rest

abbrev pub values_of : List ℤ → List Operand → List ℤ
values_of words [] = []
values_of words (a ∷ rest) = value_at words a ∷ values_of words rest

abbrev pub nat_of : ℤ → ℕ
nat_of (pos n) = n
nat_of (negsuc n) = 0

abbrev pub total_value : List ℤ → Op → ℤ
total_value words (Set to a) = value_at words a
total_value words (Two to kind a b) = two_of kind (value_at words a) (value_at words b)
total_value words (Bit to a) = bit_of (value_at words a)
total_value words (Pick to a b c) = if is_set (value_at words a) then value_at words b else value_at words c
total_value words (Hash to seed modulus numbers) = pos (hash_of seed (values_at words numbers) modulus)

abbrev pub total_ops : List Op → List ℤ → List ℤ
total_ops [] words = words
total_ops (op ∷ ops) words = total_ops ops (set words (op_to op) (total_value words op))

abbrev pub OperandBelow : ℕ → Operand → Type 0
OperandBelow n (Word w) = w < n
OperandBelow n (Const c) = Unit {0}

abbrev pub NumbersBelow : ℕ → List ℕ → Type 0
NumbersBelow n [] = Unit {0}
NumbersBelow n (w ∷ rest) = (w < n) × NumbersBelow n rest

abbrev pub OpRoom : ℕ → Op → Type 0
OpRoom n (Set to a) = (to < n) × OperandBelow n a
OpRoom n (Two to kind a b) = (to < n) × OperandBelow n a × OperandBelow n b
OpRoom n (Bit to a) = (to < n) × OperandBelow n a
OpRoom n (Pick to a b c) = (to < n) × OperandBelow n a × OperandBelow n b × OperandBelow n c
OpRoom n (Hash to seed modulus numbers) = (to < n) × NumbersBelow n numbers × (0 < modulus)

abbrev pub OpsRoom : ℕ → List Op → Type 0
OpsRoom n [] = Unit {0}
OpsRoom n (op ∷ ops) = OpRoom n op × OpsRoom n ops

abbrev pub UpdateRoom : ℕ → Update → Type 0
UpdateRoom n update.Keep = Unit {0}
UpdateRoom n (update.Put a) = OperandBelow n a
UpdateRoom n (update.AddSat a) = OperandBelow n a
UpdateRoom n (update.Min a) = OperandBelow n a
UpdateRoom n (update.Max a) = OperandBelow n a
UpdateRoom n (update.Or a) = OperandBelow n a

abbrev pub UpdatesRoom : ℕ → List Update → Type 0
UpdatesRoom n [] = Unit {0}
UpdatesRoom n (u ∷ us) = UpdateRoom n u × UpdatesRoom n us

abbrev pub total_update : List ℤ → Update → ℤ → ℤ
total_update words update.Keep x = x
total_update words (update.Put a) x = value_at words a
total_update words (update.AddSat a) x = saturate_signed w64 (x +ℤ value_at words a)
total_update words (update.Min a) x = int_min x (value_at words a)
total_update words (update.Max a) x = int_max x (value_at words a)
total_update words (update.Or a) x = int_bit_or w64 x (value_at words a)

abbrev pub total_updates : List ℤ → List Update → List ℤ → List ℤ
total_updates words [] xs = xs
total_updates words (u ∷ us) [] = []
total_updates words (u ∷ us) (x ∷ xs) = total_update words u x ∷ total_updates words us xs

abbrev pub total_store : ℕ → List ℤ → List ℤ → List ℤ
total_store to [] words = words
total_store to (x ∷ xs) words = total_store (to + 1) xs (set words to x)
