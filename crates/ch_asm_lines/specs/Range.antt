-- The ranges of the numbers of a line, which are those of their types.
use Rattle.std.specs.Prelude.{ℕ, ◌<◌, ◌^◌, FitsSigned}
use Rattle.std.specs.Int.{w64}
use Rattle.std.specs.List.{AllByRecursion}
use Rattle.ch_ir.specs.declared.program.Operand.{Operand}
use Rattle.ch_ir.specs.declared.program.Operand.TheVariants.{Word, Const}
use Rattle.ch_ir.specs.declared.program.Op.{Op}
use Rattle.ch_ir.specs.declared.program.Op.TheVariants.{Set, Two, Bit, Pick, Hash}
use Rattle.ch_ir.specs.declared.program.Test.{Test}
use Rattle.ch_ir.specs.declared.program.Test.TheVariants.{Always, KeyEq, KeyEqOrFree, Less}
use Rattle.ch_ir.specs.declared.program.Update.{Update}
use Rattle.ch_ir.specs.declared.program.Update.TheVariants as update
use Rattle.ch_ir.specs.declared.program.Access.{Access}
use Rattle.ch_ir.specs.declared.program.Array.{Array}
use Rattle.ch_asm_lines.specs.declared.line.Line.{Line}
use Rattle.ch_asm_lines.specs.declared.line.Line.TheVariants as line

-- a number of 32 bits
abbrev pub IsWord : ℕ → Type 0
IsWord w = w < 2 ^ 32

abbrev pub IsOperand : Operand → Type 0
IsOperand (Word w) = IsWord w
IsOperand (Const c) = FitsSigned w64 c

abbrev pub IsTest : Test → Type 0
IsTest Always = Unit {0}
IsTest (KeyEq n) = IsWord n
IsTest (KeyEqOrFree n) = IsWord n
IsTest (Less c) = IsWord c

abbrev pub IsUpdate : Update → Type 0
IsUpdate update.Keep = Unit {0}
IsUpdate (update.Put a) = IsOperand a
IsUpdate (update.AddSat a) = IsOperand a
IsUpdate (update.Min a) = IsOperand a
IsUpdate (update.Max a) = IsOperand a
IsUpdate (update.Or a) = IsOperand a

abbrev pub IsOp : Op → Type 0
IsOp (Set to a) = IsWord to × IsOperand a
IsOp (Two to b x y) = IsWord to × IsOperand x × IsOperand y
IsOp (Bit to a) = IsWord to × IsOperand a
IsOp (Pick to a x y) = IsWord to × IsOperand a × IsOperand x × IsOperand y
IsOp (Hash to seed n words) = IsWord to × (seed < 2 ^ 64) × IsWord n × AllByRecursion IsWord words

pub record IsAccess (x : Access) : Type 0 where
  pub array : IsWord x.array
  pub index : IsOperand x.index
  pub guard : IsOperand x.guard
  pub test : IsTest x.test
  pub key : AllByRecursion IsOperand x.key
  pub yes : AllByRecursion IsUpdate x.yes
  pub no : AllByRecursion IsUpdate x.no
  pub old : IsWord x.old
  pub hit : IsWord x.hit

pub record IsArray (a : Array) : Type 0 where
  pub entries : IsWord a.entries
  pub cells : IsWord a.cells

abbrev pub IsLine : Line → Type 0
IsLine line.Header = Unit {0}
IsLine (line.Width w) = IsWord w
IsLine (line.Array a) = IsArray a
IsLine line.Stage = Unit {0}
IsLine (line.Op op) = IsOp op
IsLine (line.Access x) = IsAccess x
IsLine (line.Verdict w) = IsWord w
IsLine line.End = Unit {0}
