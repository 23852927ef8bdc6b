-- Constants, moduli and cells are in the ranges of their types, and registers have the shapes of their arrays.
use Rattle.std.specs.Prelude.{◌≡◌, ◌<◌, ℕ, ◌^◌, List, [], ◌∷◌, ℤ, length, get_or}
use Rattle.std.proofs.Common.{FitsSigned, w64}
use Rattle.ch_ir.specs.declared.program.Operand.{Operand}
use Rattle.ch_ir.specs.declared.program.Operand.TheVariants.{Word, Const}
use Rattle.ch_ir.specs.declared.program.Op.{Op}
use Rattle.ch_ir.specs.declared.program.Op.TheVariants.{Set, Two, Bit, Pick, Hash}
use Rattle.ch_ir.specs.declared.program.Access.{Access}
use Rattle.ch_ir.specs.declared.program.Array.{Array}
use Rattle.ch_ir.specs.declared.program.Stage.{Stage}
use Rattle.ch_ir.specs.Machine.{Registers, cells_of}
use Rattle.ch_ir.specs.Rules.{operands_of, access_operands, entries_of}

abbrev pub ConstFits : Operand → Type 0
ConstFits (Word w) = Unit {0}
ConstFits (Const c) = FitsSigned w64 c

abbrev pub AllConstFit : List Operand → Type 0
AllConstFit [] = Unit {0}
AllConstFit (a ∷ rest) = ConstFits a × AllConstFit rest

abbrev pub ModulusFits : Op → Type 0
ModulusFits (Hash to seed modulus words) = modulus < 2 ^ 32
ModulusFits (Set to a) = Unit {0}
ModulusFits (Two to kind a b) = Unit {0}
ModulusFits (Bit to a) = Unit {0}
ModulusFits (Pick to a b c) = Unit {0}

pub record OpFits (op : Op) : Type 0 where
  pub consts : AllConstFit (operands_of op)
  pub modulus : ModulusFits op

abbrev pub AllOpsFit : List Op → Type 0
AllOpsFit [] = Unit {0}
AllOpsFit (op ∷ ops) = OpFits op × AllOpsFit ops

abbrev pub AllAccessesFit : List Access → Type 0
AllAccessesFit [] = Unit {0}
AllAccessesFit (x ∷ xs) = AllConstFit (access_operands x) × AllAccessesFit xs

abbrev pub StageFits : Stage → Type 0
StageFits s = AllOpsFit s.ops × AllAccessesFit s.accesses

abbrev pub AllStagesFit : List Stage → Type 0
AllStagesFit [] = Unit {0}
AllStagesFit (t ∷ ts) = StageFits t × AllStagesFit ts

abbrev pub AllFits : List ℤ → Type 0
AllFits [] = Unit {0}
AllFits (x ∷ xs) = FitsSigned w64 x × AllFits xs

-- each array has its entries, and each entry its cells
pub record RegistersFit (arrays : List Array) (registers : Registers) : Type 0 where
  pub count : length registers ≡ length arrays
  pub many : (a : ℕ) → length (get_or registers a []) ≡ entries_of arrays a
  pub wide : (a e : ℕ) → e < entries_of arrays a → length (get_or (get_or registers a []) e []) ≡ cells_of arrays a
  pub fits : (a e : ℕ) → e < entries_of arrays a → AllFits (get_or (get_or registers a []) e [])
