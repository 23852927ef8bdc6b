-- The text of a program.
use Rattle.std.specs.Prelude.{ℕ, List, [], ◌∷◌, ◌++◌, map}
use Rattle.std.specs.List.{flat_map, AllByRecursion}
use Rattle.ch_ir.specs.declared.program.Stage.{Stage}
use Rattle.ch_ir.specs.declared.program.Program.{Program}
use Rattle.ch_asm_lines.specs.Spelling.{line_text, ended}
use Rattle.ch_asm_lines.specs.Range.{IsWord, IsArray, IsOp, IsAccess}
use Rattle.ch_asm_lines.specs.declared.line.Line.{Line}
use Rattle.ch_asm_lines.specs.declared.line.Line.TheVariants as line

-- a stage, its ops, and then its accesses
abbrev pub stage_lines : Stage → List Line
stage_lines s = line.Stage ∷ (map line.Op s.ops ++ map line.Access s.accesses)

abbrev pub lines_of : Program → List Line
lines_of p = line.Header ∷ line.Width p.width ∷ (map line.Array p.arrays ++ (flat_map stage_lines p.stages ++ line.Verdict p.verdict ∷ line.End ∷ []))

-- the lines of a program's text, without their line feeds
unfoldable pub program_lines : Program → List (List ℕ)
program_lines p = map line_text (lines_of p)

-- lines with their line feeds
abbrev pub lines_text : List (List ℕ) → List ℕ
lines_text lines = flat_map ended lines

abbrev pub spelled : List Line → List ℕ
spelled lines = lines_text (map line_text lines)

unfoldable pub program_text : Program → List ℕ
program_text p = lines_text (program_lines p)

pub record IsStage (s : Stage) : Type 0 where
  pub ops : AllByRecursion IsOp s.ops
  pub accesses : AllByRecursion IsAccess s.accesses

-- the numbers are in the ranges of their types
pub record IsProgram (p : Program) : Type 0 where
  pub width : IsWord p.width
  pub arrays : AllByRecursion IsArray p.arrays
  pub stages : AllByRecursion IsStage p.stages
  pub verdict : IsWord p.verdict
