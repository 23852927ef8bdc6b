-- The line at which a text is refused.
use Rattle.std.specs.Prelude.{ℕ, ◌≡◌, ◌⊎◌, ◌+◌, ◌==◌, not, true, min, List, [], ◌∷◌, ◌++◌, length}
use Rattle.std.specs.declared.result.Result.{Result}
use Rattle.std.specs.declared.result.Result.TheVariants.{Ok, Err}
use Rattle.std.specs.List.{list_all}
use Rattle.ch_ir.specs.declared.program.Program.{Program}
use Rattle.ch_asm.specs.Text.{program_lines, program_text, lines_text, IsProgram}
use Rattle.ch_asm.specs.declared.error.AsmError.{AsmError}
use Rattle.ch_asm.specs.declared.error.AsmError.TheVariants.{Line, Memory}

-- these lines begin a program's text
pub record Begin (lines : List (List ℕ)) : Type 0 where
  pub program : Program
  pub is_program : IsProgram program
  pub others : List (List ℕ)
  pub whole : program_lines program ≡ lines ++ others

-- no line feed stands in these bytes
abbrev pub IsInner : List ℕ → Type 0
IsInner bytes = list_all (λ b. not (b == 10)) bytes ≡ true

-- what comes is a line, and with it the lines begin no program's text
pub record IsOtherLine (before : List (List ℕ)) (rest : List ℕ) : Type 0 where
  pub line : List ℕ
  pub more : List ℕ
  pub inner : IsInner line
  pub comes : rest ≡ line ++ 10 ∷ more
  pub begins_none : Begin (before ++ line ∷ []) → ⊥

-- what comes has no line feed, and the text is no program's
pub record IsCut (text rest : List ℕ) : Type 0 where
  pub inner : IsInner rest
  pub is_none : (program : Program) → IsProgram program → text ≡ program_text program → ⊥

-- The lines before this one, counted from 1, begin a program's text. With it they begin none, or it lacks its line feed, or
-- it isn't there and the lines are not yet a program's.
pub record IsBadLine (text : List ℕ) (number : ℕ) : Type 0 where
  pub before : List (List ℕ)
  pub rest : List ℕ
  pub whole : text ≡ lines_text before ++ rest
  pub place : number ≡ length before + 1
  pub begins : Begin before
  pub ends : IsOtherLine before rest ⊎ IsCut text rest

-- A text is refused at its first bad line, whose number is told up to the greatest of 32 bits.
abbrev pub Refuses : List ℕ → AsmError → Type 0
Refuses text (Line line) = (number : ℕ) × IsBadLine text number × (line ≡ min number 4294967295)
Refuses text Memory = Unit {0}

-- this program was read, unless memory ran out
abbrev pub Only : Program → Result Program AsmError → Type 0
Only program (Ok found) = found ≡ program
Only program (Err e) = e ≡ Memory
