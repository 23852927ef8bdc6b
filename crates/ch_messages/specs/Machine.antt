-- The lines on profiles and programs.
use Rattle.std.specs.Prelude.{ℕ, List, [], ◌∷◌, codes}
use Rattle.std.specs.List.{concat}
use Rattle.std.specs.Fmt.{decimal, signed_decimal}
use Rattle.ch_ir.specs.declared.read.ProfileError.{ProfileError}
use Rattle.ch_ir.specs.declared.read.ProfileError.TheVariants.{Bad}
use Rattle.ch_ir.specs.declared.read.ProfileWhy.{ProfileWhy}
use Rattle.ch_ir.specs.declared.read.ProfileWhy.TheVariants as why
use Rattle.ch_ir.specs.declared.rules.LimitName.{LimitName}
use Rattle.ch_ir.specs.declared.rules.LimitName.TheVariants as limit
use Rattle.ch_ir.specs.declared.rules.Refused.{Refused}
use Rattle.ch_ir.specs.declared.rules.Refused.TheVariants as refused
use Rattle.ch_ir.specs.declared.rules.Sizes.{Sizes}
use Rattle.ch_command.specs.Lines.{memory_line}

abbrev pub why_text : ProfileWhy → List ℕ
why_text why.NotASetting = codes "not a setting"
why_text why.UnknownName = codes "unknown name"
why_text why.Repeated = codes "repeated"
why_text why.BadNumber = codes "bad number"
why_text why.OutOfRange = codes "out of range"

abbrev pub profile_line : ProfileError → List ℕ
profile_line (Bad line why) = concat (codes "input: profile line " ∷ decimal line ∷ codes ": " ∷ why_text why ∷ codes "\n" ∷ [])

abbrev pub program_line : ℕ → List ℕ
program_line line = concat (codes "input: program line " ∷ decimal line ∷ codes "\n" ∷ [])

abbrev pub limit_text : LimitName → List ℕ
limit_text limit.Width = codes "width"
limit_text limit.Cells = codes "cells"
limit_text limit.Words = codes "words"
limit_text limit.Stages = codes "stages"
limit_text limit.Ops = codes "ops"

-- a program breaks a limit or a rule
abbrev pub refused_line : Refused → List ℕ
refused_line (refused.Limit which need have) = concat (codes "refused: " ∷ limit_text which ∷ codes " need " ∷ decimal need ∷ codes " have " ∷ decimal have ∷ codes "\n" ∷ [])
refused_line (refused.Word stage word) = concat (codes "refused: stage " ∷ decimal stage ∷ codes " word " ∷ decimal word ∷ codes " unassigned\n" ∷ [])
refused_line (refused.AssignedTwice stage word) = concat (codes "refused: stage " ∷ decimal stage ∷ codes " word " ∷ decimal word ∷ codes " assigned twice\n" ∷ [])
refused_line (refused.TwoAccesses stage) = concat (codes "refused: stage " ∷ decimal stage ∷ codes " two accesses\n" ∷ [])
refused_line (refused.Shape stage) = concat (codes "refused: stage " ∷ decimal stage ∷ codes " shape\n" ∷ [])
refused_line (refused.IndexRange stage low high len) = concat (codes "refused: stage " ∷ decimal stage ∷ codes " index " ∷ signed_decimal low ∷ codes " to " ∷ signed_decimal high ∷ codes " of " ∷ decimal len ∷ codes "\n" ∷ [])
refused_line refused.Memory = memory_line

abbrev pub accepted_line : Sizes → List ℕ
accepted_line sizes = concat (codes "accepted width=" ∷ decimal sizes.width ∷ codes " cells=" ∷ decimal sizes.cells ∷ codes " words=" ∷ decimal sizes.words ∷ codes " stages=" ∷ decimal sizes.stages ∷ codes " ops=" ∷ decimal sizes.ops ∷ codes "\n" ∷ [])
