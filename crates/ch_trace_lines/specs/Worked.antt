-- The trace of a drain of one worker without rows, as it was written down by hand.
use Rattle.std.specs.Prelude.{ℕ, List, [], ◌∷◌, Some}
use Rattle.ch_protocol.specs.declared.fate.NoteFate.TheVariants.{Sent, Forwarded, New, Taken}
use Rattle.ch_schedule.specs.declared.step.How.TheVariants.{Take}
use Rattle.ch_schedule.specs.declared.step.Step.TheVariants as step
use Rattle.ch_trace_lines.specs.Reading.{noted}
use Rattle.ch_trace_lines.specs.declared.line.Ending.TheVariants.{Done}
use Rattle.ch_trace_lines.specs.declared.line.Line.{Line}
use Rattle.ch_trace_lines.specs.declared.line.Line.TheVariants as line

-- its Fin, and the master's acknowledgement
abbrev pub fin : List ℕ
fin = 199 ∷ 2 ∷ 2 ∷ 1 ∷ 0 ∷ 0 ∷ 0 ∷ 0 ∷ 0 ∷ 0 ∷ 0 ∷ 0 ∷ 0 ∷ 0 ∷ 0 ∷ 0 ∷ 0 ∷ []

abbrev pub acknowledged : List ℕ
acknowledged = 199 ∷ 2 ∷ 3 ∷ 1 ∷ 0 ∷ 0 ∷ 1 ∷ 0 ∷ 0 ∷ 0 ∷ 0 ∷ 0 ∷ 0 ∷ 0 ∷ 0 ∷ 0 ∷ 0 ∷ []

abbrev pub lines : List Line
lines = noted (step.Send 0) (Some fin) Sent
    ∷ noted (step.Up 0 Take) (Some fin) Forwarded
    ∷ noted (step.Down 0 Take) (Some fin) New
    ∷ noted (step.Back 0 Take) (Some acknowledged) Taken
    ∷ line.End Done ∷ []
