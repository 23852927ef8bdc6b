-- How far the lines of a program have come, and how a line leads from one place to the next.
use Rattle.std.specs.Prelude.{ℕ, ◌≡◌, ◌==◌, if◌then◌else◌, List, [], ◌∷◌, ◌++◌, length, Option, Some, None, option_and_then}
use Rattle.std.specs.declared.result.Result.{Result}
use Rattle.std.specs.declared.result.Result.TheVariants.{Ok, Err}
use Rattle.ch_ir.specs.declared.program.Op.{Op}
use Rattle.ch_ir.specs.declared.program.Access.{Access}
use Rattle.ch_ir.specs.declared.program.Array.{Array}
use Rattle.ch_ir.specs.declared.program.Stage.{Stage}
use Rattle.ch_ir.specs.declared.program.Program.{Program}
use Rattle.ch_asm_lines.specs.Reading.{line_of}
use Rattle.ch_asm_lines.specs.declared.line.Line.{Line}
use Rattle.ch_asm_lines.specs.declared.line.Line.TheVariants as line
use Rattle.ch_asm.specs.declared.place.Begun.{Begun}
use Rattle.ch_asm.specs.declared.place.Place.{Place}
use Rattle.ch_asm.specs.declared.place.Place.TheVariants.{Start, Headed, Arrays, InStage, Judged, Ended}
use Rattle.ch_asm.specs.declared.error.AsmError.{AsmError}
use Rattle.ch_asm.specs.declared.error.AsmError.TheVariants as error

-- no op stands behind an access
abbrev pub with_op : Begun → Stage → Op → Option Place
with_op d s op = if length s.accesses == 0 then Some (InStage d (record s { ops = s.ops ++ op ∷ [] })) else None

abbrev pub with_access : Begun → Stage → Access → Option Place
with_access d s x = Some (InStage d (record s { accesses = s.accesses ++ x ∷ [] }))

abbrev pub with_stage : Begun → Stage → Begun
with_stage d s = record d { stages = d.stages ++ s ∷ [] }

abbrev pub empty_stage : Stage
empty_stage = record { ops = []; accesses = [] }

abbrev pub judged : Begun → ℕ → Place
judged d v = Judged (record { width = d.width; arrays = d.arrays; stages = d.stages; verdict = v })

-- behind the width or an array
abbrev pub after_array : ℕ → List Array → Line → Option Place
after_array w arrays (line.Array a) = Some (Arrays w (arrays ++ a ∷ []))
after_array w arrays line.Stage = Some (InStage (record { width = w; arrays = arrays; stages = [] }) empty_stage)
after_array w arrays (line.Verdict v) = Some (judged (record { width = w; arrays = arrays; stages = [] }) v)
after_array w arrays l = None

-- in a stage
abbrev pub after_part : Begun → Stage → Line → Option Place
after_part d s (line.Op op) = with_op d s op
after_part d s (line.Access x) = with_access d s x
after_part d s line.Stage = Some (InStage (with_stage d s) empty_stage)
after_part d s (line.Verdict v) = Some (judged (with_stage d s) v)
after_part d s l = None

abbrev pub after_start : Line → Option Place
after_start line.Header = Some Headed
after_start l = None

abbrev pub after_header : Line → Option Place
after_header (line.Width w) = Some (Arrays w [])
after_header l = None

abbrev pub after_verdict : Program → Line → Option Place
after_verdict p line.End = Some (Ended p)
after_verdict p l = None

-- the place behind a line
abbrev pub step : Place → Line → Option Place
step Start l = after_start l
step Headed l = after_header l
step (Arrays w arrays) l = after_array w arrays l
step (InStage d s) l = after_part d s l
step (Judged p) l = after_verdict p l
step (Ended p) l = None

-- the place behind a text
unfoldable pub step_text : Place → List ℕ → Option Place
step_text place text = option_and_then (step place) (line_of text)

-- a call found the place behind a text, or refused the text at this line, unless memory ran out
abbrev pub Steps : Option Place → ℕ → Result Place AsmError → Type 0
Steps next line (Ok place) = next ≡ Some place
Steps next line (Err (error.Line at)) = (next ≡ None) × (at ≡ line)
Steps next line (Err error.Memory) = Unit {0}
