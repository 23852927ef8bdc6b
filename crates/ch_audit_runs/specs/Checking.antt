-- What a check of a trace says.
use Rattle.std.specs.Prelude.{◌≡◌, ℕ, Bool, if◌then◌else◌, List, [], ◌∷◌, codes, Result, Ok, Err}
use Rattle.std.specs.Fmt.{decimal}
use Rattle.std.specs.List.{concat}
use Rattle.ch_audit_laws.specs.Own.{IsOwn, IsRefusedAt, cut, steps_in}
use Rattle.ch_audit_laws.specs.Said.{accepted_text, refused_line, rows_text}
use Rattle.ch_protocol.specs.Machine.{Config}
use Rattle.ch_protocol.specs.Packets.{Name}
use Rattle.ch_trace_lines.specs.Spelling.{ending_text}
use Rattle.ch_trace_lines.specs.declared.line.Ending.TheVariants.{Done, Open}
use Rattle.ch_trace_lines.specs.declared.line.Line.{Line}
use Rattle.ch_audit_runs.specs.declared.checking.Checked.{Checked}
use Rattle.ch_audit_runs.specs.declared.checking.Checked.TheVariants.{Accepted, Refused}

-- how the run ends, how many events there are, and the rows
abbrev pub said_text : Bool → ℕ → List Name → List ℕ
said_text done events names = concat (codes "accepted " ∷ ending_text (if done then Done else Open) ∷ codes " events=" ∷ decimal events ∷ rows_text names ∷ [])

-- the text is the trace of its own events, which is said of it, or this is the line that refuses it
abbrev pub IsChecked : Config → List ℕ → Checked → Type 0
IsChecked c text (Accepted said) = (lines : List Line) × IsOwn c (cut text) lines × (said ≡ accepted_text c (steps_in lines))
IsChecked c text (Refused said) = (line : ℕ) × IsRefusedAt c (cut text) line × (said ≡ refused_line line)

abbrev pub said_in : Checked → Result (List ℕ) (List ℕ)
said_in (Accepted said) = Ok said
said_in (Refused line) = Err line
