-- What is said of a trace.
use Rattle.std.specs.Prelude.{ℕ, List, [], ◌∷◌, codes, flat_map, length}
use Rattle.std.specs.Fmt.{decimal}
use Rattle.std.specs.List.{concat}
use Rattle.ch_protocol.specs.Machine.{Config, State, run, start}
use Rattle.ch_protocol.specs.Packets.{Name}
use Rattle.ch_protocol.specs.Received.{names_arrived}
use Rattle.ch_schedule.specs.Event.{events_of}
use Rattle.ch_schedule.specs.declared.step.Step.{Step}
use Rattle.ch_trace_lines.specs.Spelling.{ending_text}
use Rattle.ch_trace_lines.specs.Trace.{ending_at}

-- the state behind some steps
abbrev pub state_after : Config → List Step → State
state_after c steps = run c (events_of steps) (start c)

-- the rows of the current pass that the master received, in the order in which they came
abbrev pub names_of_pass : Config → State → List Name
names_of_pass c s = names_arrived c s.pass s.received

abbrev pub row_line : Name → List ℕ
row_line x = concat (codes "row " ∷ decimal x.worker ∷ codes " " ∷ decimal x.number ∷ codes "\n" ∷ [])

abbrev pub rows_text : List Name → List ℕ
rows_text names = concat (codes " received=" ∷ decimal (length names) ∷ codes "\n" ∷ flat_map row_line names ∷ [])

-- how the run of these steps ends, how many there are, and the rows
abbrev pub accepted_text : Config → List Step → List ℕ
accepted_text c steps = concat (codes "accepted " ∷ ending_text (ending_at c (state_after c steps)) ∷ codes " events=" ∷ decimal (length steps) ∷ rows_text (names_of_pass c (state_after c steps)) ∷ [])

abbrev pub refused_line : ℕ → List ℕ
refused_line line = concat (codes "trace refused: line " ∷ decimal line ∷ codes "\n" ∷ [])
