-- The trace of a run: a line for each event until the run stops, and how it stands then.
use Rattle.std.specs.Prelude.{◌≡◌, ℕ, nat_lt, true, not, ◌&&◌, if◌then◌else◌, List, [], ◌∷◌, ◌++◌, map, slice_get, Option, Some, None, option_map}
use Rattle.std.specs.List.{list_all}
use Rattle.ch_ends.specs.Packets.{ack_bytes, packet_bytes, sent}
use Rattle.ch_protocol.specs.Packets.{Packet}
use Rattle.ch_protocol.specs.Sender.{open_at}
use Rattle.ch_protocol.specs.Machine.{Config, State, Event, How, workers, can_send, step, run, stopped, start}
use Rattle.ch_protocol.specs.Machine.How.{Take, Keep, Lose}
use Rattle.ch_protocol.specs.Machine.Event.{Send, Resend, Up, Down, Back, Inject, Restart}
use Rattle.ch_protocol.specs.Fates.{event_fate}
use Rattle.ch_protocol.specs.DrainEvents.{drain_events}
use Rattle.ch_schedule.specs.Bad.{is_forged}
use Rattle.ch_schedule.specs.Event.{event_of, events_of}
use Rattle.ch_schedule.specs.declared.step.How.{How as SaidHow}
use Rattle.ch_schedule.specs.declared.step.How.TheVariants as how
use Rattle.ch_schedule.specs.declared.step.Link.TheVariants as link
use Rattle.ch_schedule.specs.declared.step.Step.{Step}
use Rattle.ch_schedule.specs.declared.step.Step.TheVariants as said
use Rattle.ch_schedule.specs.declared.step.Schedule.{Schedule}
use Rattle.ch_trace_lines.specs.Spelling.{lines_text}
use Rattle.ch_trace_lines.specs.declared.line.Ending.{Ending}
use Rattle.ch_trace_lines.specs.declared.line.Ending.TheVariants.{Done, Open}
use Rattle.ch_trace_lines.specs.declared.line.Line.{Line}
use Rattle.ch_trace_lines.specs.declared.line.Line.TheVariants as line
use Rattle.ch_trace_lines.specs.declared.line.Noted.{Noted}

-- a number of a worker, as it goes on the link up now
abbrev pub sent_packet : State → ℕ → ℕ → Packet
sent_packet s w k = sent s.pass w k s.epoch

-- the bytes of the packet that an event puts on the link up, or that stands at its place before it
abbrev pub bytes_of : Config → State → Event → Option (List ℕ)
bytes_of c s (Send w) = if nat_lt w (workers c) && can_send c s w then Some (packet_bytes c (sent_packet s w (s.next w))) else None
bytes_of c s (Resend w place) = if nat_lt w (workers c) then option_map (λ k. packet_bytes c (sent_packet s w k)) (open_at (s.next w) (s.acked w) place) else None
bytes_of c s (Up i h) = option_map (packet_bytes c) (slice_get s.up i)
bytes_of c s (Down i h) = option_map (packet_bytes c) (slice_get s.down i)
bytes_of c s (Back i h) = option_map ack_bytes (slice_get s.back i)
bytes_of c s Inject = None
bytes_of c s Restart = None

abbrev pub noted_at : Config → State → Step → Noted
noted_at c s x = record { step = x; bytes = bytes_of c s (event_of x); fate = event_fate c s (event_of x) }

-- a line for each step until the run stops
abbrev pub lines_from : Config → State → List Step → List Line
lines_from c s [] = []
lines_from c s (x ∷ xs) = if stopped c s then [] else line.Event (noted_at c s x) ∷ lines_from c (step c s (event_of x)) xs

abbrev pub ending_at : Config → State → Ending
ending_at c s = if stopped c s then Done else Open

abbrev pub trace_from : Config → State → List Step → List Line
trace_from c s steps = lines_from c s steps ++ line.End (ending_at c (run c (events_of steps) s)) ∷ []

-- the trace of the run that does these steps
abbrev pub trace_lines : Config → List Step → List Line
trace_lines c steps = trace_from c (start c) steps

abbrev pub trace_text : Config → List Step → List ℕ
trace_text c steps = lines_text (trace_lines c steps)

abbrev pub said_how : How → SaidHow
said_how Take = how.Take
said_how Keep = how.Keep
said_how Lose = how.Lose

-- the step that is spelled for an event; no event of a drain is an inject
abbrev pub step_of : Event → Step
step_of (Send w) = said.Send w
step_of (Resend w place) = said.Resend w place
step_of (Up i h) = said.Up i (said_how h)
step_of (Down i h) = said.Down i (said_how h)
step_of (Back i h) = said.Back i (said_how h)
step_of Inject = said.Inject link.Up []
step_of Restart = said.Restart

abbrev pub drain_steps : Config → State → List Step
drain_steps c s = map step_of (drain_events c s)

-- the steps of a schedule, with those of its drain
abbrev pub steps_done : Config → Schedule → List Step
steps_done c schedule = schedule.steps ++ (if schedule.drain then drain_steps c (run c (events_of schedule.steps) (start c)) else [])

-- the trace of the run of a schedule
abbrev pub trace_of : Config → Schedule → List ℕ
trace_of c schedule = trace_text c (steps_done c schedule)

-- a text that is the trace of its own events, none of which injects a packet
pub record IsTrace (c : Config) (text : List ℕ) : Type 0 where
  pub steps : List Step
  pub fair : list_all (λ x. not (is_forged x)) steps ≡ true
  pub is : text ≡ trace_text c steps
