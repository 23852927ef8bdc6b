-- How a line of a trace is spelled: its fields, with one space between them.
use Rattle.std.specs.Prelude.{ℕ, ◌+◌, ◌-◌, ◌/◌, ◌%◌, nat_lt, if◌then◌else◌, List, [], ◌∷◌, ◌++◌, flat_map, Option, Some, None, codes}
use Rattle.std.specs.Fmt.{decimal}
use Rattle.std.specs.List.{join_with_byte}
use Rattle.ch_protocol.specs.declared.fate.NoteFate.{NoteFate}
use Rattle.ch_protocol.specs.declared.fate.NoteFate.TheVariants.{Nothing, Sent, Dropped, Pruned, Forwarded, Passed, New, Old, Taken, Ignored, Lost, Injected, Restarted}
use Rattle.ch_schedule.specs.declared.step.How.{How}
use Rattle.ch_schedule.specs.declared.step.How.TheVariants.{Take, Keep, Lose}
use Rattle.ch_schedule.specs.declared.step.Link.{Link}
use Rattle.ch_schedule.specs.declared.step.Link.TheVariants as link
use Rattle.ch_schedule.specs.declared.step.Step.{Step}
use Rattle.ch_schedule.specs.declared.step.Step.TheVariants as step
use Rattle.ch_trace_lines.specs.declared.line.Ending.{Ending}
use Rattle.ch_trace_lines.specs.declared.line.Ending.TheVariants.{Done, Open}
use Rattle.ch_trace_lines.specs.declared.line.Line.{Line}
use Rattle.ch_trace_lines.specs.declared.line.Line.TheVariants.{Event, End}

-- a hexadecimal digit in lower case
abbrev pub digit_text : ℕ → ℕ
digit_text d = if nat_lt d 10 then 48 + d else 97 + (d - 10)

abbrev pub byte_text : ℕ → List ℕ
byte_text b = digit_text (b / 16) ∷ digit_text (b % 16) ∷ []

-- two digits for each byte
abbrev pub hex_text : List ℕ → List ℕ
hex_text bytes = flat_map byte_text bytes

-- the bytes of a packet, or `-` for none
abbrev pub packet_text : Option (List ℕ) → List ℕ
packet_text None = codes "-"
packet_text (Some bytes) = hex_text bytes

-- the bytes of an inject, `-` for no bytes
abbrev pub given_text : List ℕ → List ℕ
given_text [] = codes "-"
given_text (b ∷ bs) = hex_text (b ∷ bs)

abbrev pub link_text : Link → List ℕ
link_text link.Up = codes "up"
link_text link.Down = codes "down"
link_text link.Back = codes "back"

abbrev pub how_text : How → List ℕ
how_text Take = codes "take"
how_text Keep = codes "keep"
how_text Lose = codes "lose"

-- a line shows neither that something was sent nor that it was injected or the switch restarted: its first word tells it
abbrev pub fate_text : NoteFate → List ℕ
fate_text Nothing = codes "-"
fate_text Sent = codes "sent"
fate_text Dropped = codes "dropped"
fate_text Pruned = codes "pruned"
fate_text Forwarded = codes "forwarded"
fate_text Passed = codes "passed"
fate_text New = codes "new"
fate_text Old = codes "old"
fate_text Taken = codes "taken"
fate_text Ignored = codes "ignored"
fate_text Lost = codes "lost"
fate_text Injected = codes "injected"
fate_text Restarted = codes "restarted"

abbrev pub ending_text : Ending → List ℕ
ending_text Done = codes "done"
ending_text Open = codes "open"

abbrev pub send_fields : ℕ → Option (List ℕ) → List (List ℕ)
send_fields worker packet = codes "send" ∷ decimal worker ∷ packet_text packet ∷ []

abbrev pub resend_fields : ℕ → ℕ → Option (List ℕ) → List (List ℕ)
resend_fields worker place packet = codes "resend" ∷ decimal worker ∷ decimal place ∷ packet_text packet ∷ []

abbrev pub delivery_fields : Link → ℕ → How → Option (List ℕ) → NoteFate → List (List ℕ)
delivery_fields l at how packet fate = link_text l ∷ decimal at ∷ how_text how ∷ packet_text packet ∷ fate_text fate ∷ []

abbrev pub inject_fields : Link → List ℕ → List (List ℕ)
inject_fields l bytes = codes "inject" ∷ link_text l ∷ given_text bytes ∷ []

-- a step with the bytes of its packet and its fate
abbrev pub event_fields : Step → Option (List ℕ) → NoteFate → List (List ℕ)
event_fields (step.Send worker) packet fate = send_fields worker packet
event_fields (step.Resend worker place) packet fate = resend_fields worker place packet
event_fields (step.Up at how) packet fate = delivery_fields link.Up at how packet fate
event_fields (step.Down at how) packet fate = delivery_fields link.Down at how packet fate
event_fields (step.Back at how) packet fate = delivery_fields link.Back at how packet fate
event_fields (step.Inject l bytes) packet fate = inject_fields l bytes
event_fields step.Restart packet fate = codes "restart" ∷ []

abbrev pub line_fields : Line → List (List ℕ)
line_fields (Event noted) = event_fields noted.step noted.bytes noted.fate
line_fields (End ending) = codes "end" ∷ ending_text ending ∷ []

-- a line, without its line feed
abbrev pub line_text : Line → List ℕ
line_text l = join_with_byte 32 (line_fields l)

-- a line with its line feed
abbrev pub ended : List ℕ → List ℕ
ended text = text ++ 10 ∷ []

abbrev pub lines_text : List Line → List ℕ
lines_text lines = flat_map (λ l. ended (line_text l)) lines
