-- The line that a text spells.
use Rattle.std.specs.Prelude.{◌≡◌, ℕ, ◌==◌, ◌||◌, nat_lt, is_some, if◌then◌else◌, List, [], ◌∷◌, length, Option, Some, None, option_map, option_and_then, codes, bytes_eq}
use Rattle.std.specs.declared.result.Result.{Result}
use Rattle.std.specs.declared.result.Result.TheVariants.{Ok, Err}
use Rattle.std.specs.List.{slice_split}
use Rattle.ch_packet.specs.Fault.{fault_of}
use Rattle.ch_protocol.specs.declared.fate.NoteFate.{NoteFate}
use Rattle.ch_protocol.specs.declared.fate.NoteFate.TheVariants.{Injected, Restarted}
use Rattle.ch_schedule.specs.Field.{natural_of, bytes_of}
use Rattle.ch_schedule.specs.Line.{link_of, delivery}
use Rattle.ch_schedule.specs.declared.step.How.{How}
use Rattle.ch_schedule.specs.declared.step.How.TheVariants.{Take, Keep, Lose}
use Rattle.ch_schedule.specs.declared.step.Step.{Step}
use Rattle.ch_schedule.specs.declared.step.Step.TheVariants as step
use Rattle.ch_trace_lines.specs.Fates.{fates_for}
use Rattle.ch_trace_lines.specs.Range.{sent_of}
use Rattle.ch_trace_lines.specs.Spelling.{fate_text}
use Rattle.ch_trace_lines.specs.declared.line.Ending.TheVariants.{Done, Open}
use Rattle.ch_trace_lines.specs.declared.line.Line.{Line}
use Rattle.ch_trace_lines.specs.declared.line.Line.TheVariants.{Event, End}
use Rattle.ch_trace_lines.specs.declared.line.LineError.{LineError}
use Rattle.ch_trace_lines.specs.declared.line.LineError.TheVariants.{Bad, Memory}

infixl 10 ◌>>=◌
abbrev pub ◌>>=◌ : {A B : Type 0} → Option A → (A → Option B) → Option B
o >>= f = option_and_then f o

abbrev pub Fails : {Y : Type 0} → Option Y → LineError → Type 0
Fails spelled Bad = spelled ≡ None
Fails spelled Memory = Unit {0}

-- what a call gives is what a text spells, or the text spells nothing, unless memory runs out
abbrev pub Gives : {X : Type 0} → Option X → Result X LineError → Type 0
Gives spelled (Ok x) = spelled ≡ Some x
Gives spelled (Err e) = Fails spelled e

abbrev pub how_of : List ℕ → Option How
how_of word = if bytes_eq word (codes "take") then Some Take else if bytes_eq word (codes "keep") then Some Keep else if bytes_eq word (codes "lose") then Some Lose else None

-- the first of these whose word this is
abbrev pub fate_among : List NoteFate → List ℕ → Option NoteFate
fate_among [] word = None
fate_among (f ∷ fs) word = if bytes_eq (fate_text f) word then Some f else fate_among fs word

-- bytes that are a packet
abbrev pub as_packet : List ℕ → Option (Option (List ℕ))
as_packet bytes = if is_some (fault_of bytes) then None else Some (Some bytes)

abbrev pub packet_of : List ℕ → Option (Option (List ℕ))
packet_of field = if bytes_eq field (codes "-") then Some None else (bytes_of field >>= as_packet)

-- bytes that are none
abbrev pub as_given : List ℕ → Option (List ℕ)
as_given bytes = if is_some (fault_of bytes) then Some bytes else None

abbrev pub given_of : List ℕ → Option (List ℕ)
given_of field =
    if bytes_eq field (codes "-") then Some []
    else if (length field == 0) || nat_lt 512 (length field) then None
    else (bytes_of field >>= as_given)

abbrev pub noted : Step → Option (List ℕ) → NoteFate → Line
noted s packet fate = Event (record { step = s; bytes = packet; fate = fate })

abbrev pub alone_of : List ℕ → Option Line
alone_of name = if bytes_eq name (codes "restart") then Some (noted step.Restart None Restarted) else None

abbrev pub ending_of : List ℕ → List ℕ → Option Line
ending_of name word =
    if bytes_eq name (codes "end")
    then (if bytes_eq word (codes "done") then Some (End Done) else if bytes_eq word (codes "open") then Some (End Open) else None)
    else None

abbrev pub send_of : List ℕ → List ℕ → Option Line
send_of a b = natural_of a >>= λ w. option_map (λ packet. noted (step.Send w) packet (sent_of packet)) (packet_of b)

abbrev pub inject_of : List ℕ → List ℕ → Option Line
inject_of a b = link_of a >>= λ l. option_map (λ bytes. noted (step.Inject l bytes) None Injected) (given_of b)

abbrev pub with_two_of : List ℕ → List ℕ → List ℕ → Option Line
with_two_of name a b = if bytes_eq name (codes "send") then send_of a b else if bytes_eq name (codes "inject") then inject_of a b else None

abbrev pub resend_of : List ℕ → List ℕ → List ℕ → List ℕ → Option Line
resend_of name a b c =
    if bytes_eq name (codes "resend")
    then (natural_of a >>= λ w. natural_of b >>= λ k. option_map (λ packet. noted (step.Resend w k) packet (sent_of packet)) (packet_of c))
    else None

abbrev pub delivery_of : List ℕ → List ℕ → List ℕ → List ℕ → List ℕ → Option Line
delivery_of name a b c d =
    link_of name >>= λ l. natural_of a >>= λ at. how_of b >>= λ how. packet_of c >>= λ packet. option_map (λ fate. noted (delivery l at how) packet fate) (fate_among (fates_for l how (is_some packet)) d)

-- the line of some fields
unfoldable pub line_of : List (List ℕ) → Option Line
line_of [] = None
line_of (name ∷ []) = alone_of name
line_of (name ∷ a ∷ []) = ending_of name a
line_of (name ∷ a ∷ b ∷ []) = with_two_of name a b
line_of (name ∷ a ∷ b ∷ c ∷ []) = resend_of name a b c
line_of (name ∷ a ∷ b ∷ c ∷ d ∷ []) = delivery_of name a b c d
line_of (name ∷ a ∷ b ∷ c ∷ d ∷ e ∷ others) = None

-- the fields of a text, which is cut at each space
abbrev pub fields_in : List ℕ → List (List ℕ)
fields_in text = slice_split (λ b. b == 32) text

abbrev pub line_at : List ℕ → Option Line
line_at text = line_of (fields_in text)

-- the lines of a text, each ended by a line feed
abbrev pub lines_of : List (List ℕ) → Option (List Line)
lines_of [] = None
lines_of ([] ∷ []) = Some []
lines_of ((b ∷ bs) ∷ []) = None
lines_of (text ∷ next ∷ texts) = line_at text >>= λ l. option_map (λ ls. l ∷ ls) (lines_of (next ∷ texts))

abbrev pub lines_in : List ℕ → Option (List Line)
lines_in text = lines_of (slice_split (λ b. b == 10) text)
