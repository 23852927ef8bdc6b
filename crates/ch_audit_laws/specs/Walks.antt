-- A text is gone through line by line, along the run of its own events.
use Rattle.std.specs.Prelude.{ℕ, suc, Bool, true, false, not, ◌&&◌, if◌then◌else◌, List, [], ◌∷◌, Option, Some, None, bytes_eq}
use Rattle.ch_protocol.specs.Machine.{Config, State, step, stopped}
use Rattle.ch_schedule.specs.Event.{event_of}
use Rattle.ch_schedule.specs.declared.step.Step.{Step}
use Rattle.ch_trace_lines.specs.Reading.{line_at}
use Rattle.ch_trace_lines.specs.Spelling.{fate_text}
use Rattle.ch_trace_lines.specs.Trace.{noted_at}
use Rattle.ch_trace_lines.specs.declared.line.Ending.{Ending}
use Rattle.ch_trace_lines.specs.declared.line.Ending.TheVariants.{Done, Open}
use Rattle.ch_trace_lines.specs.declared.line.Line.{Line}
use Rattle.ch_trace_lines.specs.declared.line.Line.TheVariants.{Event, End}
use Rattle.ch_trace_lines.specs.declared.line.Noted.{Noted}

pub data Walk : Type 0 where
  -- the text is a trace, of these steps
  Whole : List Step → Walk
  -- this line is refused
  Refused : ℕ → Walk

-- a line more, before what is found behind it
abbrev pub behind : Step → Walk → Walk
behind x (Whole xs) = Whole (x ∷ xs)
behind x (Refused line) = Refused (suc line)

abbrev pub same_bytes : Option (List ℕ) → Option (List ℕ) → Bool
same_bytes None None = true
same_bytes None (Some b) = false
same_bytes (Some a) None = false
same_bytes (Some a) (Some b) = bytes_eq a b

-- the line says of its step what the run makes of it
abbrev pub is_next : Config → State → Noted → Bool
is_next c s n = let m = noted_at c s n.step in not (stopped c s) && (same_bytes n.bytes m.bytes && bytes_eq (fate_text n.fate) (fate_text m.fate))

abbrev pub is_ending : Ending → Bool → Bool
is_ending Done stops = stops
is_ending Open stops = not stops

-- nothing stands behind the line feed of the last line
abbrev pub is_over : List (List ℕ) → Bool
is_over ([] ∷ []) = true
is_over _ = false

abbrev pub after_line : Config → State → Option Line → State
after_line c s None = s
after_line c s (Some (End ending)) = s
after_line c s (Some (Event n)) = step c s (event_of n.step)

-- what a line comes to, by the texts behind it and what is found in them
abbrev pub at_line : Config → State → Option Line → List (List ℕ) → Walk → Walk
at_line c s None texts later = Refused 1
at_line c s (Some (End ending)) texts later = if is_ending ending (stopped c s) then (if is_over texts then Whole [] else Refused 2) else Refused 1
at_line c s (Some (Event n)) texts later = if is_next c s n then behind n.step later else Refused 1

-- from a state of the run on
abbrev pub walk : Config → State → List (List ℕ) → Walk
walk c s [] = Refused 1
walk c s (text ∷ []) = Refused 1
walk c s (text ∷ next ∷ texts) = at_line c s (line_at text) (next ∷ texts) (walk c (after_line c s (line_at text)) (next ∷ texts))
