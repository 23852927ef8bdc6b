-- Texts that are the trace of their own events, and the first line of any other that is wrong. A text is told by what it is
-- cut into at its line feeds.
use Rattle.std.specs.Prelude.{◌≡◌, ◌<◌, ◌≤◌, ◌==◌, ℕ, List, [], ◌∷◌, ◌++◌, flat_map, length, take, Some}
use Rattle.std.specs.List.{slice_split}
use Rattle.ch_protocol.specs.Machine.{Config}
use Rattle.ch_schedule.specs.declared.step.Step.{Step}
use Rattle.ch_trace_lines.specs.Reading.{lines_of}
use Rattle.ch_trace_lines.specs.Trace.{trace_lines}
use Rattle.ch_trace_lines.specs.declared.line.Line.{Line}
use Rattle.ch_trace_lines.specs.declared.line.Line.TheVariants.{Event, End}

-- what stands before, between and behind the line feeds
abbrev pub cut : List ℕ → List (List ℕ)
cut text = slice_split (λ b. b == 10) text

abbrev pub step_in : Line → List Step
step_in (Event noted) = noted.step ∷ []
step_in (End ending) = []

-- the events of lines
abbrev pub steps_in : List Line → List Step
steps_in lines = flat_map step_in lines

-- the text is read as these lines, which are the trace of their own events
pub record IsOwn (c : Config) (texts : List (List ℕ)) (lines : List Line) : Type 0 where
  pub read : lines_of texts ≡ Some lines
  pub own : lines ≡ trace_lines c (steps_in lines)

-- some such text begins with these lines, each with its line feed
pub record Begins (c : Config) (texts : List (List ℕ)) : Type 0 where
  pub next : List ℕ
  pub others : List (List ℕ)
  pub lines : List Line
  pub is : IsOwn c (texts ++ next ∷ others) lines

-- The line, counted from 1, is the first that doesn't go on with a trace. Where each line does that has its line feed, it is
-- the one behind them
pub record IsRefusedAt (c : Config) (texts : List (List ℕ)) (line : ℕ) : Type 0 where
  pub within : line ≤ length texts
  pub before : (count : ℕ) → count < line → Begins c (take count texts)
  pub wrong : line < length texts → Begins c (take line texts) → ⊥
  pub none : (lines : List Line) → IsOwn c texts lines → ⊥
