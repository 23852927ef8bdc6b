-- The line that sums up an answer.
use Rattle.std.specs.Prelude.{ℕ, ◌-◌, ◌==◌, List, ◌++◌, length, count_by}
use Rattle.ch_generated.specs.Inputs.{summary_front}
use Rattle.ch_generated.specs.declared.InputKind.{InputKind}

-- the rows of an answer's text, each of which is a line behind the header's
abbrev pub rows_in : List ℕ → ℕ
rows_in text = count_by (λ b. b == 10) text - 1

-- its rows, its bytes, and the counts of its run
abbrev pub summary : InputKind → List ℕ → List ℕ → List ℕ
summary kind text counts = summary_front kind (rows_in text) (length text) ++ counts
