-- A query with its tables and its dictionary, as a run is asked it.
use Rattle.std.specs.Prelude.{◌≡◌, ℕ, true, List}
use Rattle.ch_cells.specs.declared.Cell.{Cell}
use Rattle.ch_lists.specs.Members.{Each}
use Rattle.ch_cover.specs.Rows.{Row}
use Rattle.ch_pred.specs.Sound.{IsSound}
use Rattle.ch_pred.specs.declared.bound.Bound.{Bound}
use Rattle.ch_ranks.specs.Dictionary.{Ascends}
use Rattle.ch_words.specs.Gates.{gate_of}
use Rattle.ch_words.specs.Packets.{TablesFit, all_sent, kinds_read}
use Rattle.ch_words.specs.Ranks.{read_by}
use Rattle.ch_words.specs.Rows.{Gate, answer_over}
use Rattle.ch_words.specs.Words.{Reading, read_answer}
use Rattle.ch_prune.specs.Sent.{is_countable}
use Rattle.ch_survival.specs.InRange.{AreInRange}

-- by which words of its columns are read
abbrev pub asked_reading : List (List ℕ) → Bound → Reading
asked_reading texts b = read_by texts (kinds_read b b.shape)

abbrev pub asked_gate : List (List ℕ) → Bound → Gate
asked_gate texts b = gate_of (asked_reading texts b) b

-- the rows that workers send of the tables
abbrev pub asked_rows : List (List ℕ) → Bound → List (List (List Cell)) → List Row
asked_rows texts b tables = all_sent texts (asked_gate texts b) b tables

-- the answer over rows, read
abbrev pub answer_arrived : List (List ℕ) → Bound → List Row → List (List Cell)
answer_arrived texts b rows = read_answer (asked_reading texts b) b (answer_over (asked_reading texts b) b rows)

-- The query is sound, the texts ascend, the tables are its own with their texts among these, the words are in the cell
-- range, and no summed one is negative
pub record IsAsked (texts : List (List ℕ)) (b : Bound) (tables : List (List (List Cell))) : Type 0 where
  pub sound : IsSound b
  pub ascends : Ascends texts
  pub fits : TablesFit texts b tables
  pub range : AreInRange texts b tables
  pub sums : Each (λ r. is_countable b r b.shape ≡ true) (asked_rows texts b tables)
