-- The run of a query over its tables: its workers, its switch and its schedule. It is all said of the query, the profile, the
-- schedule and the tables, and of nothing that runs.
use Rattle.std.specs.Prelude.{ℕ, ◌==◌, false, List, length, ℤ}
use Rattle.ch_asked.specs.Texts.{dictionary_of, texts_asked}
use Rattle.ch_bind.specs.Binding.{PlainBound}
use Rattle.ch_cells.specs.declared.Cell.{Cell}
use Rattle.ch_cover.specs.Rows.{Row}
use Rattle.ch_parts.specs.Scanned.{parts_by}
use Rattle.ch_plan.specs.Policy.{passes_of, policy_of}
use Rattle.ch_pred.specs.Gate.{part_holds}
use Rattle.ch_pred.specs.Holds.{holds_of}
use Rattle.ch_pred.specs.Meaning.{Asked, answer_to}
use Rattle.ch_pred.specs.Values.{words}
use Rattle.ch_protocol.specs.Machine.{Config, State, passes}
use Rattle.ch_protocol.specs.Outcome.{Outcome, after_schedule, outcome}
use Rattle.ch_protocol.specs.Packets.{Tuple}
use Rattle.ch_protocol.specs.Received.{rows_arrived}
use Rattle.ch_schedule.specs.Event.{events_of}
use Rattle.ch_words.specs.Packets.{kinds_read, sent_row}
use Rattle.ch_words.specs.Ranks.{read_by}
use Rattle.ch_words.specs.Rows.{Gate, side_seen}
use Rattle.ch_words.specs.Words.{Reading, read_row}
use Rattle.cheetah_inputs.specs.Inputs.{Given}
use Rattle.cheetah_inputs.specs.Question.{unfiltered}

-- the query's dictionary
abbrev pub texts_of : Given → List (List ℕ)
texts_of given = dictionary_of (texts_asked given.query.filter given.query.tables given.tables)

-- by which words of the query's columns are read
abbrev pub reading_of : List (List ℕ) → PlainBound → Reading
reading_of texts q = read_by texts (kinds_read (unfiltered q) q.shape)

-- a row's gate: whether its side's part of the filter holds of the cells that its words stand for
abbrev pub gate_of : List (List ℕ) → PlainBound → Gate
gate_of texts q side row = part_holds side false (read_row (reading_of texts q) row) q.filter

-- a row as its worker sends it: its bit and the words of its carried cells
abbrev pub tuple_of : List (List ℕ) → PlainBound → ℕ → List Cell → Tuple
tuple_of texts q side row = let sent = sent_row texts (gate_of texts q) (unfiltered q) side row in record { bit = sent.bit; words = sent.words }

-- a worker for each part of the query's tables, the window of the profile, and the policy of the query's kind
abbrev pub config_of : Given → Config
config_of given = record {
  parts = parts_by (tuple_of (texts_of given) given.query) given.query.tables given.tables;
  window = given.profile.window;
  two_passes = passes_of given.query.shape == 2;
  prunes = policy_of (unfiltered given.query) given.profile;
}

-- the state behind the last step of the schedule, and behind its drain
abbrev pub last_state : Given → State
last_state given = after_schedule (config_of given) (events_of given.schedule.steps) given.schedule.drain

-- what the run comes to: its counts where each worker is confirmed in the last pass, and else the flows that are open
abbrev pub run_outcome : Given → Outcome
run_outcome given = outcome (config_of given) (last_state given)

-- the query over rows of words
abbrev pub asked_of_words : List (List ℕ) → PlainBound → Asked ℤ
asked_of_words texts q = record { values = words; holds = (λ row. holds_of (read_row (reading_of texts q) row) q.filter); printed = q.printed; shape = q.shape }

-- the rows that the master has received in the last pass
abbrev pub rows_received : Given → List Row
rows_received given = let c = config_of given in rows_arrived c (passes c) (last_state given).received

-- how many rows the query's answer has over them
abbrev pub partial_rows : Given → ℕ
partial_rows given =
    let q = given.query in
    length (answer_to (asked_of_words (texts_of given) q) (side_seen (unfiltered q) 0 (rows_received given)) (side_seen (unfiltered q) 1 (rows_received given)))
