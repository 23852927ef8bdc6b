-- What is written of a run.
use Rattle.std.specs.Prelude.{List, [], length, map}
use Rattle.ch_cells.specs.declared.Cell.{Cell}
use Rattle.ch_command.specs.declared.outcome.Ending.TheVariants as ending
use Rattle.ch_command.specs.declared.outcome.Outcome.{Outcome}
use Rattle.ch_print.specs.AnswerText.{text_of}
use Rattle.ch_print.specs.RunTexts.{counts_line, report}
use Rattle.ch_protocol.specs.Machine.{State, passes}
use Rattle.ch_protocol.specs.Outcome as run
use Rattle.ch_protocol.specs.Outcome.Outcome.{Done, Open}
use Rattle.ch_protocol.specs.Received.{rows_arrived}
use Rattle.ch_run.specs.Outcomes.{counts_seen, flow_seen}
use Rattle.ch_run.specs.Runs.{Begun}
use Rattle.ch_survival.specs.Asked.{answer_arrived}
use Rattle.cheetah_inputs.specs.Inputs.{Given}
use Rattle.cheetah_run.specs.Asking.{answer_over}
use Rattle.cheetah_run.specs.Running.{partial_rows, run_outcome}

-- A run that is done writes the answer over the whole tables, and its counts. One that isn't writes no answer: it names the
-- flows that are open, and says how many rows the answer over what was received has
abbrev pub said_of : Given → run.Outcome → Outcome
said_of given (Done counts) = record { ending = ending.Done; out = text_of (answer_over given.query given.tables); err = counts_line (counts_seen counts) }
said_of given (Open flows) = record { ending = ending.Open; out = []; err = report (map flow_seen flows) (partial_rows given) }

-- what the run of the schedule writes, with how it ends
abbrev pub said_by_run : Given → Outcome
said_by_run given = said_of given (run_outcome given)

-- As a run says it where it stands: the answer is over what was received.

abbrev pub arrived_in : Begun → State → List (List Cell)
arrived_in q s = answer_arrived q.texts q.query (rows_arrived q.given.config (passes q.given.config) s.received)

abbrev pub said_of_run : Begun → State → run.Outcome → Outcome
said_of_run q s (Done counts) = record { ending = ending.Done; out = text_of (record { header = q.query.header; rows = arrived_in q s }); err = counts_line (counts_seen counts) }
said_of_run q s (Open flows) = record { ending = ending.Open; out = []; err = report (map flow_seen flows) (length (arrived_in q s)) }

abbrev pub said_in : Begun → State → Outcome
said_in q s = said_of_run q s (run.outcome q.given.config s)
