-- What a query is asked of, and what it means over it.
use Rattle.std.specs.Prelude.{◌≤◌, ℕ, List, length, map}
use Rattle.ch_bind.specs.Binding.{PlainBound}
use Rattle.ch_cells.specs.declared.Cell.{Cell}
use Rattle.ch_cells.specs.declared.outcome.Answer.{Answer}
use Rattle.ch_parts.specs.Scanned.{table_at}
use Rattle.ch_pred.specs.Holds.{holds_of}
use Rattle.ch_pred.specs.Meaning.{Asked, answer_to, table_seen}
use Rattle.ch_pred.specs.Values.{cells}
use Rattle.ch_tables.specs.TableValue.{TableValue}
use Rattle.cheetah_words.specs.Words.{Request}
use Rattle.cheetah_inputs.specs.Inputs.{AreInputs}
use Rattle.cheetah_inputs.specs.Tables.{rows_of}
use Rattle.cheetah_inputs.specs.declared.inputs.Inputs.{Inputs}

-- the query over rows of cells
abbrev pub asked_of : PlainBound → Asked Cell
asked_of q = record { values = cells; holds = (λ row. holds_of row q.filter); printed = q.printed; shape = q.shape }

-- the rows of the query's tables, the first table's first
abbrev pub rows_asked : PlainBound → List TableValue → List (List (List Cell))
rows_asked q tables = map (λ number. rows_of (table_at tables number)) q.tables

-- the answer of the query over its tables: what it means, in the order in which it is printed
abbrev pub answer_over : PlainBound → List TableValue → Answer
answer_over q tables = record { header = q.header; rows = answer_to (asked_of q) (table_seen (rows_asked q tables) 0) (table_seen (rows_asked q tables) 1) }

-- the inputs are what the files of some request give, which has no more table words than a command may
pub record AreAsked (inputs : Inputs) : Type 0 where
  pub request : Request
  pub contents : List (List ℕ)
  pub few : length request.tables ≤ 64
  pub read : AreInputs request contents inputs
