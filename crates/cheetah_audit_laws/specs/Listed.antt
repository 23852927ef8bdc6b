-- The rows that are listed of an accepted trace, and what the query means over them.
use Rattle.std.specs.Fmt.{decimal}
use Rattle.std.specs.List.{concat}
use Rattle.std.specs.Prelude.{◌≡◌, ◌<◌, ℕ, ◌==◌, if◌then◌else◌, List, [], ◌∷◌, codes, filter, flat_map, length, map, slice_index_or, Ok}
use Rattle.ch_audit_laws.specs.Said.{rows_text}
use Rattle.ch_bind.specs.Binding.{PlainBound}
use Rattle.ch_cells.specs.declared.Cell.{Cell}
use Rattle.ch_cells.specs.declared.outcome.Answer.{Answer}
use Rattle.ch_command.specs.Call.{Call, Gains}
use Rattle.ch_command.specs.Reading.{read_all}
use Rattle.ch_lists.specs.Members.{Each}
use Rattle.ch_outside.specs.Shelf.{Files}
use Rattle.ch_parts.specs.Scanned.{table_at}
use Rattle.ch_pred.specs.Meaning.{answer_to, table_seen}
use Rattle.ch_protocol.specs.Packets.{Name}
use Rattle.ch_protocol.specs.Sets.{numbers_from}
use Rattle.ch_tables.specs.TableValue.{TableValue}
use Rattle.ch_trace_lines.specs.Spelling.{ending_text}
use Rattle.ch_trace_lines.specs.declared.line.Ending.{Ending}
use Rattle.ch_trace_lines.specs.declared.line.Ending.TheVariants.{Done}
use Rattle.cheetah_audit_meaning.specs.Meaning.{other_contents, without_schedule}
use Rattle.cheetah_inputs.specs.Inputs.{AreInputs, Given, given_of, names_of}
use Rattle.cheetah_inputs.specs.declared.inputs.Inputs.{Inputs}
use Rattle.cheetah_run.specs.Asking.{answer_over, asked_of}
use Rattle.cheetah_audit_laws.specs.Checked.{Asked, request_with}

-- The parts that the workers scan, as rows of cells: table by table in the order of the tables, and in a table in the order of
-- its parts.

-- a part, with the side of the query at which its table stands
pub record Scan : Type 0 where
  pub side : ℕ
  pub rows : List (List Cell)

abbrev pub scan_of : ℕ → List (List Cell) → Scan
scan_of side rows = record { side = side; rows = rows }

-- the parts of a table, if it is that of this side. The tables of the sides are given by their numbers
abbrev pub scans_of_side : List ℕ → List TableValue → ℕ → ℕ → List Scan
scans_of_side asked tables number side = if slice_index_or asked side 0 == number then map (scan_of side) (table_at tables number).parts else []

abbrev pub scans_of_table : List ℕ → List TableValue → ℕ → List Scan
scans_of_table asked tables number = flat_map (scans_of_side asked tables number) (numbers_from 0 (length asked))

abbrev pub scans : List ℕ → List TableValue → List Scan
scans asked tables = flat_map (scans_of_table asked tables) (numbers_from 0 (length tables))

-- The rows that are named by their workers and their numbers.

abbrev pub no_scan : Scan
no_scan = record { side = 0; rows = [] }

abbrev pub scan_named : List Scan → Name → Scan
scan_named all x = slice_index_or all x.worker no_scan

-- there is such a row
abbrev pub IsThere : List Scan → Name → Type 0
IsThere all x = x.number < length (scan_named all x).rows

abbrev pub row_named : List Scan → Name → List Cell
row_named all x = slice_index_or (scan_named all x).rows x.number []

-- those of a side
abbrev pub rows_named : List Scan → List Name → ℕ → List (List Cell)
rows_named all names side = map (row_named all) (filter (λ x. (scan_named all x).side == side) names)

-- side by side, as the rows of a query's tables stand
abbrev pub tables_named : PlainBound → List TableValue → List Name → List (List (List Cell))
tables_named q tables names = map (rows_named (scans q.tables tables) names) (numbers_from 0 (length q.tables))

-- what the query means over these rows alone, in the order in which it is printed
abbrev pub answer_named : PlainBound → List TableValue → List Name → Answer
answer_named q tables names = record { header = q.header; rows = answer_to (asked_of q) (table_seen (tables_named q tables names) 0) (table_seen (tables_named q tables names) 1) }

-- what is said of a trace that ends so, of so many events, with these rows
abbrev pub listing : Ending → ℕ → List Name → List ℕ
listing ending events names = concat (codes "accepted " ∷ ending_text ending ∷ codes " events=" ∷ decimal events ∷ rows_text names ∷ [])

-- The text lists rows of the tables. Where it says that the run is done, the query means over them what it means over all rows
pub record Lists (given : Given) (text : List ℕ) : Type 0 where
  pub ending : Ending
  pub events : ℕ
  pub names : List Name
  pub said : text ≡ listing ending events names
  pub there : Each (IsThere (scans given.query.tables given.tables)) names
  pub whole : ending ≡ Done → answer_named given.query given.tables names ≡ answer_over given.query given.tables

-- the files of a check give inputs, of which the text lists rows
pub record IsListing (asked : Asked) (trace : List ℕ) (files : Files) (text : List ℕ) : Type 0 where
  pub contents : List (List ℕ)
  pub inputs : Inputs
  pub there : read_all files (names_of (request_with asked trace)) ≡ Ok contents
  pub read : AreInputs (without_schedule (request_with asked trace)) (other_contents (request_with asked trace) contents) inputs
  pub lists : Lists (given_of inputs) text

-- out gained such a text
pub record CallLists (asked : Asked) (trace : List ℕ) (files : Files) (call : Call) : Type 0 where
  pub text : List ℕ
  pub out : Gains call.out text
  pub lists : IsListing asked trace files text
