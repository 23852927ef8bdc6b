-- The query bound to the tables: what its text comes to.
use Rattle.std.specs.Prelude.{◌≡◌, ◌≢◌, ◌≤◌, ℕ, List, [], All, length, map, slice_get, Option, Some, None, option_and_then, Result, Ok, Err}
use Rattle.std.specs.Option.{option_map_or}
use Rattle.ch_bind.specs.Binding.{PlainBound, bound_of, plain_bound}
use Rattle.ch_bind.specs.Checks.{bind_refusal}
use Rattle.ch_bind.specs.Sums.{sum_refusal}
use Rattle.ch_bind.specs.declared.error.BindError.{BindError}
use Rattle.ch_bind.specs.declared.error.SumError.{SumError}
use Rattle.ch_command.specs.Command.{ReadThen, Refuses, Then, refused}
use Rattle.ch_command.specs.declared.outcome.Ending.TheVariants.{Input}
use Rattle.ch_command.specs.declared.outcome.Outcome.{Outcome}
use Rattle.ch_messages.specs.Query.{query_line}
use Rattle.ch_pred.specs.Sound.{IsSound}
use Rattle.ch_pred.specs.declared.bound.Bound.{Bound}
use Rattle.ch_pred.specs.declared.pred.BoundPred.TheVariants.{Truth}
use Rattle.ch_sql.specs.Reading.{IsQueryError}
use Rattle.ch_sql.specs.declared.read.QueryError.{QueryError}
use Rattle.ch_sql.specs.declared.read.QueryError.TheVariants.{Memory}
use Rattle.ch_sql_grammar.specs.Tree.{Select}
use Rattle.ch_sql_limits.specs.Texts.{Spells}
use Rattle.ch_tables.specs.TableValue.{TableValue}
use Rattle.cheetah_inputs.specs.Messages.{bind_line, sum_line}
use Rattle.ch_bind.specs.Shapes.{shape_of}
use Rattle.cheetah_inputs.specs.declared.refusal.Refusal.{Refusal}
use Rattle.cheetah_inputs.specs.declared.refusal.Refusal.TheVariants as refusal

-- What may come behind a bound query.
abbrev pub AfterBound : Type 1
AfterBound = PlainBound → Outcome → Type 0

-- the query but for its filter, of which sums and needs know nothing
abbrev pub unfiltered : PlainBound → Bound
unfiltered q = record { tables = q.tables; carried = q.carried; kinds = q.kinds; header = q.header; printed = q.printed; filter = Truth; shape = q.shape }

abbrev pub or_refused : {X E : Type 0} → Option E → X → Result X E
or_refused None x = Ok x
or_refused (Some error) x = Err error

-- the bound query, or the first of the nine checks that finds something
abbrev pub bound_or_refused : Select → List TableValue → Result PlainBound BindError
bound_or_refused q tables = or_refused (bind_refusal q (map shape_of tables)) (bound_of q (map shape_of tables))

-- the query again, or the first negative cell that it would sum
abbrev pub summed_or_refused : PlainBound → List TableValue → Result PlainBound SumError
summed_or_refused q tables = or_refused (sum_refusal (unfiltered q) tables) q

-- the name of the query's first table
abbrev pub first_name : PlainBound → List TableValue → List ℕ
first_name q tables = option_map_or (λ table. table.name) (option_and_then (slice_get tables) (slice_get q.tables 0)) []

abbrev pub refused_sum : PlainBound → List TableValue → SumError → List ℕ
refused_sum q tables error = sum_line (first_name q tables) error

-- a refusal of this text; want of memory is none
pub record Rejects (text : List ℕ) (error : QueryError) : Type 0 where
  pub known : error ≢ Memory
  pub is : IsQueryError text error

abbrev pub OfBound : List TableValue → AfterBound → PlainBound → Outcome → Type 0
OfBound tables next q outcome = ReadThen (summed_or_refused q tables) (λ error. refused Input (refused_sum q tables error)) next outcome

abbrev pub OfSelect : List TableValue → AfterBound → Select → Outcome → Type 0
OfSelect tables next q outcome = ReadThen (bound_or_refused q tables) (λ error. refused Input (bind_line error)) (OfBound tables next) outcome

-- the text is read as a query, that is bound, its sums are checked, and the rest is over it; or the first of them is refused
abbrev pub OfQuestion : List ℕ → List TableValue → AfterBound → Outcome → Type 0
OfQuestion text tables next outcome = Then (Spells text) (Refuses (Rejects text) (λ error. refused Input (query_line error))) (OfSelect tables next) outcome

-- nothing comes behind a bound query: only refusals are left
abbrev pub never : AfterBound
never q outcome = ⊥

-- As code answers them.

-- the text is this query's, no check finds anything, and this is the bound query
pub record IsQuestion (text : List ℕ) (tables : List TableValue) (bound : Bound) : Type 0 where
  pub query : Select
  pub spelled : Spells text query
  pub passes : bind_refusal query (map shape_of tables) ≡ None
  pub is_bound : plain_bound bound ≡ bound_of query (map shape_of tables)
  pub summed : sum_refusal bound tables ≡ None
  -- so it is sound, and carries at most 16 columns of a table
  pub sound : IsSound bound
  pub few : All (λ columns. length columns ≤ 16) bound.carried

abbrev pub ReadsQuestion : List ℕ → List TableValue → Result Bound Refusal → Type 0
ReadsQuestion text tables (Ok bound) = IsQuestion text tables bound
ReadsQuestion text tables (Err (refusal.Line line)) = OfQuestion text tables never (refused Input line)
ReadsQuestion text tables (Err refusal.Memory) = Unit {0}

pub record IsSelect (q : Select) (tables : List TableValue) (bound : Bound) : Type 0 where
  pub passes : bind_refusal q (map shape_of tables) ≡ None
  pub is_bound : plain_bound bound ≡ bound_of q (map shape_of tables)
  pub summed : sum_refusal bound tables ≡ None
  pub sound : IsSound bound
  pub few : All (λ columns. length columns ≤ 16) bound.carried

abbrev pub ReadsSelect : Select → List TableValue → Result Bound Refusal → Type 0
ReadsSelect q tables (Ok bound) = IsSelect q tables bound
ReadsSelect q tables (Err (refusal.Line line)) = OfSelect tables never q (refused Input line)
ReadsSelect q tables (Err refusal.Memory) = Unit {0}

abbrev pub ReadsSums : List TableValue → Bound → Result Bound Refusal → Type 0
ReadsSums tables bound (Ok summed) = (summed ≡ bound) × (sum_refusal bound tables ≡ None)
ReadsSums tables bound (Err (refusal.Line line)) = OfBound tables never (plain_bound bound) (refused Input line)
ReadsSums tables bound (Err refusal.Memory) = Unit {0}
