-- The queries of a command, as code reads them.
use Rattle.std.specs.Prelude.{◌≡◌, ◌≤◌, ℕ, List, [], ◌∷◌, length, None, Result, Ok, Err}
use Rattle.ch_command.specs.Command.{refused}
use Rattle.ch_command.specs.declared.outcome.Ending.TheVariants.{Input}
use Rattle.ch_pred.specs.declared.bound.Bound.{Bound}
use Rattle.ch_tables.specs.TableValue.{TableValue}
use Rattle.cheetah_words.specs.Words.{Request}
use Rattle.cheetah_inputs.specs.Question as question
use Rattle.cheetah_inputs.specs.Question.{IsQuestion}
use Rattle.cheetah_inputs.specs.Shared.{AreShared}
use Rattle.cheetah_inputs.specs.declared.inputs.Shared.{Shared}
use Rattle.cheetah_inputs.specs.declared.refusal.Refusal.{Refusal}
use Rattle.cheetah_inputs.specs.declared.refusal.Refusal.TheVariants as refusal
use Rattle.cheetah_pack_meaning.specs.Queries.{AfterQueries, OfQueries, OfQuery}

-- this is what the files of some request without a schedule give, which has no more table words than a command may
pub record IsRead (shared : Shared) : Type 0 where
  pub request : Request
  pub contents : List (List ℕ)
  pub few : length request.tables ≤ 64
  pub unscheduled : request.schedule ≡ None
  pub are : AreShared request contents shared
  pub few_tables : length shared.tables ≤ 64

-- each text is this query's
abbrev pub AreQuestions : List (List ℕ) → List TableValue → List Bound → Type 0
AreQuestions [] tables [] = Unit {0}
AreQuestions [] tables (b ∷ bounds) = ⊥
AreQuestions (text ∷ texts) tables [] = ⊥
AreQuestions (text ∷ texts) tables (b ∷ bounds) = IsQuestion text tables b × AreQuestions texts tables bounds

-- a query, or the line that refuses it, with its number
abbrev pub ReadsNumbered : ℕ → List ℕ → List TableValue → Result Bound Refusal → Type 0
ReadsNumbered number text tables (Ok bound) = IsQuestion text tables bound
ReadsNumbered number text tables (Err (refusal.Line line)) = OfQuery number text tables question.never (refused Input line)
ReadsNumbered number text tables (Err refusal.Memory) = Unit {0}

-- nothing comes behind all queries: only refusals are left
abbrev pub never : AfterQueries
never qs outcome = ⊥

-- all of them, or the line that refuses the first that is none
abbrev pub ReadsQuestions : List (List ℕ) → List TableValue → Result (List Bound) Refusal → Type 0
ReadsQuestions texts tables (Ok bounds) = AreQuestions texts tables bounds
ReadsQuestions texts tables (Err (refusal.Line line)) = OfQueries 0 texts tables never (refused Input line)
ReadsQuestions texts tables (Err refusal.Memory) = Unit {0}
