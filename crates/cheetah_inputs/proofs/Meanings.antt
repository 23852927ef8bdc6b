-- What the contents of a request's files come to: it is there, and is one thing, where what comes behind the inputs is.
use Rattle.std.proofs.Common.{◌≡◌, ◌≢◌, ◌∙◌, ap, sym, refl, inl, inr, ℕ, ◌<◌, List, Option, Some, None, Result, Ok, Err}
use Rattle.ch_bind.specs.Binding.{PlainBound, plain_bound}
use Rattle.ch_bind.specs.declared.error.SumError.{SumError}
use Rattle.ch_command.proofs.Commands.{Total, Unique, read_ends, read_one, read_some, said_all, said_once, then_all, then_one, then_some}
use Rattle.ch_command.specs.Command.{IsDecided, ReadThen, Refuses, Then, refused}
use Rattle.ch_command.specs.declared.outcome.Ending.TheVariants.{Input}
use Rattle.ch_command.specs.declared.outcome.Outcome.{Outcome}
use Rattle.ch_ir.specs.declared.profile.Profile.{Profile}
use Rattle.ch_messages.specs.Query.{query_line}
use Rattle.ch_schedule.specs.declared.read.ScheduleError.{ScheduleError}
use Rattle.ch_schedule.specs.declared.step.Schedule.{Schedule}
use Rattle.ch_sql.proofs.Readings as queries
use Rattle.ch_sql.specs.declared.read.QueryError.{QueryError}
use Rattle.ch_sql_grammar.specs.Tree.{Select}
use Rattle.ch_sql_limits.specs.Texts.{Spells}
use Rattle.ch_tables.specs.TableValue.{TableValue}
use Rattle.cheetah_words.specs.Words.{Request}
use Rattle.cheetah_inputs.proofs.Chains.{reads_then}
use Rattle.cheetah_inputs.proofs.Schedules.{schedules_decided}
use Rattle.cheetah_inputs.specs.Inputs.{AfterGiven, AreInputs, Given, GivesSchedule, OfContents, OfSchedule, OfTables, RejectsSchedule, given_of, profile_or_line, profile_text, schedule_text, tables_or_line}
use Rattle.cheetah_inputs.specs.Inputs as inputs
use Rattle.cheetah_inputs.specs.Messages.{bind_line, schedule_line}
use Rattle.cheetah_inputs.specs.Question.{AfterBound, IsQuestion, OfBound, OfQuestion, OfSelect, Rejects, bound_or_refused, or_refused, refused_sum, summed_or_refused}
use Rattle.cheetah_inputs.specs.Question as question
use Rattle.cheetah_inputs.specs.declared.inputs.Inputs.{Inputs}

abbrev says : QueryError → Outcome
says error = refused Input (query_line error)

text_is_decided : (text : List ℕ) → IsDecided (Spells text) (Refuses (Rejects text) says)
text_is_decided text = record {
  either = elim (queries.either text) [
    | inl read ↦ inl (read.0, read.1)
    | inr none ↦ inr (says none.0, record { error = none.0; is = record { known = none.1; is = none.2 }; said = refl })
  ];
  one_value = queries.one_query text;
  one_refusal = said_once (Rejects text) says (λ e f p q. queries.one_error text e f p.known q.known p.is q.is);
  not_both = λ query outcome p q. queries.not_both text query q.error q.is.known p q.is.is;
}

-- the links of the chain of a query

module _ (tables : List TableValue) (next : AfterBound) where
  bound_some : ((q : PlainBound) → Total (next q)) → (q : PlainBound) → Total (OfBound tables next q)
  bound_some more q = read_some (summed_or_refused q tables) (λ error. refused Input (refused_sum q tables error)) next (λ p e. more p)

  select_some : ((q : PlainBound) → Total (next q)) → (q : Select) → Total (OfSelect tables next q)
  select_some more q = read_some (bound_or_refused q tables) (λ error. refused Input (bind_line error)) (OfBound tables next) (λ p e. bound_some more p)

  question_some : ((q : PlainBound) → Total (next q)) → (text : List ℕ) → Total (OfQuestion text tables next)
  question_some more text = then_some (Spells text) (Refuses (Rejects text) says) (OfSelect tables next) (text_is_decided text) (λ q e. select_some more q)

  bound_one : ((q : PlainBound) → Unique (next q)) → (q : PlainBound) → Unique (OfBound tables next q)
  bound_one more q = read_one (summed_or_refused q tables) (λ error. refused Input (refused_sum q tables error)) next more

  select_one : ((q : PlainBound) → Unique (next q)) → (q : Select) → Unique (OfSelect tables next q)
  select_one more q = read_one (bound_or_refused q tables) (λ error. refused Input (bind_line error)) (OfBound tables next) (bound_one more)

  question_one : ((q : PlainBound) → Unique (next q)) → (text : List ℕ) → Unique (OfQuestion text tables next)
  question_one more text = then_one (Spells text) (Refuses (Rejects text) says) (OfSelect tables next) (text_is_decided text) (λ q e. select_one more q)

  module _ (P : Outcome → Type 0) (none : (line : List ℕ) → P (refused Input line)) (more : (q : PlainBound) (outcome : Outcome) → next q outcome → P outcome) where
    bound_all : (q : PlainBound) (outcome : Outcome) → OfBound tables next q outcome → P outcome
    bound_all q = read_ends P (summed_or_refused q tables) (λ error. refused Input (refused_sum q tables error)) next (λ error. none (refused_sum q tables error)) (λ p e. more p)

    select_all : (q : Select) (outcome : Outcome) → OfSelect tables next q outcome → P outcome
    select_all q = read_ends P (bound_or_refused q tables) (λ error. refused Input (bind_line error)) (OfBound tables next) (λ error. none (bind_line error)) (λ p e. bound_all p)

    question_all : (text : List ℕ) (outcome : Outcome) → OfQuestion text tables next outcome → P outcome
    question_all text = then_all P (Spells text) (Refuses (Rejects text) says) (OfSelect tables next) (said_all P (Rejects text) says (λ error. none (query_line error))) select_all

-- the links of the chain of the files

abbrev says_schedule : ScheduleError → Outcome
says_schedule error = refused Input (schedule_line error)

abbrev behind_tables : AfterGiven → Profile → Schedule → List TableValue → AfterBound
behind_tables next profile schedule tables q = next (record { profile = profile; schedule = schedule; tables = tables; query = q })

module _ (request : Request) (contents : List (List ℕ)) (next : AfterGiven) where
  pub contents_some : ((given : Given) → Total (next given)) → Total (OfContents request next contents)
  contents_some more = read_some (profile_or_line (profile_text request contents)) (refused Input) (OfSchedule request contents next) (λ profile e.
      then_some (GivesSchedule (schedule_text request contents)) (Refuses (RejectsSchedule (schedule_text request contents)) says_schedule) (OfTables request contents next profile)
      (schedules_decided (schedule_text request contents)) (λ schedule s.
      read_some (tables_or_line request contents) (refused Input) (λ tables. OfQuestion request.query tables (behind_tables next profile schedule tables)) (λ tables t.
      question_some tables (behind_tables next profile schedule tables) (λ q. more _) request.query)))

  pub contents_one : ((given : Given) → Unique (next given)) → Unique (OfContents request next contents)
  contents_one more = read_one (profile_or_line (profile_text request contents)) (refused Input) (OfSchedule request contents next) (λ profile.
      then_one (GivesSchedule (schedule_text request contents)) (Refuses (RejectsSchedule (schedule_text request contents)) says_schedule) (OfTables request contents next profile)
      (schedules_decided (schedule_text request contents)) (λ schedule s.
      read_one (tables_or_line request contents) (refused Input) (λ tables. OfQuestion request.query tables (behind_tables next profile schedule tables)) (λ tables.
      question_one tables (behind_tables next profile schedule tables) (λ q. more _) request.query)))

  -- what holds of each refusal, and of all that comes behind the inputs, holds of what the contents come to
  pub contents_all : (P : Outcome → Type 0) → ((line : List ℕ) → P (refused Input line)) → ((given : Given) (outcome : Outcome) → next given outcome → P outcome)
      → (outcome : Outcome) → OfContents request next contents outcome → P outcome
  contents_all P none more = read_ends P (profile_or_line (profile_text request contents)) (refused Input) (OfSchedule request contents next) none (λ profile e.
      then_all P (GivesSchedule (schedule_text request contents)) (Refuses (RejectsSchedule (schedule_text request contents)) says_schedule) (OfTables request contents next profile)
      (said_all P (RejectsSchedule (schedule_text request contents)) says_schedule (λ error. none (schedule_line error)))
      (λ schedule. read_ends P (tables_or_line request contents) (refused Input) (λ tables. OfQuestion request.query tables (behind_tables next profile schedule tables)) none (λ tables t.
      question_all tables (behind_tables next profile schedule tables) P none (λ q. more _) request.query)))

-- what is refused is refused whatever would come behind

refused_before : {X E : Type 0} (read : Result X E) (says : E → Outcome) (none next : X → Outcome → Type 0) → ((x : X) (outcome : Outcome) → none x outcome → next x outcome)
    → (outcome : Outcome) → ReadThen read says none outcome → ReadThen read says next outcome
refused_before (Ok x) says none next more outcome p = more x outcome p
refused_before (Err e) says none next more outcome p = p

refused_behind : {X : Type 0} (reads : X → Type 0) (refuses : Outcome → Type 0) (none next : X → Outcome → Type 0) → ((x : X) (outcome : Outcome) → none x outcome → next x outcome)
    → (outcome : Outcome) → Then reads refuses none outcome → Then reads refuses next outcome
refused_behind reads refuses none next more outcome (inl p) = inl (record { value = p.value; is = p.is; rest = more p.value outcome p.rest })
refused_behind reads refuses none next more outcome (inr p) = inr p

pub question_refused : (text : List ℕ) (tables : List TableValue) (next : AfterBound) (outcome : Outcome) → OfQuestion text tables question.never outcome → OfQuestion text tables next outcome
question_refused text tables next = refused_behind (Spells text) (Refuses (Rejects text) says) (OfSelect tables question.never) (OfSelect tables next) (λ q.
    refused_before (bound_or_refused q tables) (λ error. refused Input (bind_line error)) (OfBound tables question.never) (OfBound tables next) (λ p.
    refused_before (summed_or_refused p tables) (λ error. refused Input (refused_sum p tables error)) question.never next (λ r outcome none. absurd none)))

pub contents_refused : (request : Request) (contents : List (List ℕ)) (next : AfterGiven) (outcome : Outcome) → OfContents request inputs.never contents outcome → OfContents request next contents outcome
contents_refused request contents next = refused_before (profile_or_line (profile_text request contents)) (refused Input) (OfSchedule request contents inputs.never) (OfSchedule request contents next) (λ profile.
    refused_behind (GivesSchedule (schedule_text request contents)) (Refuses (RejectsSchedule (schedule_text request contents)) says_schedule) (OfTables request contents inputs.never profile) (OfTables request contents next profile) (λ schedule.
    refused_before (tables_or_line request contents) (refused Input) (λ tables. OfQuestion request.query tables (behind_tables inputs.never profile schedule tables)) (λ tables. OfQuestion request.query tables (behind_tables next profile schedule tables)) (λ tables outcome.
    question_refused request.query tables (behind_tables next profile schedule tables) outcome)))

-- what is read is followed by what comes behind it

pub question_read : (text : List ℕ) (tables : List TableValue) (next : AfterBound) (q : PlainBound) (query : Select) (outcome : Outcome) → Spells text query → bound_or_refused query tables ≡ Ok q → summed_or_refused q tables ≡ Ok q
    → next q outcome → OfQuestion text tables next outcome
question_read text tables next q query outcome spelled bound summed p = inl (record {
  value = query;
  is = spelled;
  rest = reads_then (bound_or_refused query tables) (λ error. refused Input (bind_line error)) (OfBound tables next) q outcome bound (reads_then (summed_or_refused q tables) (λ error. refused Input (refused_sum q tables error)) next q outcome summed p);
})

pub contents_read : (request : Request) (contents : List (List ℕ)) (next : AfterGiven) (i : Inputs) (outcome : Outcome) → AreInputs request contents i → next (given_of i) outcome → OfContents request next contents outcome
contents_read request contents next i outcome are p =
    let q = plain_bound i.bound in
    let asked = are.question in
    let bound : bound_or_refused asked.query i.tables ≡ Ok q = rw asked.passes (ap Ok (sym asked.is_bound)) in
    let summed : summed_or_refused q i.tables ≡ Ok q = ap (λ (o : Option SumError). or_refused o q) asked.summed in
    let rest = question_read request.query i.tables (behind_tables next i.profile i.schedule i.tables) q asked.query outcome asked.spelled bound summed p in
    reads_then (profile_or_line (profile_text request contents)) (refused Input) (OfSchedule request contents next) i.profile outcome are.profile (inl (record {
      value = i.schedule;
      is = are.schedule;
      rest = reads_then (tables_or_line request contents) (refused Input) (λ tables. OfQuestion request.query tables (behind_tables next i.profile i.schedule tables)) i.tables outcome are.tables rest;
    }))
