-- What a run writes is what query, schedule and tables say.
use Rattle.std.proofs.Common.{◌≡◌, ◌∙◌, ap, sym, refl, subst, ℕ, ◌<◌, ◌≤◌, ◌^◌, true, List, [], length, map, arith, inl, inr, ℤ}
use Rattle.std.specs.Prelude.{Result, Ok, Err}
use Rattle.std.specs.Result.{IfOk}
use Rattle.std.proofs.lemmas.Bool.{cases_Bool}
use Rattle.std.proofs.lemmas.List.{length-map}
use Rattle.ch_asked.specs.Texts.{asked_texts, dictionary_of}
use Rattle.ch_bind.specs.Binding.{plain_bound}
use Rattle.ch_cells.specs.declared.Cell.{Cell}
use Rattle.ch_cells.specs.declared.outcome.Counts.{Counts}
use Rattle.ch_cells.specs.declared.outcome.OpenFlow.{OpenFlow}
use Rattle.ch_command.specs.declared.outcome.Ending.TheVariants as ending
use Rattle.ch_command.specs.declared.outcome.Outcome.{Outcome}
use Rattle.ch_cover.specs.Rows.{Row}
use Rattle.ch_ir.specs.declared.setting.Setting.TheVariants.{Window}
use Rattle.ch_parts.specs.Scanned.{asked_tables, parts_of}
use Rattle.ch_plan.specs.Kinds.{IsPlanOf, kind_times}
use Rattle.ch_plan.specs.declared.kind.PlanKind.{PlanKind}
use Rattle.ch_pred.specs.Meaning.{answer, answer_to}
use Rattle.ch_print.specs.AnswerText.{text_of}
use Rattle.ch_print.specs.RunTexts.{counts_line, report}
use Rattle.ch_protocol.specs.Machine.{Config, State, passes, rows_in, stopped, workers}
use Rattle.ch_protocol.specs.Outcome as run
use Rattle.ch_protocol.specs.Outcome.{after_schedule, outcome}
use Rattle.ch_protocol.specs.Received.{rows_arrived}
use Rattle.ch_protocol_laws.proofs.OutcomeLaws.{drained_done, reached_schedule}
use Rattle.ch_run.proofs.Asking.{answers}
use Rattle.ch_run.specs.Asked as run_asked
use Rattle.ch_run.specs.Asked.{begun_of}
use Rattle.ch_run.specs.Outcomes.{counts_seen, flow_seen, outcome_seen}
use Rattle.ch_run.specs.Runs.{Begun}
use Rattle.ch_run.specs.declared.outcome.Outcome.TheVariants as seen
use Rattle.ch_schedule.specs.Event.{events_of}
use Rattle.ch_survival.specs.Asked.{answer_arrived}
use Rattle.ch_tables.specs.TableValue.{TableValue}
use Rattle.ch_verdicts.specs.Handed.{IsPass}
use Rattle.ch_words.specs.Rows.{side_seen}
use Rattle.cheetah_inputs.specs.Inputs.{given_of}
use Rattle.cheetah_inputs.specs.Question.{unfiltered}
use Rattle.cheetah_inputs.specs.declared.inputs.Inputs.{Inputs}
use Rattle.cheetah_run.proofs.Asked.{are_tables, one_or_two, ranged, some_parts}
use Rattle.cheetah_run.proofs.Configured.{configured, same_partial, same_parts}
use Rattle.cheetah_run.specs.Asking.{AreAsked}
use Rattle.cheetah_run.specs.Running.{asked_of_words, config_of, partial_rows, texts_of}
use Rattle.cheetah_run.specs.Saying.{arrived_in, said_by_run, said_in, said_of, said_of_run}

pub drained_is_done : (inputs : Inputs) → AreAsked inputs → inputs.schedule.drain ≡ true → (said_by_run (given_of inputs)).ending ≡ ending.Done
drained_is_done inputs are drain =
    let given = given_of inputs in
    let c = config_of given in
    let events = events_of inputs.schedule.steps in
    let parts : length c.parts ≡ length (parts_of (texts_of given) inputs.bound inputs.tables) = ap (λ ps. length ps) (same_parts (texts_of given) inputs.bound inputs.tables) in
    let many : workers c ≡ length c.parts = length-map c.parts rows_in in
    let there = some_parts inputs are (texts_of given) in
    let some : 0 < workers c = omega (arith, parts, many, there) in
    ap (λ (o : run.Outcome). (said_of given o).ending) (ap (λ d. outcome c (after_schedule c events d)) drain ∙ drained_done c events some (ranged inputs are Window).0)

module _ (inputs : Inputs) (are : AreAsked inputs) (k : PlanKind) (is : IsPlanOf k inputs.bound inputs.profile) (few : length (texts_of (given_of inputs)) ≤ 2 ^ 32) where
  abbrev texts : List (List ℕ)
  texts = texts_of (given_of inputs)

  -- the configuration of the plan's run, and the state behind its schedule
  abbrev c : Config
  c = run_asked.config_of texts inputs.bound inputs.tables k inputs.profile.window

  abbrev s : State
  s = after_schedule c (events_of inputs.schedule.steps) inputs.schedule.drain

  abbrev arrived : List (List Cell)
  arrived = answer_arrived texts inputs.bound (rows_arrived c (passes c) s.received)

  same : config_of (given_of inputs) ≡ c
  same = configured inputs k is

  times : IsPass (kind_times k)
  times = subst IsPass (sym is.times) (one_or_two inputs.bound.shape)

  -- once it has stopped, the answer over what arrived is the query's
  whole : stopped c s ≡ true → arrived ≡ answer inputs.bound (asked_tables inputs.bound inputs.tables)
  whole stop = sym (answers texts inputs.bound inputs.tables k inputs.profile inputs.profile.window (are_tables inputs are texts refl few) is times s (reached_schedule c (events_of inputs.schedule.steps) inputs.schedule.drain) stop)

  partial : partial_rows (given_of inputs) ≡ length arrived
  partial =
      ap (λ (x : Config). length (answer_over (rows_arrived x (passes x) (after_schedule x (events_of inputs.schedule.steps) inputs.schedule.drain).received))) same
      ∙ sym (same_partial texts inputs.bound (rows_arrived c (passes c) s.received))
    where
      answer_over : List Row → List (List ℤ)
      answer_over rows = answer_to (asked_of_words texts (plain_bound inputs.bound)) (side_seen (unfiltered (plain_bound inputs.bound)) 0 rows) (side_seen (unfiltered (plain_bound inputs.bound)) 1 rows)

  either : said_of_run (begun_of texts inputs.bound inputs.tables k inputs.profile.window) s (outcome c s) ≡ said_of (given_of inputs) (outcome c s)
  either = elim (cases_Bool (stopped c s)) [
    | inl stop ↦ rw stop (ap (λ (rows : List (List Cell)). record { ending = ending.Done; out = text_of (record { header = inputs.bound.header; rows = rows }); err = counts_line (counts_seen s.counts) }) (whole stop))
    | inr on ↦ rw on (ap (λ n. record { ending = ending.Open; out = []; err = report (map flow_seen (run.report c s)) n }) (sym partial))
  ]

  pub said_same : said_in (begun_of texts inputs.bound inputs.tables k inputs.profile.window) s ≡ said_by_run (given_of inputs)
  said_same = either ∙ sym (ap (λ (x : Config). said_of (given_of inputs) (outcome x (after_schedule x (events_of inputs.schedule.steps) inputs.schedule.drain))) same)

-- what is said of a run where it stands is what is written

pub open_said : (q : Begun) (s : State) (o : run.Outcome) (flows : List OpenFlow) (partial : ℕ) → seen.Open flows ≡ outcome_seen o → partial ≡ length (arrived_in q s)
    → ◌≡◌ {A = Outcome} (record { ending = ending.Open; out = []; err = report flows partial }) (said_of_run q s o)
open_said q s (run.Outcome.Done n) flows partial e many = absurd cc
open_said q s (run.Outcome.Open fs) flows partial e many =
    let same : flows ≡ map flow_seen fs = cc in
    λ i. record { ending = ending.Open; out = []; err = report (same i) (many i) }

pub done_said : (q : Begun) (s : State) (o : run.Outcome) (out : List ℕ) (counts : Counts) → seen.Done counts ≡ outcome_seen o → out ≡ text_of (record { header = q.query.header; rows = arrived_in q s })
    → ◌≡◌ {A = Outcome} (record { ending = ending.Done; out = out; err = counts_line counts }) (said_of_run q s o)
done_said q s (run.Outcome.Done n) out counts e text =
    let same : counts ≡ counts_seen n = cc in
    λ i. record { ending = ending.Done; out = text i; err = counts_line (same i) }
done_said q s (run.Outcome.Open fs) out counts e text = absurd cc

module _ (inputs : Inputs) (k : PlanKind) where
  -- what a run of these texts and tables says behind the schedule
  abbrev pub said_with : List (List ℕ) → List TableValue → Outcome
  said_with ranks tables = said_in (begun_of ranks inputs.bound tables k inputs.profile.window)
      (after_schedule (run_asked.config_of ranks inputs.bound tables k inputs.profile.window) (events_of inputs.schedule.steps) inputs.schedule.drain)

  pub run_comes : {E : Type 0} (are : AreAsked inputs) (is : IsPlanOf k inputs.bound inputs.profile) (ranks : List (List ℕ)) (tables : List TableValue) (judged : Result Outcome E) → ranks ≡ dictionary_of (asked_texts inputs.bound tables) → length ranks < 2 ^ 32 → tables ≡ inputs.tables
      → IfOk judged (λ said. said ≡ said_with ranks tables) → IfOk judged (λ said. said ≡ said_by_run (given_of inputs))
  run_comes are is ranks tables (Ok said) e few same comes =
      let texts_are : ranks ≡ texts_of (given_of inputs) = e ∙ ap (λ (ts : List TableValue). dictionary_of (asked_texts inputs.bound ts)) same in
      let many : length ranks ≡ length (texts_of (given_of inputs)) = ap (λ ts. length ts) texts_are in
      let small : length (texts_of (given_of inputs)) ≤ 2 ^ 32 = omega (arith, many, few) in
      comes ∙ (ap (said_with ranks) same ∙ (ap (λ (ts : List (List ℕ)). said_with ts inputs.tables) texts_are ∙ said_same inputs are k is small))
  run_comes are is ranks tables (Err memory) e few same comes = tt
