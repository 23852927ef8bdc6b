-- What is read can be asked: its query can be planned, its tables are those that a run asks for, and its schedule is within
-- the limits.
use Rattle.std.proofs.Common.{◌≡◌, ◌∙◌, ap, sym, subst, ℕ, ◌≤◌, ◌^◌, All, true, false, not, List, length, Option, Some, None, arith}
use Rattle.std.specs.Prelude.{bytes_eq}
use Rattle.std.specs.List.{list_all, list_any}
use Rattle.std.proofs.lemmas.List.Elements.{All-nil}
use Rattle.ch_asked.specs.Suits.{IsTyped}
use Rattle.ch_asked.specs.Texts.{asked_texts, dictionary_of}
use Rattle.ch_asked.proofs.Asked.{are_tables}
use Rattle.ch_asked.proofs.Bound.{bound_suit}
use Rattle.ch_asked.proofs.Dictionary.{dictionary_ascends, dictionary_holds}
use Rattle.ch_asked.proofs.Plannable.{bound_plannable}
use Rattle.ch_asked.proofs.Typed.{read_typed}
use Rattle.ch_lines.specs.Lines.{lines_of}
use Rattle.ch_lists.specs.Members.{Each}
use Rattle.ch_asked.specs.Scanned.{AreTables}
use Rattle.ch_plan.specs.Kinds.{IsPlannable}
use Rattle.ch_ranks.specs.Dictionary.{Ascends}
use Rattle.ch_schedule.specs.Bad.{is_forged}
use Rattle.ch_schedule.specs.declared.step.Schedule.{Schedule}
use Rattle.ch_schedule.specs.declared.step.Step.{Step}
use Rattle.ch_schedule.proofs.Limits.{read_fair, read_few, read_unforged}
use Rattle.ch_sql.proofs.Readings.{spelled_parsed}
use Rattle.cheetah_words.specs.Words.{Request}
use Rattle.cheetah_inputs.specs.Inputs.{AreInputs, GivesSchedule, schedule_text}
use Rattle.cheetah_inputs.specs.declared.inputs.Inputs.{Inputs}
use Rattle.cheetah_inputs.proofs.Sizes.{inputs_read}

-- ---- the schedule

module _ (schedule : Schedule) where
  few_given : (text : Option (List ℕ)) → GivesSchedule text schedule → length schedule.steps ≤ 1000000
  few_given None e = let none = ap (λ (s : Schedule). length s.steps) e in omega (arith, none)
  few_given (Some text) is = read_few (lines_of text) schedule is

  unforged_given : (text : Option (List ℕ)) → GivesSchedule text schedule → All (λ step. is_forged step ≡ false) schedule.steps
  unforged_given None e = subst (λ (s : Schedule). All (λ step. is_forged step ≡ false) s.steps) (sym e) (All-nil (λ (step : Step). is_forged step ≡ false))
  unforged_given (Some text) is = read_unforged (lines_of text) schedule is

  fair_given : (text : Option (List ℕ)) → GivesSchedule text schedule → list_all (λ step. not (is_forged step)) schedule.steps ≡ true
  fair_given None e = ap (λ (s : Schedule). list_all (λ step. not (is_forged step)) s.steps) e
  fair_given (Some text) is = read_fair (lines_of text) schedule is

pub few_steps : (request : Request) (contents : List (List ℕ)) (inputs : Inputs) → AreInputs request contents inputs → length inputs.schedule.steps ≤ 1000000
few_steps request contents inputs is = few_given inputs.schedule (schedule_text request contents) is.schedule

pub unforged_steps : (request : Request) (contents : List (List ℕ)) (inputs : Inputs) → AreInputs request contents inputs → All (λ step. is_forged step ≡ false) inputs.schedule.steps
unforged_steps request contents inputs is = unforged_given inputs.schedule (schedule_text request contents) is.schedule

pub fair_steps : (request : Request) (contents : List (List ℕ)) (inputs : Inputs) → AreInputs request contents inputs → list_all (λ step. not (is_forged step)) inputs.schedule.steps ≡ true
fair_steps request contents inputs is = fair_given inputs.schedule (schedule_text request contents) is.schedule

-- ---- the query and its tables

pub planned_inputs : (request : Request) (contents : List (List ℕ)) (inputs : Inputs) → AreInputs request contents inputs → IsPlannable inputs.bound inputs.bound.shape
planned_inputs request contents inputs is =
    let q = is.question in
    bound_plannable q.query inputs.bound inputs.tables (spelled_parsed request.query q.query q.spelled) q.passes q.is_bound q.sound

typed_tables : (request : Request) (contents : List (List ℕ)) (inputs : Inputs) → AreInputs request contents inputs → Each IsTyped inputs.tables
typed_tables request contents inputs is table i =
    let r = (inputs_read (length request.tables) request contents inputs is (omega arith)).each table i in
    let some = r.some in
    read_typed r.name r.left r.texts table (omega (arith, some)) r.is

pub asked_inputs : (request : Request) (contents : List (List ℕ)) (inputs : Inputs) (texts : List (List ℕ)) → AreInputs request contents inputs
    → texts ≡ dictionary_of (asked_texts inputs.bound inputs.tables) → length texts ≤ 2 ^ 32 → AreTables texts inputs.bound inputs.tables
asked_inputs request contents inputs texts is e few =
    let q = is.question in
    let asked = asked_texts inputs.bound inputs.tables in
    are_tables texts inputs.bound inputs.tables (bound_suit q.query inputs.bound inputs.tables q.passes q.is_bound q.sound q.summed) (typed_tables request contents inputs is)
    (subst Ascends (sym e) (dictionary_ascends asked)) few
    (λ text h. ap (λ ts. list_any (bytes_eq text) ts) e ∙ (dictionary_holds asked text ∙ h))
