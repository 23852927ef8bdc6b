-- A query with its inputs that is planned may be run, and its packets are packets.
use Rattle.std.proofs.Common.{◌≡◌, sym, refl, subst, ℕ, ◌≤◌, ◌^◌, List, length, Option, Some, None, arith}
use Rattle.std.specs.Prelude.{option_map}
use Rattle.ch_bind.specs.Binding.{plain_bound}
use Rattle.ch_ir.specs.declared.setting.Setting.TheVariants.{Window}
use Rattle.ch_lines.specs.Lines.{lines_of}
use Rattle.ch_lists.specs.Members.{Each}
use Rattle.ch_parts.specs.Scanned.{AreTables}
use Rattle.ch_plan.specs.Kinds.{IsPlanOf}
use Rattle.ch_plan.specs.declared.kind.PlanKind.{PlanKind}
use Rattle.ch_protocol.specs.Machine.{Config}
use Rattle.ch_run.proofs.Asking.{planned}
use Rattle.ch_run.specs.Asked.{begun_of}
use Rattle.ch_schedule.specs.declared.step.Schedule.{Schedule}
use Rattle.ch_trace_laws.proofs.Drains.{trace_in_range}
use Rattle.ch_trace_laws.proofs.Readable.{all_readable}
use Rattle.ch_trace_laws.specs.Sendable.{AreSendable, IsReadable}
use Rattle.ch_trace_lines.specs.Range.{IsLine}
use Rattle.ch_trace_lines.specs.Trace.{steps_done, trace_lines}
use Rattle.cheetah_audit.proofs.Begun.{some_worker}
use Rattle.cheetah_audit.proofs.Runs.{sendable as sendable_of}
use Rattle.cheetah_audit.specs.Result.{runs}
use Rattle.cheetah_inputs.specs.Inputs.{AreInputs, GivesSchedule, given_of, schedule_text}
use Rattle.cheetah_inputs.specs.Limits.{limit_exceeded, plan_line}
use Rattle.cheetah_inputs.specs.declared.inputs.Inputs.{Inputs}
use Rattle.cheetah_inputs_laws.proofs.Dictionary.{dictionary_small}
use Rattle.cheetah_inputs_laws.proofs.Planned.{inputs_planned}
use Rattle.cheetah_run.proofs.Asked.{are_tables, few_carried, few_parts, few_steps, ranged}
use Rattle.cheetah_run.proofs.Configured.{configured}
use Rattle.cheetah_run.specs.Asking.{AreAsked}
use Rattle.cheetah_run.specs.Running.{config_of, texts_of}
use Rattle.cheetah_words.specs.Words.{Request}

-- What is read of a request's files, as the words may name them, with a plan of the query. Its dictionary isn't too long for
-- the ranks of its texts
pub record IsReady (request : Request) (contents : List (List ℕ)) : Type 0 where
  pub inputs : Inputs
  pub read : AreInputs request contents inputs
  pub few_tables : length request.tables ≤ 64
  pub kind : PlanKind
  pub plan : IsPlanOf kind inputs.bound inputs.profile
  pub few_texts : length (texts_of (given_of inputs)) ≤ 2 ^ 32

pub unmapped : {X Y : Type 0} (f : X → Y) (o : Option X) → option_map f o ≡ None → o ≡ None
unmapped f None e = refl
unmapped f (Some x) e = cc

-- what is read and not refused is ready
abbrev pub ready : (request : Request) (contents : List (List ℕ)) (inputs : Inputs) → length request.tables ≤ 64 → AreInputs request contents inputs → runs.refusal (given_of inputs) ≡ None → IsReady request contents
ready request contents inputs few are none =
    let within : limit_exceeded (plain_bound inputs.bound) inputs.profile ≡ None = unmapped plan_line (limit_exceeded (plain_bound inputs.bound) inputs.profile) none in
    let k = inputs_planned request contents inputs are within in
    record { inputs = inputs; read = are; few_tables = few; kind = k.0; plan = k.1; few_texts = dictionary_small request contents inputs are }

readable : (text : Option (List ℕ)) (schedule : Schedule) → GivesSchedule text schedule → Each IsReadable schedule.steps
readable None schedule is = subst (λ (s : Schedule). Each IsReadable s.steps) (sym is) (λ x i. absurd i)
readable (Some text) schedule is = all_readable (lines_of text) schedule is

module _ (request : Request) (contents : List (List ℕ)) (ready : IsReady request contents) where
  abbrev c : Config
  c = config_of (given_of ready.inputs)

  abbrev pub texts : List (List ℕ)
  texts = texts_of (given_of ready.inputs)

  pub asked : AreAsked ready.inputs
  asked = record { request = request; contents = contents; few = ready.few_tables; read = ready.read }

  pub tables : AreTables texts ready.inputs.bound ready.inputs.tables
  tables = are_tables ready.inputs asked texts refl ready.few_texts

  pub sendable : AreSendable c
  sendable =
      let inputs = ready.inputs in
      let window = ranged inputs asked Window in
      let low = window.0 in
      let high = window.1 in
      let p = planned texts inputs.bound inputs.tables ready.kind inputs.profile inputs.profile.window tables ready.plan (few_carried inputs asked) (few_parts inputs asked texts) (omega (arith, low)) (omega (arith, high)) in
      subst AreSendable (sym (configured inputs ready.kind ready.plan)) (sendable_of (begun_of texts inputs.bound inputs.tables ready.kind inputs.profile.window).given p)

  -- each line of what is written can be read
  pub in_range : Each IsLine (trace_lines c (steps_done c ready.inputs.schedule))
  in_range =
      let few = few_steps ready.inputs asked in
      let low = (ranged ready.inputs asked Window).0 in
      trace_in_range c ready.inputs.schedule sendable (some_worker ready.inputs asked) (omega (arith, low))
      (readable (schedule_text request contents) ready.inputs.schedule ready.read.schedule) (omega (arith, few))
