-- The run of an audit at its start.
use Rattle.std.proofs.Common.{◌≡◌, ◌∙◌, ◌<◌, ◌≤◌, ◌^◌, ℕ, List, length, ap, sym, arith, inl, inr, refl, subst}
use Rattle.std.specs.Prelude.{◌==◌, if◌then◌else◌}
use Rattle.std.proofs.lemmas.List.{length-map}
use Rattle.ch_asked.specs.Texts.{asked_texts, dictionary_of}
use Rattle.ch_engine.specs.declared.engine.Engine.{Engine}
use Rattle.ch_parts.specs.Scanned.{parts_of}
use Rattle.ch_plan.specs.Kinds.{IsPlanOf, kind_times}
use Rattle.ch_plan.specs.declared.kind.PlanKind.{PlanKind}
use Rattle.ch_protocol.specs.Machine.{Config, State, passes, rows_in, start, workers}
use Rattle.ch_run.specs.Asked as run
use Rattle.ch_run.specs.Asked.{begun_of}
use Rattle.ch_run.specs.Runs.{IsRunOf}
use Rattle.ch_tables.specs.TableValue.{TableValue}
use Rattle.ch_verdicts.specs.Handed.{IsPass}
use Rattle.cheetah_inputs.specs.Inputs.{given_of}
use Rattle.cheetah_inputs.specs.declared.inputs.Inputs.{Inputs}
use Rattle.cheetah_run.proofs.Asked.{one_or_two, some_parts}
use Rattle.cheetah_run.proofs.Configured.{configured, same_parts}
use Rattle.cheetah_run.specs.Asking.{AreAsked}
use Rattle.cheetah_run.specs.Running.{config_of, texts_of}
use Rattle.cheetah_audit.specs.Runs.{IsAt, IsValid}

times_are : (n : ℕ) → IsPass n → n ≡ (if n == 2 then 2 else 1)
times_are n (inl e) = rw e refl
times_are n (inr e) = rw e refl

pub at_valid : (x : Engine) (last : ℕ) (c : Config) (s : State) → IsAt x last c s → IsValid x last
at_valid x last c s at = record {
  running = record { begun = at.begun; state = s; is = at.run };
  last_is = at.last_is ∙ (ap passes (sym at.config) ∙ ap (λ (b : _). if b then 2 else 1) (sym at.run.stands.kind));
}

pub begun_at : (inputs : Inputs) (k : PlanKind) (ranks : List (List ℕ)) (tables : List TableValue) (x : Engine) (last : ℕ) → IsPlanOf k inputs.bound inputs.profile
    → ranks ≡ dictionary_of (asked_texts inputs.bound inputs.tables) → tables ≡ inputs.tables → last ≡ kind_times k
    → IsRunOf (begun_of ranks inputs.bound tables k inputs.profile.window) x (start (run.config_of ranks inputs.bound tables k inputs.profile.window))
    → IsAt x last (config_of (given_of inputs)) (start (config_of (given_of inputs)))
begun_at inputs k ranks tables x last is texts same times r =
    let texts_are : ranks ≡ texts_of (given_of inputs) = texts in
    let config : run.config_of ranks inputs.bound tables k inputs.profile.window ≡ config_of (given_of inputs) =
    ap (λ (ts : List TableValue). run.config_of ranks inputs.bound ts k inputs.profile.window) same
    ∙ (ap (λ (ts : List (List ℕ)). run.config_of ts inputs.bound inputs.tables k inputs.profile.window) texts_are ∙ sym (configured inputs k is)) in
    let pass : IsPass (kind_times k) = subst IsPass (sym is.times) (one_or_two inputs.bound.shape) in
    record {
      begun = begun_of ranks inputs.bound tables k inputs.profile.window;
      run = subst (λ (d : Config). IsRunOf (begun_of ranks inputs.bound tables k inputs.profile.window) x (start d)) config r;
      config = config;
      last_is = times ∙ (times_are (kind_times k) pass ∙ ap passes config);
    }

pub some_worker : (inputs : Inputs) → AreAsked inputs → 0 < workers (config_of (given_of inputs))
some_worker inputs are =
    let given = given_of inputs in
    let c = config_of given in
    let parts : length c.parts ≡ length (parts_of (texts_of given) inputs.bound inputs.tables) = ap (λ ps. length ps) (same_parts (texts_of given) inputs.bound inputs.tables) in
    let many : workers c ≡ length c.parts = length-map c.parts rows_in in
    let there = some_parts inputs are (texts_of given) in
    omega (arith, parts, many, there)
