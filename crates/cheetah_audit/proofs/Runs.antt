-- The run of an audit goes as a run does.
use Rattle.std.proofs.Common.{◌≡◌, ◌∙◌, ◌<◌, ◌≤◌, ◌+◌, ℕ, Bool, true, false, List, [], ◌∷◌, map, refl, ap, sym, inl, subst}
use Rattle.std.specs.Prelude.{◌≢◌, ◌==◌, OnOk, if◌then◌else◌, Result, Ok, Err}
use Rattle.std.proofs.lemmas.Bool.{and_parts, eqb-true}
use Rattle.ch_engine.specs.declared.engine.Engine.{Engine}
use Rattle.ch_protocol.specs.Machine.{Config, State, confirmed, passes, step, stopped, workers}
use Rattle.ch_protocol.specs.Outcome.{OpenFlow, open_flow, outcome, report}
use Rattle.ch_protocol.specs.Sender.{is_done}
use Rattle.ch_protocol_laws.proofs.OutcomeLaws.{open_named}
use Rattle.ch_run.proofs.Followed.{epoch_after}
use Rattle.ch_run.specs.Outcomes.{flow_seen, outcome_seen}
use Rattle.ch_run.specs.Runs.{Begun, IsGoing, IsRunOf, LeadsTo}
use Rattle.ch_run.specs.declared.outcome.Outcome.{Outcome}
use Rattle.ch_schedule.specs.Event.{event_of}
use Rattle.ch_schedule.specs.declared.step.Step.{Step}
use Rattle.ch_survival.specs.Given.{Given, IsPlanned}
use Rattle.ch_trace_laws.specs.Sendable.{AreSendable}
use Rattle.cheetah_audit.specs.Runs.{IsAt, IsValid, first_pass, pass_said}

-- its packets are packets
pub sendable : (g : Given) → IsPlanned g → AreSendable g.config
sendable g p = record {
  many = p.parts.many;
  sizes = p.parts.sizes;
  sides = p.parts.sides;
  few = λ x w k. (p.rows 1 x.worker x.number (inl refl) w k).few;
  words = λ x w k. (p.rows 1 x.worker x.number (inl refl) w k).words;
}

pub at_sendable : (x : Engine) (last : ℕ) (c : Config) (s : State) → IsAt x last c s → AreSendable c
at_sendable x last c s at = subst AreSendable at.config (sendable at.begun.given at.run.planned)

-- the pass of what a run has come to

firsts : (c : Config) (s : State) (last : ℕ) (ws : List ℕ) → map (open_flow c s) ws ≢ [] → first_pass (map flow_seen (map (open_flow c s) ws)) last ≡ s.pass
firsts c s last [] some = absurd (some refl)
firsts c s last (w ∷ ws) some = refl

module _ (q : Begun) (x : Engine) (s : State) (r : IsRunOf q x s) (last : ℕ) where
  abbrev c : Config
  c = q.given.config

  seen : 0 < workers c → last ≡ passes c → (b : Bool) → stopped c s ≡ b → pass_said (outcome_seen (outcome c s)) last ≡ s.pass
  seen some l true stop = rw stop (l ∙ sym (eqb-true s.pass (passes c) (and_parts (s.pass == passes c) (confirmed c s) stop).0))
  seen some l false run = rw run (firsts c s last _ (open_named c s some r.planned.parts.window.0 r.reached run))

  pub pass_is : 0 < workers c → last ≡ passes c → (o : Outcome) → o ≡ outcome_seen (outcome c s) → pass_said o last ≡ s.pass
  pass_is some l o e = ap (λ (u : Outcome). pass_said u last) e ∙ seen some l (stopped c s) refl

pub pass_at : (x : Engine) (last pass : ℕ) (c : Config) (s : State) (at : IsAt x last c s) (o : Outcome) → 0 < workers c → pass ≡ pass_said o last → o ≡ outcome_seen (outcome at.begun.given.config s) → pass ≡ s.pass
pass_at x last pass c s at o some said e =
    said ∙ pass_is at.begun x s at.run last (subst (λ (k : Config). 0 < workers k) (sym at.config) some) (at.last_is ∙ ap passes (sym at.config)) o e

-- it goes on

pub at_of : (x : Engine) (last : ℕ) → IsValid x last → (q : Begun) (s : State) → IsRunOf q x s → IsAt x last q.given.config s
at_of x last v q s r = record { begun = q; run = r; config = refl; last_is = v.last_is ∙ ap (λ (b : Bool). if b then 2 else 1) r.stands.kind }

pub going : (x : Engine) (last : ℕ) → IsValid x last → ((c : Config) (s : State) → IsAt x last c s → stopped c s ≡ false) → IsGoing x
going x last v h q s r = h q.given.config s (at_of x last v q s r)

module _ {A E : Type 0} (x y : Engine) (last : ℕ) (f : Config → State → State) where
  pub leads_at : (r : Result A E) → OnOk r (LeadsTo x y f) → (c : Config) (s : State) → IsAt x last c s → OnOk r (IsAt y last c (f c s))
  leads_at (Ok a) leads c s at = record {
    begun = at.begun;
    run = subst (λ (k : Config). IsRunOf at.begun y (f k s)) at.config (leads at.begun s at.run);
    config = at.config;
    last_is = at.last_is;
  }
  leads_at (Err e) leads c s at = tt

  pub leads_valid : (r : Result A E) → OnOk r (LeadsTo x y f) → IsValid x last → OnOk r (IsValid y last)
  leads_valid (Ok a) leads v =
      let q = v.running in
      let after = leads q.begun q.state q.is in
      record {
        running = record { begun = q.begun; state = f q.begun.given.config q.state; is = after };
        last_is = v.last_is ∙ ap (λ (b : Bool). if b then 2 else 1) (q.is.stands.kind ∙ sym after.stands.kind);
      }
  leads_valid (Err e) leads v = tt

pub leads_epoch : {A E : Type 0} (x y : Engine) (last : ℕ) (e : Step) (r : Result A E) → OnOk r (LeadsTo x y (λ c s. step c s (event_of e))) → IsValid x last → OnOk r (y.switch.epoch ≤ x.switch.epoch + 1)
leads_epoch x y last e (Ok a) leads v = epoch_after x x y e v.running refl leads
leads_epoch x y last e (Err a) leads v = tt
