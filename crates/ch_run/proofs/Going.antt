-- A run goes from state to state.
use Rattle.std.proofs.Common.{◌≡◌, length, ap, sym, ◌∙◌}
use Rattle.std.specs.Prelude.{OnOk, OnErr, Result, Ok, Err}
use Rattle.ch_protocol.specs.Machine.{Config, State, Event, run, step}
use Rattle.ch_protocol_laws.proofs.Reached.{reached_sound, reached_step}
use Rattle.ch_engine.specs.Stands.{Follows, IsSameQuery, IsStanding}
use Rattle.ch_engine.specs.declared.engine.Engine.{Engine}
use Rattle.ch_run.specs.Runs.{Begun, IsRunOf, IsRunning, LeadsOn, LeadsTo}

-- what the engine needs of a run
pub standing : (x : Engine) → IsRunning x → IsStanding x
standing x r = record { given = r.begun.given; state = r.state; planned = r.is.planned; sound = reached_sound r.begun.given.config r.state r.is.reached; stands = r.is.stands }

pub goes : (x y : Engine) (e : Event) → IsSameQuery x y → Follows x y (λ c s. step c s e) → LeadsTo x y (λ c s. step c s e)
goes x y e same f q s r =
    let c = q.given.config in
    record {
      ranks_are = ap (λ (t : _). t.now) same.1 ∙ r.ranks_are;
      bound_is = ap (λ (t : _). t.now) same.0 ∙ r.bound_is;
      planned = r.planned;
      reached = reached_step c s e r.reached;
      stands = f q.given s r.planned (reached_sound c s r.reached) r.stands;
    }

pub stays : (x y : Engine) → IsSameQuery x y → Follows x y (λ c s. s) → LeadsTo x y (λ c s. s)
stays x y same f q s r = record {
  ranks_are = ap (λ (t : _). t.now) same.1 ∙ r.ranks_are;
  bound_is = ap (λ (t : _). t.now) same.0 ∙ r.bound_is;
  planned = r.planned;
  reached = r.reached;
  stands = f q.given s r.planned (reached_sound q.given.config s r.reached) r.stands;
}

pub ok_goes : {A E : Type 0} (x y : Engine) (r : Result A E) (e : Event) → IsSameQuery x y → OnOk r (Follows x y (λ c s. step c s e)) → OnOk r (LeadsTo x y (λ c s. step c s e))
ok_goes x y (Ok a) e same f = goes x y e same f
ok_goes x y (Err a) e same f = tt

pub err_stays : {A E : Type 0} (x y : Engine) (r : Result A E) → IsSameQuery x y → OnErr r (Follows x y (λ c s. s)) → OnErr r (LeadsTo x y (λ c s. s))
err_stays x y (Ok a) same f = tt
err_stays x y (Err a) same f = stays x y same f

pub in_err : {A E : Type 0} {P : Type 0} (r : Result A E) → P → OnErr r P
in_err (Ok a) p = tt
in_err (Err a) p = p

-- a run goes on being one
pub still_running : {A E : Type 0} (x y : Engine) (r : Result A E) (e : Event) → IsRunning x → IsSameQuery x y → OnOk r (Follows x y (λ c s. step c s e)) → OnErr r (Follows x y (λ c s. s)) → IsRunning y
still_running x y (Ok a) e q same ok err = record { begun = q.begun; state = step q.begun.given.config q.state e; is = goes x y e same ok q.begun q.state q.is }
still_running x y (Err a) e q same ok err = record { begun = q.begun; state = q.state; is = stays x y same err q.begun q.state q.is }

pub leads_running : (x y : Engine) → IsRunning x → LeadsOn x y → IsRunning y
leads_running x y q f = let o = f q.begun q.state q.is in record { begun = q.begun; state = run q.begun.given.config o.0 q.state; is = o.1 }

pub ends_running : (x y : Engine) (f : Config → State → State) → IsRunning x → LeadsTo x y f → IsRunning y
ends_running x y f q l = record { begun = q.begun; state = f q.begun.given.config q.state; is = l q.begun q.state q.is }

-- no worker comes or goes
pub same_team : (q : Begun) (x y : Engine) (s t : State) → IsRunOf q x s → IsRunOf q y t → length y.workers.items ≡ length x.workers.items
same_team q x y s t a b = b.stands.workers_are.many ∙ sym a.stands.workers_are.many
