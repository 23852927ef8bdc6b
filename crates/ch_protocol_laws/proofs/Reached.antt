-- What events lead to is reached: after each event, and after drain.
use Rattle.std.proofs.Common.{◌≡◌, ◌<◌, ◌≤◌, List, [], ◌∷◌, ◌++◌, refl, ap, ◌∙◌, subst}
use Rattle.ch_protocol.specs.Machine.{Config, State, Event, workers, step, run, start, IsReached}
use Rattle.ch_protocol.specs.Drain.{drain}
use Rattle.ch_protocol.specs.DrainEvents.{drain_events}
use Rattle.ch_protocol.specs.Invariant.{IsSound}
use Rattle.ch_protocol_laws.proofs.Sound.{sound}
use Rattle.ch_protocol_laws.proofs.DrainEvents.{run_append, run_drain}
use Rattle.ch_protocol_laws.proofs.Ways.{IsReady}
use Rattle.ch_protocol_laws.proofs.Drained.{ready_after}

-- some events lead from s to t
abbrev pub LeadsTo : Config → State → State → Type 0
LeadsTo c s t = (events : List Event) × (run c events s ≡ t)

pub leads_on : (c : Config) (s t u : State) → LeadsTo c s t → LeadsTo c t u → LeadsTo c s u
leads_on c s t u a b = (a.0 ++ b.0, run_append c a.0 b.0 s ∙ (ap (run c b.0) a.1 ∙ b.1))

pub leads_step : (c : Config) (s : State) (e : Event) → LeadsTo c s (step c s e)
leads_step c s e = (e ∷ [], refl)

pub leads_drain : (c : Config) (s : State) → LeadsTo c s (drain c s)
leads_drain c s = (drain_events c s, run_drain c s)

pub reached_step : (c : Config) (s : State) (e : Event) → IsReached c s → IsReached c (step c s e)
reached_step c s e r = leads_on c (start c) s (step c s e) r (leads_step c s e)

pub reached_drain : (c : Config) (s : State) → IsReached c s → IsReached c (drain c s)
reached_drain c s r = leads_on c (start c) s (drain c s) r (leads_drain c s)

pub reached_sound : (c : Config) (s : State) → IsReached c s → IsSound c s
reached_sound c s r = subst (λ (t : State). IsSound c t) r.1 (sound c r.0)

pub reached_ready : (c : Config) (s : State) → 0 < workers c → 1 ≤ c.window → IsReached c s → IsReady c s
reached_ready c s some room r = subst (λ (t : State). IsReady c t) r.1 (ready_after c some room r.0)
