-- What a schedule comes to.
use Rattle.std.proofs.Common.{◌≡◌, ◌≢◌, ◌<◌, ◌≤◌, Bool, true, false, not, eqb, eq-eqb, List, [], filter, refl, ap, subst, arith}
use Rattle.std.proofs.lemmas.Bool.{cond-true, and_from, true_from_ne_false}
use Rattle.ch_lists.specs.Members.{In}
use Rattle.ch_lists.proofs.Members.{In-filter_from, In-map_from}
use Rattle.ch_protocol.specs.Sets.{numbers_from}
use Rattle.ch_protocol.specs.Sender.{is_done}
use Rattle.ch_protocol.specs.Machine.{Config, State, Event, size, workers, passes, confirmed, stopped, run, start, IsReached}
use Rattle.ch_protocol.specs.Drain.{drain}
use Rattle.ch_protocol.specs.Outcome.{OpenFlow, outcome, report, open_flow, after_schedule}
use Rattle.ch_protocol.specs.Outcome.Outcome.{Done, Open}
use Rattle.ch_protocol.proofs.Lists.{In-numbers_from}
use Rattle.ch_protocol.proofs.Tests.{either_way, all_below-from}
use Rattle.ch_protocol_laws.proofs.Reached.{reached_drain, reached_ready}
use Rattle.ch_protocol_laws.proofs.Drained.{drains_after}

pub reached_schedule : (c : Config) (events : List Event) (drains : Bool) → IsReached c (after_schedule c events drains)
reached_schedule c events drains = either_way (IsReached c) drains _ _ (λ t. reached_drain c (run c events (start c)) (events, refl)) (λ f. (events, refl))

pub drained_done : (c : Config) (events : List Event) → 0 < workers c → 1 ≤ c.window → outcome c (after_schedule c events true) ≡ Done (after_schedule c events true).counts
drained_done c events some room =
    let s = drain c (run c events (start c)) in
    cond-true (stopped c s) (Done s.counts) (Open (report c s)) (drains_after c some room (run c events (start c)) (reached_ready c (run c events (start c)) some room (events, refl)))

-- where nothing in a list fails a test, each below the bound passes
none_fails : (c : Config) (s : State) → report c s ≡ [] → confirmed c s ≡ true
none_fails c s e = all_below-from (λ w. is_done (size c w) (s.acked w)) (workers c) (λ w lt. true_from_ne_false (is_done (size c w) (s.acked w)) (λ f.
    subst (λ (l : List OpenFlow). In (open_flow c s w) l) e
    (In-map_from (open_flow c s) w (filter (λ v. not (is_done (size c v) (s.acked v))) (numbers_from 0 (workers c)))
    (In-filter_from (λ v. not (is_done (size c v) (s.acked v))) w (numbers_from 0 (workers c)) (In-numbers_from w 0 (workers c) (omega arith) (omega arith)) (ap not f)))))

pub open_named : (c : Config) (s : State) → 0 < workers c → 1 ≤ c.window → IsReached c s → stopped c s ≡ false → report c s ≢ []
open_named c s some room r f e =
    let all = none_fails c s e in
    let q = reached_ready c s some room r in
    let last : s.pass ≡ passes c = omega (arith, q.turned all, q.sound.in_range) in
    cc (f, and_from (eqb s.pass (passes c)) (confirmed c s) (eq-eqb s.pass (passes c) last) all)
