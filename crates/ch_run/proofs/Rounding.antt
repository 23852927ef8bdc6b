-- The events of a round, link after link.
use Rattle.std.proofs.Common.{◌≡◌, List, [], ◌∷◌, ◌++◌, length, replicate, refl, ap, ◌∙◌}
use Rattle.ch_protocol.specs.Machine.{Config, State, Event, run, workers}
use Rattle.ch_protocol.specs.Machine.Event.{Up, Down}
use Rattle.ch_protocol.specs.Machine.How.{Take}
use Rattle.ch_protocol.specs.Drain.{empty_down, empty_up, turns}
use Rattle.ch_protocol.specs.DrainEvents.{back_events, turns_events}
use Rattle.ch_protocol_laws.proofs.DrainEvents.{run_append, run_replicate, run_turns}
use Rattle.ch_run.specs.Making.{Makes, Noting, round_of}
use Rattle.ch_run.proofs.Leading.{then_makes}

appended : {X : Type 0} (xs ys zs : List X) → (xs ++ ys) ++ zs ≡ xs ++ (ys ++ zs)
appended [] ys zs = refl
appended (x ∷ xs) ys zs = ap (λ us. x ∷ us) (appended xs ys zs)

-- the events up to the end of the turns, and then with the links up and down
abbrev pub after_turns : Config → State → List Event
after_turns c s = turns_events c 0 (workers c) s

abbrev pub turned : Config → State → State
turned c s = turns c 0 (workers c) s

abbrev pub ups : Config → State → List Event
ups c s = after_turns c s ++ replicate (length (turned c s).up) (Up 0 Take)

abbrev pub downs : Config → State → List Event
downs c s = ups c s ++ replicate (length (empty_up c (turned c s)).down) (Down 0 Take)

run_ups : (c : Config) (s : State) → run c (ups c s) s ≡ empty_up c (turned c s)
run_ups c s =
    run_append c (after_turns c s) (replicate (length (turned c s).up) (Up 0 Take)) s
    ∙ (ap (run c (replicate (length (turned c s).up) (Up 0 Take))) (run_turns c 0 (workers c) s) ∙ run_replicate c (length (turned c s).up) (Up 0 Take) (turned c s))

run_downs : (c : Config) (s : State) → run c (downs c s) s ≡ empty_down c (empty_up c (turned c s))
run_downs c s =
    run_append c (ups c s) (replicate (length (empty_up c (turned c s)).down) (Down 0 Take)) s
    ∙ (ap (run c (replicate (length (empty_up c (turned c s)).down) (Down 0 Take))) (run_ups c s) ∙ run_replicate c (length (empty_up c (turned c s)).down) (Down 0 Take) (empty_up c (turned c s)))

pub to_ups : (x y z : Noting) → Makes x y (λ c s. turns_events c 0 (workers c) s) → Makes y z (λ c s. replicate (length s.up) (Up 0 Take)) → Makes x z ups
to_ups x y z a b =
    then_makes x y z after_turns (λ c s. replicate (length s.up) (Up 0 Take)) ups a b
    (λ c s. ap (λ (t : State). after_turns c s ++ replicate (length t.up) (Up 0 Take)) (run_turns c 0 (workers c) s))

pub to_downs : (x y z : Noting) → Makes x y ups → Makes y z (λ c s. replicate (length s.down) (Down 0 Take)) → Makes x z downs
to_downs x y z a b =
    then_makes x y z ups (λ c s. replicate (length s.down) (Down 0 Take)) downs a b
    (λ c s. ap (λ (t : State). ups c s ++ replicate (length t.down) (Down 0 Take)) (run_ups c s))

pub to_backs : (x y z : Noting) → Makes x y downs → Makes y z (λ c s. back_events c (length s.back) s) → Makes x z (λ c s. round_of c s)
to_backs x y z a b =
    then_makes x y z downs (λ c s. back_events c (length s.back) s) (λ c s. round_of c s) a b
    (λ c s.
    let t = empty_down c (empty_up c (turned c s)) in
    let us = replicate (length (turned c s).up) (Up 0 Take) in
    let ds = replicate (length (empty_up c (turned c s)).down) (Down 0 Take) in
    let bs = back_events c (length t.back) t in
    ap (λ (u : State). downs c s ++ back_events c (length u.back) u) (run_downs c s)
    ∙ (appended (ups c s) ds bs ∙ appended (after_turns c s) us (ds ++ bs)))
