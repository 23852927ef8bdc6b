-- Drain as a list of events.
use Rattle.std.specs.Prelude.{◌≡◌, ℕ, zero, suc, ◌*◌, true, false, if◌then◌else◌, List, [], ◌∷◌, ◌++◌, length, replicate}
use Rattle.ch_protocol.specs.Machine.{Config, State, Event, size, workers, passes, can_send, step, stopped}
use Rattle.ch_protocol.specs.Machine.How.{Take}
use Rattle.ch_protocol.specs.Machine.Event.{Send, Up, Down, Back}
use Rattle.ch_protocol.specs.Fates.{event_fate, is_made}
use Rattle.ch_protocol.specs.Drain.{resend_events, resends, take_turn, turns, round, empty_up, empty_down, most_rounds}

-- sends while one puts something on the link
unfoldable pub send_events : Config → ℕ → ℕ → State → List Event
send_events c w zero s = []
send_events c w (suc most) s = if can_send c s w then Send w ∷ send_events c w most (step c s (Send w)) else []

abbrev pub turn_events : Config → ℕ → State → List Event
turn_events c w s = resend_events s w ++ send_events c w (suc (size c w)) (resends c s w)

unfoldable pub turns_events : Config → ℕ → ℕ → State → List Event
turns_events c first zero s = []
turns_events c first (suc count) s = turn_events c first s ++ turns_events c (suc first) count (take_turn c first s)

-- the link back is emptied until the run stops
unfoldable pub back_events : Config → ℕ → State → List Event
back_events c zero s = []
back_events c (suc n) s = if stopped c s then [] else Back 0 Take ∷ back_events c n (step c s (Back 0 Take))

-- after the turns the links are emptied from the front, one after the other
abbrev pub links_events : Config → State → List Event
links_events c s =
    replicate (length s.up) (Up 0 Take)
    ++ (replicate (length (empty_up c s).down) (Down 0 Take)
    ++ back_events c (length (empty_down c (empty_up c s)).back) (empty_down c (empty_up c s)))

-- a round of a run that has stopped has no event
abbrev pub round_events : Config → State → List Event
round_events c s = if stopped c s then [] else turns_events c 0 (workers c) s ++ links_events c (turns c 0 (workers c) s)

unfoldable pub rounds_events : Config → ℕ → State → List Event
rounds_events c zero s = []
rounds_events c (suc n) s = round_events c s ++ rounds_events c n (round c s)

-- the events of drain, in order
abbrev pub drain_events : Config → State → List Event
drain_events c s = rounds_events c (passes c * most_rounds c) s

-- each event comes before the stop, and does something
abbrev pub AreMade : Config → List Event → State → Type 0
AreMade c [] s = Unit {0}
AreMade c (e ∷ es) s = (stopped c s ≡ false) × (is_made (event_fate c s e) ≡ true) × AreMade c es (step c s e)
