-- The closing rounds, which confirm each pass.
use Rattle.std.specs.Prelude.{◌≡◌, ◌<◌, ◌⊎◌, ℕ, zero, suc, ◌+◌, ◌*◌, true, if◌then◌else◌, List, length, map}
use Rattle.ch_protocol.specs.Sets.{numbers_from}
use Rattle.ch_protocol.specs.Sender.{open_numbers}
use Rattle.ch_protocol.specs.Machine.{Config, State, Event, size, workers, total, passes, can_send, step, run, stopped}
use Rattle.ch_protocol.specs.Machine.How.{Take}
use Rattle.ch_protocol.specs.Machine.Event.{Send, Resend, Up, Down, Back}

unfoldable pub repeat : (State → State) → ℕ → State → State
repeat f zero s = s
repeat f (suc n) s = repeat f n (f s)

-- one resend for each number that is sent and unacknowledged when the turn begins, ascending
abbrev pub resend_events : State → ℕ → List Event
resend_events s w = map (λ place. Resend w place) (numbers_from 0 (length (open_numbers (s.next w) (s.acked w))))

abbrev pub resends : Config → State → ℕ → State
resends c s w = run c (resend_events s w) s

-- sends while one puts something on the link, at most so many
unfoldable pub sends : Config → ℕ → ℕ → State → State
sends c w zero s = s
sends c w (suc most) s = if can_send c s w then sends c w most (step c s (Send w)) else s

-- a worker's turn. It has no more to send than its rows and its Fin, so the bound never ends its sends
abbrev pub take_turn : Config → ℕ → State → State
take_turn c w s = sends c w (suc (size c w)) (resends c s w)

-- the turns of so many workers, from the first on
unfoldable pub turns : Config → ℕ → ℕ → State → State
turns c first zero s = s
turns c first (suc count) s = turns c (suc first) count (take_turn c first s)

-- each packet that stands on a link is delivered, from the front
abbrev pub empty_up : Config → State → State
empty_up c s = repeat (λ t. step c t (Up 0 Take)) (length s.up) s

abbrev pub empty_down : Config → State → State
empty_down c s = repeat (λ t. step c t (Down 0 Take)) (length s.down) s

abbrev pub empty_back : Config → State → State
empty_back c s = repeat (λ t. step c t (Back 0 Take)) (length s.back) s

unfoldable pub round : Config → State → State
round c s = empty_back c (empty_down c (empty_up c (turns c 0 (workers c) s)))

-- how many rounds a pass takes at most
abbrev pub most_rounds : Config → ℕ
most_rounds c = total c + workers c + 1

-- rounds until the run stops: a round of a run that has stopped does nothing
abbrev pub drain : Config → State → State
drain c s = repeat (round c) (passes c * most_rounds c) s

-- the pass is over: a later one has begun, or the run has stopped
abbrev pub IsPast : Config → ℕ → State → Type 0
IsPast c pass s = (pass < s.pass) ⊎ (stopped c s ≡ true)
