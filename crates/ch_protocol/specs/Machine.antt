-- The protocol as a pure machine: its state, its events, and what each event makes of a state.
use Rattle.std.specs.Prelude.{◌≡◌, ℕ, suc, ◌+◌, ◌==◌, nat_lt, min, Bool, true, false, not, ◌&&◌, if◌then◌else◌, List, [], ◌∷◌, ◌++◌, length, map, filter, remove, slice_get, slice_index_or, sum_by, Option, Some, None}
use Rattle.ch_protocol.specs.Sets.{all_below, set_at}
use Rattle.ch_protocol.specs.Packets.{Part, Name, Packet, Ack}
use Rattle.ch_protocol.specs.Packets.Origin.{Switch, Master}
use Rattle.ch_protocol.specs.Sender.{least_open, may_send, open_at, acknowledge, is_current, cut_to_least, is_done, first_number, none_acked}
use Rattle.ch_protocol.specs.Forwarder.{none_expected, fate_of, expect_after, expect_from}
use Rattle.ch_protocol.specs.Receiver.{collect}
use Rattle.ch_protocol.specs.declared.fate.Fate.{Fate}
use Rattle.ch_protocol.specs.declared.fate.Fate.TheVariants.{Dropped, Pruned, Forwarded, Passed}
use Rattle.ch_cover.specs.Rows.{Policy, Row}

-- What stays the same in a run: each worker's part, how far a worker may send beyond its least unacknowledged number,
-- whether the kind of the query has two passes, and the policy
pub record Config : Type 0 where
  pub parts : List Part
  pub window : ℕ
  pub two_passes : Bool
  pub prunes : Policy

-- A row that the switch processed: its name, the epoch in which it was, and whether it was pruned
pub record Entry : Type 0 where
  pub name : Name
  pub epoch : ℕ
  pub pruned : Bool

pub record Counts : Type 0 where
  pub rows : ℕ
  pub sends : ℕ
  pub pruned : ℕ
  pub forwarded : ℕ
  pub steps : ℕ

-- pass, epoch     the current ones; the epoch counts the restarts of the switch
-- next, acked     of each worker in the current pass: the number that it sends next, and the acknowledged numbers
-- expected        of each pass and worker, the number that the switch processes next
-- processed       the rows that the switch processed, the newest first
-- received        the names that the master received, each once, the newest first
-- up, down, back  the links from the workers to the switch, from it to the master, and of the acknowledgements to the
--                 workers; a packet goes on at the end, and place 0 is the oldest
pub record State : Type 0 where
  pub pass : ℕ
  pub epoch : ℕ
  pub next : ℕ → ℕ
  pub acked : ℕ → ℕ → Bool
  pub expected : ℕ → ℕ → ℕ
  pub processed : List Entry
  pub received : List Name
  pub up : List Packet
  pub down : List Packet
  pub back : List Ack
  pub counts : Counts

-- a packet is delivered, or delivered and left where it is, or removed undelivered
pub data How : Type 0 where
  Take : How
  Keep : How
  Lose : How

pub data Event : Type 0 where
  Send : (worker : ℕ) → Event
  Resend : (worker : ℕ) → (place : ℕ) → Event
  Up : (place : ℕ) → How → Event
  Down : (place : ℕ) → How → Event
  Back : (place : ℕ) → How → Event
  Inject : Event
  Restart : Event

-- the rows of a part as the switch sees them
abbrev pub rows_in : Part → List Row
rows_in part = map (λ t. record { side = part.side; bit = t.bit; words = t.words }) part.tuples

-- the rows of each worker
abbrev pub tables : Config → List (List Row)
tables c = map rows_in c.parts

abbrev pub workers : Config → ℕ
workers c = length (tables c)

abbrev pub rows_of : Config → ℕ → List Row
rows_of c w = slice_index_or (tables c) w []

-- the number of rows of a worker
abbrev pub size : Config → ℕ → ℕ
size c w = length (rows_of c w)

-- the number of rows of all workers
abbrev pub total : Config → ℕ
total c = sum_by (λ rows. length rows) (tables c)

abbrev pub passes : Config → ℕ
passes c = if c.two_passes then 2 else 1

-- stands where a name names no row
abbrev pub no_row : Row
no_row = record { side = 0; bit = false; words = [] }

-- the row that a name names
abbrev pub row_at : Config → Name → Row
row_at c x = slice_index_or (rows_of c x.worker) x.number no_row

abbrev pub is_fin : Config → Name → Bool
is_fin c x = x.number == size c x.worker

-- each worker's Fin is acknowledged
abbrev pub confirmed : Config → State → Bool
confirmed c s = all_below (λ w. is_done (size c w) (s.acked w)) (workers c)

-- the last pass is confirmed
abbrev pub stopped : Config → State → Bool
stopped c s = (s.pass == passes c) && confirmed c s

-- the greatest count: 2 ^ 64 - 1
abbrev pub greatest_count : ℕ
greatest_count = 18446744073709551615

-- a count that has reached the greatest stays there
abbrev pub one_more : ℕ → ℕ
one_more n = min (n + 1) greatest_count

-- a worker puts one of its numbers on the link up, with the present epoch
abbrev pub go_up : State → ℕ → ℕ → State
go_up s w k = record s {
  up = s.up ++ record { name = record { pass = s.pass; worker = w; number = k }; epoch = s.epoch } ∷ [];
  counts = record s.counts { sends = one_more s.counts.sends };
}

abbrev pub send_next : State → ℕ → State
send_next s w = go_up (record s { next = set_at w (suc (s.next w)) s.next }) w (s.next w)

abbrev pub can_send : Config → State → ℕ → Bool
can_send c s w = may_send (size c w) c.window (s.next w) (s.acked w)

abbrev pub send : Config → State → ℕ → State
send c s w = if nat_lt w (workers c) && can_send c s w then send_next s w else s

abbrev pub resend_this : State → ℕ → Option ℕ → State
resend_this s w None = s
resend_this s w (Some k) = go_up s w k

abbrev pub resend : Config → State → ℕ → ℕ → State
resend c s w place = if nat_lt w (workers c) then resend_this s w (open_at (s.next w) (s.acked w) place) else s

-- the switch puts a packet on the link down, with the present epoch
abbrev pub go_down : State → Name → State
go_down s x = record s {
  down = s.down ++ record { name = x; epoch = s.epoch } ∷ [];
  counts = record s.counts { forwarded = one_more s.counts.forwarded };
}

-- the switch acknowledges a row that it pruned
abbrev pub prune : State → Name → State
prune s x = record s {
  back = s.back ++ record { origin = Switch; name = x; epoch = s.epoch } ∷ [];
  counts = record s.counts { pruned = one_more s.counts.pruned };
}

-- the rows that the switch processed in an epoch
abbrev pub entries_of : ℕ → List Entry → List Entry
entries_of epoch entries = filter (λ y. y.epoch == epoch) entries

-- a row with its pass, as the policy sees it
abbrev pub seen : Config → Name → ℕ × Row
seen c x = (x.pass, row_at c x)

-- in a kind of two passes the switch keeps each row once it was restarted
abbrev pub keeps_all : Config → ℕ → Bool
keeps_all c epoch = c.two_passes && nat_lt 0 epoch

-- the verdict on a row: the policy's after the rows that the switch processed in the epoch, unless it keeps each row
abbrev pub verdict : Config → ℕ → List Entry → Name → Bool
verdict c epoch before x = if keeps_all c epoch then false else c.prunes (map (λ y. seen c y.name) (entries_of epoch before)) (seen c x)

-- the fate of a packet that meets the switch: a Fin is never pruned
abbrev pub fate_at : Config → State → Name → Fate
fate_at c s x = fate_of (s.expected x.pass x.worker) x.number (not (is_fin c x) && verdict c s.epoch s.processed x)

-- the processed rows after a packet with this fate, a Fin or a row: one more where it is an accepted row
abbrev pub noted : Bool → Fate → ℕ → Name → List Entry → List Entry
noted fin Dropped epoch x processed = processed
noted fin Pruned epoch x processed = record { name = x; epoch = epoch; pruned = true } ∷ processed
noted fin Forwarded epoch x processed = if fin then processed else record { name = x; epoch = epoch; pruned = false } ∷ processed
noted fin Passed epoch x processed = processed

-- where a packet with this fate goes
abbrev pub go_on : Fate → State → Name → State
go_on Dropped s x = s
go_on Pruned s x = prune s x
go_on Forwarded s x = go_down s x
go_on Passed s x = go_down s x

-- what a packet with this fate, a Fin or a row, makes of the state
abbrev pub follow : Bool → Fate → State → Name → State
follow fin fate s x = go_on fate (record s { expected = expect_after fate x.pass x.worker s.expected; processed = noted fin fate s.epoch x s.processed }) x

-- a packet meets the switch
abbrev pub meet : Config → State → Name → State
meet c s x = follow (is_fin c x) (fate_at c s x) s x

-- the master receives a packet, and acknowledges it with the packet's own epoch, whether it is new or not
abbrev pub receive : State → Packet → State
receive s m = record s {
  received = collect s.received m.name;
  back = s.back ++ record { origin = Master; name = m.name; epoch = m.epoch } ∷ [];
}

-- a worker learns of an acknowledgement, if it is of the current pass and epoch
abbrev pub learn : State → Ack → State
learn s a =
    if is_current s.pass s.epoch a.name.pass a.epoch
    then record s { acked = set_at a.name.worker (acknowledge a.name.number (s.acked a.name.worker)) s.acked }
    else s

-- the packet at a place of a link, if one is there
abbrev pub meet_at : Config → State → ℕ → How → Option Packet → State
meet_at c s i how None = s
meet_at c s i Take (Some m) = meet c (record s { up = remove s.up i }) m.name
meet_at c s i Keep (Some m) = meet c s m.name
meet_at c s i Lose (Some m) = record s { up = remove s.up i }

abbrev pub receive_at : State → ℕ → How → Option Packet → State
receive_at s i how None = s
receive_at s i Take (Some m) = receive (record s { down = remove s.down i }) m
receive_at s i Keep (Some m) = receive s m
receive_at s i Lose (Some m) = record s { down = remove s.down i }

abbrev pub learn_at : State → ℕ → How → Option Ack → State
learn_at s i how None = s
learn_at s i Take (Some a) = learn (record s { back = remove s.back i }) a
learn_at s i Keep (Some a) = learn s a
learn_at s i Lose (Some a) = record s { back = remove s.back i }

-- The switch loses its registers and a new epoch begins. Each worker is told: it keeps its acknowledged numbers below
-- the least unacknowledged one, which the switch expects next in the current pass
abbrev pub restart : Config → State → State
restart c s = record s {
  epoch = suc s.epoch;
  acked = (λ w. cut_to_least (size c w) (s.acked w));
  expected = expect_from (workers c) s.pass (λ w. least_open (size c w) (s.acked w)) s.expected;
}

-- what an event does by itself
abbrev pub effect : Config → State → Event → State
effect c s (Send w) = send c s w
effect c s (Resend w place) = resend c s w place
effect c s (Up i how) = meet_at c s i how (slice_get s.up i)
effect c s (Down i how) = receive_at s i how (slice_get s.down i)
effect c s (Back i how) = learn_at s i how (slice_get s.back i)
effect c s Inject = s
effect c s Restart = restart c s

abbrev pub begin_pass : State → State
begin_pass s = record s { pass = suc s.pass; next = (λ w. first_number); acked = (λ w. none_acked) }

-- the next pass begins where the current one is confirmed, unless it is the last
abbrev pub change_pass : Config → State → State
change_pass c s = if confirmed c s && nat_lt s.pass (passes c) then begin_pass s else s

abbrev pub count_step : State → State
count_step s = record s { counts = record s.counts { steps = one_more s.counts.steps } }

-- the state after an event: a run that has stopped does nothing and counts nothing
unfoldable pub step : Config → State → Event → State
step c s e = if stopped c s then s else change_pass c (count_step (effect c s e))

abbrev pub run : Config → List Event → State → State
run c [] s = s
run c (e ∷ es) s = run c es (step c s e)

abbrev pub start : Config → State
start c = record {
  pass = 1;
  epoch = 0;
  next = (λ w. first_number);
  acked = (λ w. none_acked);
  expected = none_expected;
  processed = [];
  received = [];
  up = [];
  down = [];
  back = [];
  counts = record { rows = total c; sends = 0; pruned = 0; forwarded = 0; steps = 0 };
}

-- some list of events leads from the start to the state
abbrev pub IsReached : Config → State → Type 0
IsReached c s = (events : List Event) × (run c events (start c) ≡ s)
