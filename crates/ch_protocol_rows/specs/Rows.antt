-- Worked schedules: small tables, the events of a schedule, and what the run comes to.
use Rattle.std.specs.Prelude.{◌≡◌, ℕ, ◌==◌, nat_le, pos, nat_abs, slice_index_or, Bool, true, false, not, filter, ◌&&◌, ◌||◌, if◌then◌else◌, List, [], ◌∷◌, ◌++◌, map, reverse, replicate, sum_by}
use Rattle.std.specs.List.{list_any}
use Rattle.ch_protocol.specs.Sets.{numbers_from}
use Rattle.ch_cover.specs.Rows.{Row, Policy}
use Rattle.ch_cover.specs.Samples.{by_bit}
use Rattle.ch_protocol.specs.Packets.{Tuple, Part, Name}
use Rattle.ch_protocol.specs.Sender.{acknowledged}
use Rattle.ch_protocol.specs.Machine.{Config, Counts, State, Event, size, workers, start, step}
use Rattle.ch_protocol.specs.Machine.How.{Take, Keep, Lose}
use Rattle.ch_protocol.specs.Machine.Event.{Send, Resend, Up, Down, Back, Inject, Restart}
use Rattle.ch_protocol.specs.Outcome.{OpenFlow, Outcome, outcome, after_schedule}
use Rattle.ch_protocol.specs.Outcome.Outcome.{Done, Open}
use Rattle.ch_protocol.specs.Fates.{fates}
use Rattle.ch_protocol.specs.DrainEvents.{drain_events}
use Rattle.ch_protocol.specs.Received.{names_arrived}
use Rattle.ch_protocol.specs.declared.fate.NoteFate.TheVariants.{Nothing, Sent, Dropped, Pruned, Forwarded, Passed, New, Old, Taken, Ignored, Lost, Injected, Restarted}

-- rows, sends, pruned, forwarded, steps
abbrev pub counted : ℕ → ℕ → ℕ → ℕ → ℕ → Counts
counted r s p f n = record { rows = r; sends = s; pruned = p; forwarded = f; steps = n }

-- pass, worker, number
abbrev pub at : ℕ → ℕ → ℕ → Name
at p w k = record { pass = p; worker = w; number = k }

-- pass, worker, acknowledged, of, unacknowledged
abbrev pub flow : ℕ → ℕ → ℕ → ℕ → List ℕ → OpenFlow
flow p w a n ks = record { pass = p; worker = w; acknowledged = a; of = n; unacknowledged = ks }

-- What a run comes to after a schedule: its outcome, its counts, how many numbers of the current pass are acknowledged to
-- each worker, and what the master received, the oldest first
pub record Comes (c : Config) (s : State) (result : Outcome) (counts : Counts) (acks : List ℕ) (names : List Name) : Type 0 where
  pub outcome : outcome c s ≡ result
  pub counted : s.counts ≡ counts
  pub acked : map (λ w. acknowledged (size c w) (s.acked w)) (numbers_from 0 (workers c)) ≡ acks
  pub received : reverse s.received ≡ names

-- the schedule ends in drain, and the run is done
abbrev pub Drains : Config → List Event → Counts → List ℕ → List Name → Type 0
Drains c events counts acks names = Comes c (after_schedule c events true) (Done counts) counts acks names

-- the schedule has no drain, and the run is open
abbrev pub Stays : Config → List Event → List OpenFlow → Counts → List ℕ → List Name → Type 0
Stays c events flows counts acks names = Comes c (after_schedule c events false) (Open flows) counts acks names

-- the schedule has no drain, and the run is done
abbrev pub Ends : Config → List Event → Counts → List ℕ → List Name → Type 0
Ends c events counts acks names = Comes c (after_schedule c events false) (Done counts) counts acks names

-- Tables

-- a row whose bit is set or not, with some words
abbrev pub tuple : Bool → List ℕ → Tuple
tuple bit words = record { bit = bit; words = map pos words }

abbrev pub part : ℕ → List (List ℕ) → Part
part side rows = record { side = side; tuples = map (tuple true) rows }

-- a word as a number, or 0 where it isn't there
abbrev pub word : Row → ℕ → ℕ
word r k = nat_abs (slice_index_or r.words k (pos 0))

-- the row's first word is the key
abbrev pub same_key : ℕ × Row → ℕ × Row → Bool
same_key x y = word x.1 0 == word y.1 0

-- Policies

-- a row is pruned where some row before it has its key
abbrev pub by_any_key : Policy
by_any_key before r = list_any (same_key r) before

-- a row is pruned where the row just before it has its key
abbrev pub by_last_key : Policy
by_last_key [] r = false
by_last_key (x ∷ before) r = same_key x r

-- the first pass sums the second words, and the second prunes each row where the sum isn't above the bound
abbrev pub by_sum : ℕ → Policy
by_sum bound before r = (r.0 == 1) || nat_le (sum_by (λ x. if x.0 == 1 then word x.1 1 else 0) before) bound

-- some row of the first pass of the other side has the row's key
abbrev pub has_partner : List (ℕ × Row) → ℕ × Row → Bool
has_partner before r = list_any (λ x. (x.0 == 1) && (not (x.1.side == r.1.side) && same_key x r)) before

abbrev pub by_partner : Policy
by_partner before r = (r.0 == 1) || not (has_partner before r)

-- as by_partner, and a row of side 1 is also pruned where the last row of side 1 with a partner has its key
abbrev pub by_partner_once : Policy
by_partner_once before r =
    (r.0 == 1) || (not (has_partner before r) || ((r.1.side == 1) && by_last_key (filter (λ x. (x.0 == 2) && ((x.1.side == 1) && has_partner before x)) before) r))

-- Configurations

abbrev pub one_pass : Policy → List Part → Config
one_pass prunes parts = record { parts = parts; window = 32; two_passes = false; prunes = prunes }

abbrev pub two_passes : Policy → List Part → Config
two_passes prunes parts = record { parts = parts; window = 32; two_passes = true; prunes = prunes }

-- the numbers 3, 9, 5, of which those above 4 have their bit set
abbrev pub three_numbers : Config
three_numbers = one_pass by_bit (record { side = 0; tuples = tuple false (3 ∷ []) ∷ tuple true (9 ∷ []) ∷ tuple true (5 ∷ []) ∷ [] } ∷ [])

abbrev pub nine_three_five : Config
nine_three_five = one_pass by_bit (record { side = 0; tuples = tuple true (9 ∷ []) ∷ tuple false (3 ∷ []) ∷ tuple true (5 ∷ []) ∷ [] } ∷ [])

-- one part with one row, and two parts with one row each
abbrev pub one_nine : Policy → Config
one_nine prunes = one_pass prunes (part 0 ((9 ∷ []) ∷ []) ∷ [])

abbrev pub two_fives : Config
two_fives = one_pass by_any_key (part 0 ((5 ∷ []) ∷ []) ∷ part 0 ((5 ∷ []) ∷ []) ∷ [])

abbrev pub two_nines : Config
two_nines = one_pass by_bit (part 0 ((9 ∷ []) ∷ (9 ∷ []) ∷ []) ∷ [])

-- one part without a row, and one whose row has no bit set
abbrev pub no_rows : Config
no_rows = one_pass by_bit (part 0 [] ∷ [])

abbrev pub one_pruned : Config
one_pruned = one_pass by_bit (record { side = 0; tuples = tuple false (3 ∷ []) ∷ [] } ∷ [])

-- rows of a key and a value, whose sum is to be above a bound
abbrev pub summed : ℕ → List (List ℕ) → Config
summed bound rows = two_passes (by_sum bound) (part 0 rows ∷ [])

abbrev pub six_four_one : List (List ℕ)
six_four_one = (1 ∷ 6 ∷ []) ∷ (1 ∷ 4 ∷ []) ∷ (2 ∷ 1 ∷ []) ∷ []

-- the keys 1, 1, 2 on side 0, and 1, 1, 3 on side 1
abbrev pub two_tables : Policy → List ℕ → List ℕ → Config
two_tables prunes left right = two_passes prunes (part 0 (map (λ k. k ∷ []) left) ∷ part 1 (map (λ k. k ∷ []) right) ∷ [])

-- One pass

abbrev pub FilterEndToEnd : Type 0
FilterEndToEnd = Drains three_numbers [] (counted 3 4 1 3 15) (4 ∷ []) (at 1 0 1 ∷ at 1 0 2 ∷ at 1 0 3 ∷ [])

abbrev pub EmptyPart : Type 0
EmptyPart = Drains no_rows [] (counted 0 1 0 1 4) (1 ∷ []) (at 1 0 0 ∷ [])

abbrev pub TwoParts : Type 0
TwoParts = Drains (one_pass by_bit (record { side = 0; tuples = tuple false (3 ∷ []) ∷ tuple true (9 ∷ []) ∷ [] } ∷ part 0 ((5 ∷ []) ∷ []) ∷ [])) []
    (counted 3 5 1 4 19) (3 ∷ 2 ∷ []) (at 1 0 1 ∷ at 1 1 0 ∷ at 1 0 2 ∷ at 1 1 1 ∷ [])

-- number 1 comes first and is dropped; number 0 is pruned
abbrev pub ReorderedBeforeTheSwitch : Type 0
ReorderedBeforeTheSwitch = Drains three_numbers (Send 0 ∷ Send 0 ∷ Up 1 Take ∷ Up 0 Take ∷ []) (counted 3 6 1 4 21) (4 ∷ []) (at 1 0 0 ∷ at 1 0 1 ∷ at 1 0 2 ∷ at 1 0 3 ∷ [])

abbrev pub OpenRun : Type 0
OpenRun = Stays nine_three_five (Send 0 ∷ Up 0 Take ∷ []) (flow 1 0 0 4 (0 ∷ []) ∷ []) (counted 3 1 0 1 2) (0 ∷ []) []

abbrev pub OpenRunReceived : Type 0
OpenRunReceived = Stays nine_three_five (Send 0 ∷ Up 0 Take ∷ Down 0 Take ∷ []) (flow 1 0 0 4 (0 ∷ []) ∷ []) (counted 3 1 0 1 3) (0 ∷ []) (at 1 0 0 ∷ [])

-- a packet that is repeated is received once
abbrev pub repeated : List Event
repeated = Send 0 ∷ replicate 20 (Up 0 Keep) ++ Down 0 Take ∷ replicate 20 (Back 0 Keep)

abbrev pub Repeats : Type 0
Repeats = Drains (one_nine by_bit) repeated (counted 1 2 0 22 88) (2 ∷ []) (at 1 0 0 ∷ at 1 0 1 ∷ [])

-- and processed once: it isn't pruned as a repeat of itself
abbrev pub RepeatsOfAKey : Type 0
RepeatsOfAKey = Drains (one_nine by_any_key) repeated (counted 1 2 0 22 88) (2 ∷ []) (at 1 0 0 ∷ at 1 0 1 ∷ [])

abbrev pub OneCachedKey : Type 0
OneCachedKey = Drains (one_pass by_last_key (part 0 ((5 ∷ []) ∷ (5 ∷ []) ∷ (7 ∷ []) ∷ (5 ∷ []) ∷ []) ∷ [])) []
    (counted 4 5 1 4 19) (5 ∷ []) (at 1 0 0 ∷ at 1 0 2 ∷ at 1 0 3 ∷ at 1 0 4 ∷ [])

-- a packet is lost again and again
abbrev pub lost : List Event
lost = Send 0 ∷ Up 0 Lose ∷ Resend 0 0 ∷ Up 0 Lose ∷ Resend 0 0 ∷ Up 0 Lose ∷ Resend 0 0 ∷ Up 0 Lose ∷ []

abbrev pub LostFourTimes : Type 0
LostFourTimes = Stays (one_nine by_bit) lost (flow 1 0 0 2 (0 ∷ []) ∷ []) (counted 1 4 0 0 8) (0 ∷ []) []

abbrev pub LostThenDrained : Type 0
LostThenDrained = Drains (one_nine by_bit) lost (counted 1 6 0 2 16) (2 ∷ []) (at 1 0 0 ∷ at 1 0 1 ∷ [])

-- a packet that is delivered and kept stays at its place, before the one behind it
abbrev pub KeptAtItsPlace : Type 0
KeptAtItsPlace = Stays two_nines (Send 0 ∷ Send 0 ∷ Up 0 Keep ∷ Up 0 Take ∷ Up 0 Take ∷ Down 1 Take ∷ Back 0 Take ∷ [])
    (flow 1 0 1 3 (1 ∷ []) ∷ []) (counted 2 2 0 3 7) (1 ∷ []) (at 1 0 0 ∷ [])

abbrev pub InjectedByte : Type 0
InjectedByte = Drains three_numbers (Inject ∷ []) (counted 3 4 1 3 16) (4 ∷ []) (at 1 0 1 ∷ at 1 0 2 ∷ at 1 0 3 ∷ [])

-- The window

-- with a window of 1 the second row waits for the first acknowledgement, and the Fin for both
abbrev pub WindowOfOne : Type 0
WindowOfOne = Stays (record two_nines { window = 1 })
    (Send 0 ∷ Send 0 ∷ Resend 0 1 ∷ Up 0 Take ∷ Down 0 Take ∷ Back 0 Take ∷ Send 0 ∷ Send 0 ∷ []) (flow 1 0 1 3 (1 ∷ []) ∷ []) (counted 2 2 0 1 8) (1 ∷ []) (at 1 0 0 ∷ [])

-- the Fin isn't sent while a row is unacknowledged
abbrev pub FinWaits : Type 0
FinWaits = Stays two_nines (Send 0 ∷ Send 0 ∷ Send 0 ∷ Up 0 Take ∷ Down 0 Take ∷ Back 0 Take ∷ Send 0 ∷ []) (flow 1 0 1 3 (1 ∷ []) ∷ []) (counted 2 2 0 1 7) (1 ∷ []) (at 1 0 0 ∷ [])

-- the window counts from the least unacknowledged number, so an acknowledgement of a later one makes no room
abbrev pub WindowFromTheLeast : Type 0
WindowFromTheLeast = Stays (record (one_pass by_bit (part 0 (replicate 4 (9 ∷ [])) ∷ [])) { window = 2 })
    (Send 0 ∷ Send 0 ∷ Up 0 Take ∷ Up 0 Take ∷ Down 1 Take ∷ Back 0 Take ∷ Send 0 ∷ []) (flow 1 0 1 5 (0 ∷ []) ∷ []) (counted 4 2 0 2 7) (1 ∷ []) (at 1 0 1 ∷ [])

-- a worker or a place that isn't there
abbrev pub NothingThere : Type 0
NothingThere = Stays two_nines (Send 1 ∷ Resend 0 0 ∷ Resend 1 0 ∷ Up 0 Take ∷ Down 3 Keep ∷ Back 1 Lose ∷ []) (flow 1 0 0 3 [] ∷ []) (counted 2 0 0 0 6) (0 ∷ []) []

-- Restarts

-- the acknowledgement of worker 1 from before the restart is ignored
abbrev pub OldAckAfterARestart : Type 0
OldAckAfterARestart = Drains two_fives
    (Send 0 ∷ Send 1 ∷ Up 0 Take ∷ Up 0 Take ∷ Down 0 Lose ∷ Restart ∷ Resend 1 0 ∷ Up 0 Take ∷ Down 0 Lose ∷ Back 0 Take ∷ Resend 0 0 ∷ Up 0 Take ∷ Back 0 Take ∷ [])
    (counted 2 7 2 5 25) (2 ∷ 2 ∷ []) (at 1 0 1 ∷ at 1 1 0 ∷ at 1 1 1 ∷ [])

-- the master's acknowledgement has the packet's own epoch, so it is ignored where that has passed
abbrev pub OldPacketAfterARestart : Type 0
OldPacketAfterARestart = Stays two_nines (Send 0 ∷ Up 0 Take ∷ Restart ∷ Down 0 Take ∷ Back 0 Take ∷ []) (flow 1 0 0 3 (0 ∷ []) ∷ []) (counted 2 1 0 1 5) (0 ∷ []) (at 1 0 0 ∷ [])

-- number 1 is acknowledged and number 0 isn't, so a restart takes number 1 back
abbrev pub CutAtARestart : Type 0
CutAtARestart = Stays two_nines
    (Send 0 ∷ Send 0 ∷ Up 0 Take ∷ Up 0 Take ∷ Down 1 Take ∷ Back 0 Take ∷ Restart ∷ []) (flow 1 0 0 3 (0 ∷ 1 ∷ []) ∷ []) (counted 2 2 0 2 7) (0 ∷ []) (at 1 0 1 ∷ [])

-- before the restart it stays
abbrev pub BeforeTheCut : Type 0
BeforeTheCut = Stays two_nines
    (Send 0 ∷ Send 0 ∷ Up 0 Take ∷ Up 0 Take ∷ Down 1 Take ∷ Back 0 Take ∷ []) (flow 1 0 1 3 (0 ∷ []) ∷ []) (counted 2 2 0 2 6) (1 ∷ []) (at 1 0 1 ∷ [])

-- the switch expects the least unacknowledged number again, and drops the one above it
abbrev pub ExpectedAfterARestart : Type 0
ExpectedAfterARestart = Stays two_nines
    (Send 0 ∷ Send 0 ∷ Up 0 Take ∷ Up 0 Take ∷ Restart ∷ Resend 0 1 ∷ Up 0 Take ∷ []) (flow 1 0 0 3 (0 ∷ 1 ∷ []) ∷ []) (counted 2 3 0 2 7) (0 ∷ []) []

-- the switch expects the least unacknowledged number and not 0, and what is acknowledged below it stays
abbrev pub ExpectedFromTheLeast : Type 0
ExpectedFromTheLeast = Stays two_nines
    (Send 0 ∷ Up 0 Take ∷ Down 0 Take ∷ Back 0 Take ∷ Send 0 ∷ Restart ∷ Up 0 Take ∷ Down 0 Take ∷ Back 0 Take ∷ [])
    (flow 1 0 2 3 [] ∷ []) (counted 2 2 0 2 9) (2 ∷ []) (at 1 0 0 ∷ at 1 0 1 ∷ [])

-- a packet that was sent before the restart is met in the new epoch: the switch's acknowledgement has it
abbrev pub PrunedInTheNewEpoch : Type 0
PrunedInTheNewEpoch = Stays one_pruned (Send 0 ∷ Restart ∷ Up 0 Take ∷ Back 0 Take ∷ []) (flow 1 0 1 2 [] ∷ []) (counted 1 1 1 0 4) (1 ∷ []) []

-- and so does a Fin on the link down
abbrev pub FinInTheNewEpoch : Type 0
FinInTheNewEpoch = Ends no_rows (Send 0 ∷ Restart ∷ Up 0 Take ∷ Down 0 Take ∷ Back 0 Take ∷ []) (counted 0 1 0 1 5) (1 ∷ []) (at 1 0 0 ∷ [])

-- and a packet below the expected number, which goes on unprocessed
abbrev pub PassedInTheNewEpoch : Type 0
PassedInTheNewEpoch = Stays (one_nine by_bit)
    (Send 0 ∷ Restart ∷ Resend 0 0 ∷ Up 1 Take ∷ Down 0 Lose ∷ Up 0 Take ∷ Down 0 Take ∷ Back 0 Take ∷ [])
    (flow 1 0 1 2 [] ∷ []) (counted 1 2 0 2 8) (1 ∷ []) (at 1 0 0 ∷ [])

-- Two passes

-- A restart in pass 2 leaves what is expected in pass 1, so the Fin of pass 1 that stayed on the link passes. It stayed
-- there as the pass changed
abbrev pub RestartInPass2 : Type 0
RestartInPass2 = Stays (summed 10 ((1 ∷ 6 ∷ []) ∷ []))
    (Send 0 ∷ Up 0 Take ∷ Back 0 Take ∷ Send 0 ∷ Up 0 Keep ∷ Down 0 Take ∷ Back 0 Take ∷ Send 0 ∷ Restart ∷ Up 0 Take ∷ Up 0 Take ∷ Down 0 Take ∷ Down 0 Take ∷ Back 0 Take ∷ Back 0 Take ∷ [])
    (flow 2 0 1 2 [] ∷ []) (counted 1 3 1 3 15) (1 ∷ []) (at 1 0 1 ∷ at 2 0 0 ∷ [])

abbrev pub SumOnOneCell : Type 0
SumOnOneCell = Drains (summed 10 six_four_one) [] (counted 3 8 3 5 29) (4 ∷ []) (at 1 0 3 ∷ at 2 0 0 ∷ at 2 0 1 ∷ at 2 0 2 ∷ at 2 0 3 ∷ [])

-- row 0 of pass 1 is sent again, passed and received, and pass 2 prunes all
abbrev pub LostAckInPass1 : Type 0
LostAckInPass1 = Drains (summed 11 six_four_one) (Send 0 ∷ Up 0 Take ∷ Back 0 Lose ∷ []) (counted 3 9 6 3 30) (4 ∷ []) (at 1 0 0 ∷ at 1 0 3 ∷ at 2 0 3 ∷ [])

-- a row that pass 2 pruned is sent again and received
abbrev pub LostAckInPass2 : Type 0
LostAckInPass2 = Drains (summed 10 ((1 ∷ 6 ∷ []) ∷ (1 ∷ 4 ∷ []) ∷ []))
    (Send 0 ∷ Send 0 ∷ Up 0 Take ∷ Up 0 Take ∷ Back 0 Take ∷ Back 0 Take ∷ Send 0 ∷ Up 0 Take ∷ Down 0 Take ∷ Back 0 Take ∷ Send 0 ∷ Up 0 Take ∷ Back 0 Lose ∷ [])
    (counted 2 7 4 3 24) (3 ∷ []) (at 1 0 2 ∷ at 2 0 0 ∷ at 2 0 2 ∷ [])

-- after a restart nothing is pruned
abbrev pub RestartBeforeTwoPasses : Type 0
RestartBeforeTwoPasses = Drains (summed 10 six_four_one) (Restart ∷ []) (counted 3 8 0 8 33) (4 ∷ [])
    (at 1 0 0 ∷ at 1 0 1 ∷ at 1 0 2 ∷ at 1 0 3 ∷ at 2 0 0 ∷ at 2 0 1 ∷ at 2 0 2 ∷ at 2 0 3 ∷ [])

-- the acknowledgement of pass 1's only row comes again in pass 2, and is ignored
abbrev pub OldAckInPass2 : Type 0
OldAckInPass2 = Stays (summed 10 ((1 ∷ 6 ∷ []) ∷ []))
    (Send 0 ∷ Up 0 Take ∷ Back 0 Keep ∷ Send 0 ∷ Up 0 Take ∷ Down 0 Take ∷ Back 1 Take ∷ Back 0 Take ∷ []) (flow 2 0 0 2 [] ∷ []) (counted 1 2 1 1 8) (0 ∷ []) (at 1 0 1 ∷ [])

abbrev pub Join : Type 0
Join = Drains (two_tables by_partner (1 ∷ 1 ∷ 2 ∷ []) (1 ∷ 1 ∷ 3 ∷ [])) [] (counted 6 16 8 8 56) (4 ∷ 4 ∷ [])
    (at 1 0 3 ∷ at 1 1 3 ∷ at 2 0 0 ∷ at 2 0 1 ∷ at 2 1 0 ∷ at 2 1 1 ∷ at 2 0 3 ∷ at 2 1 3 ∷ [])

abbrev pub SemiJoin : Type 0
SemiJoin = Drains (two_tables by_partner_once (1 ∷ 2 ∷ 1 ∷ []) (1 ∷ 1 ∷ 3 ∷ [])) [] (counted 6 16 9 7 55) (4 ∷ 4 ∷ [])
    (at 1 0 3 ∷ at 1 1 3 ∷ at 2 0 0 ∷ at 2 0 2 ∷ at 2 1 0 ∷ at 2 0 3 ∷ at 2 1 3 ∷ [])

-- Counts

-- a count at its end stays there
abbrev pub CountAtItsEnd : Type 0
CountAtItsEnd = (step two_nines (record (start two_nines) { counts = counted 2 18446744073709551615 0 0 18446744073709551614 }) (Send 0)).counts ≡ counted 2 18446744073709551615 0 0 18446744073709551615

abbrev pub StepsAtTheirEnd : Type 0
StepsAtTheirEnd = (step two_nines (record (start two_nines) { counts = counted 2 0 0 0 18446744073709551615 }) Inject).counts ≡ counted 2 0 0 0 18446744073709551615

-- a run that has stopped does nothing and counts nothing
abbrev pub NothingAfterTheEnd : Type 0
NothingAfterTheEnd = Comes no_rows
    (step no_rows (after_schedule no_rows (Send 0 ∷ Up 0 Take ∷ Down 0 Take ∷ Back 0 Take ∷ []) false) Restart)
    (Done (counted 0 1 0 1 4)) (counted 0 1 0 1 4) (1 ∷ []) (at 1 0 0 ∷ [])

-- Events

-- a schedule with every fate: number 1 comes before number 0 and stays on the link, and then what follows repeats,
-- restarts and comes to nothing
abbrev pub EveryFate : Type 0
EveryFate = fates three_numbers
    (Send 0 ∷ Send 0 ∷ Up 1 Keep ∷ Up 0 Take ∷ Up 0 Keep ∷ Up 0 Take ∷ Up 0 Take ∷ Down 0 Keep ∷ Down 1 Take ∷ Down 0 Lose ∷ Back 0 Keep ∷ Restart ∷ Back 0 Take ∷ Inject ∷ Resend 0 0 ∷ Resend 0 1 ∷ Send 1 ∷ [])
    (start three_numbers)
    ≡ Sent ∷ Sent ∷ Dropped ∷ Pruned ∷ Forwarded ∷ Passed ∷ Nothing ∷ New ∷ Old ∷ Lost ∷ Taken ∷ Restarted ∷ Ignored ∷ Injected ∷ Sent ∷ Nothing ∷ Nothing ∷ []

-- the events of two rounds
abbrev pub EventsOfDrain : Type 0
EventsOfDrain = drain_events three_numbers (start three_numbers)
    ≡ replicate 3 (Send 0) ++ replicate 3 (Up 0 Take) ++ replicate 2 (Down 0 Take) ++ replicate 3 (Back 0 Take)
    ++ Send 0 ∷ Up 0 Take ∷ Down 0 Take ∷ Back 0 Take ∷ []

-- in a turn the resends come first
abbrev pub ResendsOfDrain : Type 0
ResendsOfDrain = drain_events three_numbers (after_schedule three_numbers (Send 0 ∷ Send 0 ∷ Up 1 Take ∷ Up 0 Take ∷ []) false)
    ≡ Resend 0 0 ∷ Resend 0 1 ∷ Send 0 ∷ replicate 3 (Up 0 Take) ++ replicate 3 (Down 0 Take) ++ replicate 4 (Back 0 Take)
    ++ Send 0 ∷ Up 0 Take ∷ Down 0 Take ∷ Back 0 Take ∷ []

-- the rows in the order in which they came, without the Fin: number 1 came before number 0, which had been sent on first
abbrev pub RowsInOrder : Type 0
RowsInOrder = names_arrived two_nines 1 (after_schedule two_nines (Send 0 ∷ Send 0 ∷ Up 0 Take ∷ Up 0 Take ∷ Down 1 Take ∷ []) true).received
    ≡ at 1 0 1 ∷ at 1 0 0 ∷ []
