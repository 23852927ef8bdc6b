-- A worker's half of one pass: how many rows it has, the number that it sends next, and the set of the numbers that are
-- acknowledged to it. The sent numbers are those below the next.
use Rattle.std.specs.Prelude.{ℕ, suc, ◌-◌, ◌==◌, nat_lt, Bool, true, false, not, ◌&&◌, ◌||◌, List, length, filter, slice_get, Option, Some, None, if◌then◌else◌}
use Rattle.ch_protocol.specs.Sets.{least, all_below, numbers_from, set_at}

-- the least number that isn't acknowledged, of the numbers of its rows and its Fin
abbrev pub least_open : ℕ → (ℕ → Bool) → ℕ
least_open rows acked = least acked (suc rows)

-- whether the next number is a row's, and less than a window beyond the least unacknowledged number
abbrev pub has_room : ℕ → ℕ → ℕ → (ℕ → Bool) → Bool
has_room rows window next acked = nat_lt next rows && nat_lt (next - least_open rows acked) window

-- whether the next number is the Fin's, and each row is acknowledged
abbrev pub may_end : ℕ → ℕ → (ℕ → Bool) → Bool
may_end rows next acked = (next == rows) && all_below acked rows

-- whether a send puts the next number on the link
abbrev pub may_send : ℕ → ℕ → ℕ → (ℕ → Bool) → Bool
may_send rows window next acked = has_room rows window next acked || may_end rows next acked

-- the number that a send puts on the link, if any
abbrev pub next_number : ℕ → ℕ → ℕ → (ℕ → Bool) → Option ℕ
next_number rows window next acked = if may_send rows window next acked then Some next else None

-- the sent numbers that aren't acknowledged, ascending
abbrev pub open_numbers : ℕ → (ℕ → Bool) → List ℕ
open_numbers next acked = filter (λ k. not (acked k)) (numbers_from 0 next)

-- the number that a resend puts on the link again
abbrev pub open_at : ℕ → (ℕ → Bool) → ℕ → Option ℕ
open_at next acked place = slice_get (open_numbers next acked) place

-- one more number is acknowledged
abbrev pub acknowledge : ℕ → (ℕ → Bool) → ℕ → Bool
acknowledge number acked = set_at number true acked

-- an acknowledgement of the current pass and epoch counts, and no other
abbrev pub is_current : ℕ → ℕ → ℕ → ℕ → Bool
is_current pass epoch ack_pass ack_epoch = (ack_pass == pass) && (ack_epoch == epoch)

-- at a restart the numbers below the least unacknowledged one stay
abbrev pub cut_to_least : ℕ → (ℕ → Bool) → ℕ → Bool
cut_to_least rows acked k = acked k && nat_lt k (least_open rows acked)

-- how many numbers are acknowledged
abbrev pub acknowledged : ℕ → (ℕ → Bool) → ℕ
acknowledged rows acked = length (filter acked (numbers_from 0 (suc rows)))

-- whether the Fin is acknowledged
abbrev pub is_done : ℕ → (ℕ → Bool) → Bool
is_done rows acked = acked rows

-- at the begin of a pass nothing is sent and nothing acknowledged
abbrev pub first_number : ℕ
first_number = 0

abbrev pub none_acked : ℕ → Bool
none_acked k = false
