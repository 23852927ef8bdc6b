-- A master's receipts, as contracts see them.
use Rattle.std.specs.Prelude.{◌≡◌, ◌⊎◌, ℕ, ◌+◌, ◌<◌, ◌==◌, Bool, true, false, if◌then◌else◌, List, [], length, map, replicate, slice_index_or, slice_set}
use Rattle.ch_protocol.specs.Packets.{Name}
use Rattle.ch_protocol.specs.Receiver.{has}
use Rattle.ch_packet.specs.declared.packet_view.PacketView.{PacketView}
use Rattle.ch_ends.specs.Bits.{has_bit}

-- for each worker the bits of its numbers in pass 1 and in pass 2; a bit is set where the number was received
pub record Receipts : Type 0 where
  pub first : List (List Bool)
  pub second : List (List Bool)

-- the flows of a pass
abbrev pub flows_of : Receipts → ℕ → List (List Bool)
flows_of r pass = if pass == 1 then r.first else if pass == 2 then r.second else []

-- the bits of a flow
abbrev pub bits_of : Receipts → ℕ → ℕ → List Bool
bits_of r pass worker = slice_index_or (flows_of r pass) worker []

-- whether a name was received
abbrev pub holds : Receipts → Name → Bool
holds r x = has_bit (bits_of r x.pass x.worker) x.number

-- the name is of pass 1 or 2, of a worker that is there, and its number is one of the worker's rows or its Fin
pub record IsThere (r : Receipts) (x : Name) : Type 0 where
  pub pass : (x.pass ≡ 1) ⊎ (x.pass ≡ 2)
  pub worker : x.worker < length (flows_of r x.pass)
  pub number : x.number < length (bits_of r x.pass x.worker)

-- the receipts stand for a list of received names
abbrev pub Stands : Receipts → List Name → Type 0
Stands r received = (x : Name) → IsThere r x → has received x ≡ holds r x

-- no bit of a row or a Fin is set, of workers with so many rows
abbrev pub no_bits : List ℕ → List (List Bool)
no_bits rows = map (λ n. replicate (n + 1) false) rows

abbrev pub no_receipts : List ℕ → Receipts
no_receipts rows = record { first = no_bits rows; second = no_bits rows }

-- one more bit is set
abbrev pub with_bit : List (List Bool) → ℕ → ℕ → List (List Bool)
with_bit flows worker number = slice_set flows worker (slice_set (slice_index_or flows worker []) number true)

abbrev pub with_name : Receipts → Name → Receipts
with_name r x = if x.pass == 1 then record r { first = with_bit r.first x.worker x.number } else record r { second = with_bit r.second x.worker x.number }

-- each flow of both has the same numbers
pub record HaveSameNumbers (old new : Receipts) : Type 0 where
  pub workers : (pass : ℕ) → length (flows_of new pass) ≡ length (flows_of old pass)
  pub numbers : (pass worker : ℕ) → length (bits_of new pass worker) ≡ length (bits_of old pass worker)

-- the name of a row's or a Fin's packet
abbrev pub name_of : PacketView → Name
name_of packet = record { pass = packet.pass; worker = packet.worker; number = packet.number }
