-- Which bytes are no packet, and why.
use Rattle.std.specs.Prelude.{◌≡◌, ◌⊎◌, ◌≤◌, ℕ, ◌+◌, ◌*◌, ◌==◌, ◌||◌, nat_lt, not, List, length, slice_index, Option, Some, None, if◌then◌else◌}
use Rattle.ch_packet.specs.Packet.{most_words, most_bit}
use Rattle.ch_packet.specs.declared.packet.PacketKind.{PacketKind}
use Rattle.ch_packet.specs.declared.packet.PacketKind.TheVariants.{Row, Fin, Ack}
use Rattle.ch_packet.specs.declared.packet_view.PacketError.{PacketError}
use Rattle.ch_packet.specs.declared.packet_view.PacketError.TheVariants.{Short, Magic, Version, Kind, Pass, Side, Count, Bit, Length}

abbrev pub kind_of : ℕ → Option PacketKind
kind_of code = if code == 1 then Some Row else if code == 2 then Some Fin else if code == 3 then Some Ack else None

-- the first broken field from the pass on, of at least seventeen bytes
abbrev pub fault_after_kind : Option PacketKind → List ℕ → Option PacketError
fault_after_kind None bytes = Some Kind
fault_after_kind (Some kind) bytes =
    if not (slice_index bytes 3 == 1 || slice_index bytes 3 == 2) then Some Pass
    else if nat_lt 1 (slice_index bytes 6) then Some Side
    else if nat_lt (most_words kind) (slice_index bytes 7) then Some Count
    else if nat_lt (most_bit kind) (slice_index bytes 16) then Some Bit
    else if not (length bytes == 17 + 8 * slice_index bytes 7) then Some Length
    else None

-- the first broken field of these bytes
unfoldable pub fault_of : List ℕ → Option PacketError
fault_of bytes =
    if nat_lt (length bytes) 2 then Some Short
    else if not (slice_index bytes 0 == 199) then Some Magic
    else if not (slice_index bytes 1 == 2) then Some Version
    else if nat_lt (length bytes) 17 then Some Short
    else fault_after_kind (kind_of (slice_index bytes 2)) bytes

-- the fields from the pass on are those of a packet of this kind
pub record AreSound (kind : PacketKind) (bytes : List ℕ) : Type 0 where
  pub pass : (slice_index bytes 3 ≡ 1) ⊎ (slice_index bytes 3 ≡ 2)
  pub side : slice_index bytes 6 ≤ 1
  pub count : slice_index bytes 7 ≤ most_words kind
  pub bit : slice_index bytes 16 ≤ most_bit kind
  pub whole : length bytes ≡ 17 + 8 * slice_index bytes 7

-- all fields are those of a packet of this kind
pub record IsSound (kind : PacketKind) (bytes : List ℕ) : Type 0 where
  pub long : 17 ≤ length bytes
  pub magic : slice_index bytes 0 ≡ 199
  pub version : slice_index bytes 1 ≡ 2
  pub known : kind_of (slice_index bytes 2) ≡ Some kind
  pub others : AreSound kind bytes
