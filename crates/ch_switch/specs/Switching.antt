-- A switch, as contracts see it.
use Rattle.std.specs.Prelude.{◌≡◌, ◌≢◌, ◌^◌, ℕ, ◌+◌, ◌*◌, ◌<◌, ◌≤◌, ◌==◌, Bool, true, false, not, ◌&&◌, if◌then◌else◌, List, length, replicate, slice_index, Option}
use Rattle.ch_ir.specs.declared.program.Program.{Program}
use Rattle.ch_ir.specs.Machine.{Registers, Outcome, machine}
use Rattle.ch_cover.specs.Rows.{Row}
use Rattle.ch_packet.specs.declared.packet.PacketKind.{PacketKind}
use Rattle.ch_packet.specs.declared.packet.PacketKind.TheVariants.{Row as RowKind, Fin, Ack}
use Rattle.ch_packet.specs.declared.packet.Packet.{Packet}
use Rattle.ch_protocol.specs.declared.fate.Fate.{Fate}
use Rattle.ch_protocol.specs.Forwarder.{is_accepted}
use Rattle.ch_verdicts.specs.declared.Slot.{Slot}
use Rattle.ch_verdicts.specs.Handed.{IsPass, HasPlaces, IsSlot, handed, says, leaves}

-- its program with its registers, where a packed program is told whose packet it is, for how many workers it is, its epoch,
-- whether it keeps each row, and the expected number of each worker, first those of pass 1 and then those of pass 2
pub record Switching : Type 0 where
  pub program : Program
  pub registers : Registers
  pub slot : Option Slot
  pub workers : ℕ
  pub epoch : ℕ
  pub keeps : Bool
  pub expected : List ℕ

-- where the number of a flow stands
abbrev pub place_of : ℕ → ℕ → ℕ → ℕ
place_of workers pass worker = if pass == 1 then worker else workers + worker

-- the number that it expects of a flow
abbrev pub expected_at : Switching → ℕ → ℕ → ℕ
expected_at st pass worker = slice_index st.expected (place_of st.workers pass worker)

-- it expects these numbers of each flow
abbrev pub Expects : Switching → (ℕ → ℕ → ℕ) → Type 0
Expects st expected = (pass worker : ℕ) → IsPass pass → worker < st.workers → expected pass worker ≡ expected_at st pass worker

-- a packet that the switch may meet: a Row or a Fin of one of its workers, with a place for each of its words
pub record MayMeet (st : Switching) (packet : Packet) : Type 0 where
  pub sent : packet.kind ≢ Ack
  pub worker : packet.worker < st.workers
  pub number : packet.number + 1 < 2 ^ 32
  pub places : HasPlaces st.slot st.program.width (length packet.words)

-- the row that a packet carries
abbrev pub row_of : Packet → Row
row_of packet = record { side = packet.side; bit = packet.bit; words = packet.words }

-- whether a packet of this kind is a row's
abbrev pub is_row : PacketKind → Bool
is_row RowKind = true
is_row Fin = false
is_row Ack = false

-- what the program makes of a packet
abbrev pub runs : Switching → Packet → Option Outcome
runs st packet = machine st.program st.registers (handed st.slot packet.pass (row_of packet))

-- whether the program judges it: it judges rows, until it keeps each
abbrev pub is_judged : Switching → Packet → Bool
is_judged st packet = is_row packet.kind && not st.keeps

-- whether the verdict is to prune it
abbrev pub is_pruned : Switching → Packet → Bool
is_pruned st packet = is_judged st packet && says (runs st packet)

-- the same of a kind and of what the program makes of the words
abbrev pub is_told : PacketKind → Bool → Option Outcome → Bool
is_told kind keeps o = (is_row kind && not keeps) && says o

-- the registers after a packet with this fate
abbrev pub registers_after : Switching → Fate → Packet → Registers
registers_after st fate packet = if is_accepted fate && is_judged st packet then leaves (runs st packet) else st.registers

-- all but the registers and the expected numbers stays
pub record Stays (old new : Switching) : Type 0 where
  pub program : new.program ≡ old.program
  pub slot : new.slot ≡ old.slot
  pub workers : new.workers ≡ old.workers
  pub epoch : new.epoch ≡ old.epoch
  pub keeps : new.keeps ≡ old.keeps

-- what holds of the fields; many is how many words the buffer takes
pub record IsTidy (width : ℕ) (slot : Option Slot) (workers : ℕ) (expected : List ℕ) (many : ℕ) : Type 0 where
  pub placed : IsSlot slot width
  pub small : workers ≤ 65536
  pub whole : length expected ≡ 2 * workers
  pub room : width ≤ many

-- a switch that has met no packet
abbrev pub fresh : Program → Registers → Option Slot → ℕ → Switching
fresh program registers slot workers = record {
  program = program;
  registers = registers;
  slot = slot;
  workers = workers;
  epoch = 0;
  keeps = false;
  expected = replicate (2 * workers) 0;
}

-- what a restart leaves as it is
pub record IsSameSwitch (old new : Switching) : Type 0 where
  pub program : new.program ≡ old.program
  pub slot : new.slot ≡ old.slot
  pub workers : new.workers ≡ old.workers
