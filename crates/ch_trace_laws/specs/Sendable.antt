-- Runs whose packets are packets.
use Rattle.std.specs.Prelude.{◌≡◌, ◌≤◌, ◌<◌, ◌+◌, ◌^◌, ℕ, List, ◌∷◌, length, All, FitsSigned, Option, Some}
use Rattle.std.specs.Int.{w64}
use Rattle.ch_packet.specs.Packet.{IsPacket}
use Rattle.ch_packet.specs.Spelling.{spelling}
use Rattle.ch_protocol.specs.Machine.{Config, State, IsReached, row_at, size, workers}
use Rattle.ch_protocol.specs.Packets.{Name, Packet}
use Rattle.ch_schedule.specs.declared.step.Step.{Step}
use Rattle.ch_schedule.specs.declared.step.Step.TheVariants as step
use Rattle.ch_trace_lines.specs.Range.{IsGiven, IsNumber}
use Rattle.ch_ends.specs.Packets.{packet_for, side_of}

-- workers, numbers and words of a configuration fit in packets
pub record AreSendable (c : Config) : Type 0 where
  pub many : workers c ≤ 65536
  pub sizes : (w : ℕ) → w < workers c → size c w + 1 < 2 ^ 32
  pub sides : (w : ℕ) → side_of c w ≤ 1
  pub few : (x : Name) → x.worker < workers c → x.number < size c x.worker → length (row_at c x).words ≤ 16
  pub words : (x : Name) → x.worker < workers c → x.number < size c x.worker → All (FitsSigned w64) (row_at c x).words

-- a state that is reached, and whose epoch fits too
pub record IsSendable (c : Config) (s : State) : Type 0 where
  pub config : AreSendable c
  pub reached : IsReached c s
  pub small : s.epoch < 2 ^ 32

-- a step that a line can say: its numbers fit, and what it injects is no packet
abbrev pub IsReadable : Step → Type 0
IsReadable (step.Send worker) = IsNumber worker
IsReadable (step.Resend worker place) = IsNumber worker × IsNumber place
IsReadable (step.Up at how) = IsNumber at
IsReadable (step.Down at how) = IsNumber at
IsReadable (step.Back at how) = IsNumber at
IsReadable (step.Inject link bytes) = IsGiven bytes
IsReadable step.Restart = Unit {0}

-- the master receives a row or a Fin, and these are the bytes of its packet
pub record Receives (c : Config) (s t : State) (bytes : Option (List ℕ)) : Type 0 where
  pub packet : Packet
  pub spelled : IsPacket (packet_for c packet)
  pub bytes_are : bytes ≡ Some (spelling (packet_for c packet))
  pub number : packet.name.number ≤ size c packet.name.worker
  pub received : t.received ≡ packet.name ∷ s.received
