use Rattle.ch_packet.specs.Spelling.{spelling}
use Rattle.ch_packet.proofs.Heads.{IsSound-spelling, fault_of-sound}
use Rattle.ch_packet.proofs.laws.spellings_are_accepted.Goals as goal

pub returns : goal.returns
returns c = λ packet is. fault_of-sound packet.kind (spelling packet) (IsSound-spelling packet is)
