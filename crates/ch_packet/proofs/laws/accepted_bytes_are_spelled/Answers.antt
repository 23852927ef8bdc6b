use Rattle.ch_packet.proofs.Heads.{accepted-spelled}
use Rattle.ch_packet.proofs.laws.accepted_bytes_are_spelled.Goals as goal

pub returns : goal.returns
returns c = λ bytes are none. accepted-spelled bytes (record { each = are }) none
