use Rattle.ch_packet.proofs.Heads.{spelling-once}
use Rattle.ch_packet.proofs.laws.packets_are_spelled_once.Goals as goal

pub returns : goal.returns
returns c = spelling-once
