use Rattle.std.proofs.Common.{◌≡◌, take, ◌++◌, vec_capacity}
use Rattle.ch_packet.specs.View.{packet_of}
use Rattle.ch_packet.proofs.packet_view.PacketView.append_words.Given as goal

abbrev pub invariant-loop-i : goal.invariant-loop-i
invariant-loop-i l = (l.row.items ≡ l.fn.row.items ++ take l.i (packet_of l.self).words) × (vec_capacity l.row ≡ vec_capacity l.fn.row)
