use Rattle.ch_packet.proofs.Words.{slice_get-words_of}
use Rattle.ch_packet.proofs.packet_view.PacketView.word.Goals as goal

pub returns : goal.returns
returns c =
    let chunk = rw c.unwrap-bytes.ensures at c.first_chunk.ensures.cases in
    slice_get-words_of c.args.self.now.body.now c.unwrap-bytes.result.now c.args.i c.from-at.result c.from_be_bytes.result c.cast_signed.result
    c.requires.view.whole c.requires.there c.from-at.ensures chunk.same c.from_be_bytes.ensures c.from_be_bytes.type_inv c.cast_signed.ensures
