use Rattle.std.proofs.Common.{◌≡◌, ◌<◌, ◌≤◌, length, ap, sym, ◌∙◌, arith}
use Rattle.ch_protocol.specs.Machine.{size}
use Rattle.ch_engine.proofs.Sending.{sent_spelled, went_up, many_parts, rows_many}
use Rattle.ch_engine.proofs.engine.Engine.go_up.Goals as goal

pub returns-clause-ok : goal.returns-clause-ok
returns-clause-ok c g s p i h =
    went_up g c.args.self.now s c.args.worker c.args.number c.epoch-epoch.result c.saturating_add-self.result c.make_room.new.self c.put.new.self c.in_ok-packet.packet c.packet.new.words h c.put.ensures c.make_room.ensures.packets
    (c.in_ok-packet.ensures g.config h.parts) c.epoch-epoch.ensures c.saturating_add-self.ensures

pub packet-requires-clause-spelled : goal.packet-requires-clause-spelled
packet-requires-clause-spelled c d h =
    let q = c.requires.standing in
    let f = c.requires.number in
    sent_spelled c.args.self.now q c.args.worker c.args.number c.epoch-epoch.result d h c.requires.worker (f q.given q.state q.planned q.sound q.stands) c.epoch-epoch.ensures
