use Rattle.std.proofs.Common.{◌≡◌, sym, ◌∙◌}
use Rattle.ch_ends.specs.Packets.{packet_for}
use Rattle.ch_stands.proofs.Places.{down_at, same_at}
use Rattle.ch_engine.proofs.Receiving.{may_take_at, fits_at, few_rows, received_stands, received_note}
use Rattle.ch_engine.proofs.engine.Engine.receive_at.Goals as goal

pub receipt-requires : goal.receipt-requires
receipt-requires c =
    let q = c.requires.standing in
    let u = down_at q.given q.state c.args.self.now.down.packets c.args.place c.at.result.now q.planned q.sound q.stands.switch.small q.stands.down c.requires.place c.at.ensures in
    (packet_for q.given.config u.m, u.packet, u.bytes_is)

pub take_in-requires-clause-spelled : goal.take_in-requires-clause-spelled
take_in-requires-clause-spelled c =
    let q = c.requires.standing in
    let u = down_at q.given q.state c.args.self.now.down.packets c.args.place c.at-2.result.now q.planned q.sound q.stands.switch.small q.stands.down c.requires.place c.at-2.ensures in
    (packet_for q.given.config u.m, u.packet, u.bytes_is)

pub take_in-requires-clause-may : goal.take_in-requires-clause-may
take_in-requires-clause-may c b is e =
    let q = c.requires.standing in
    let u = down_at q.given q.state c.args.self.now.down.packets c.args.place c.at-2.result.now q.planned q.sound q.stands.switch.small q.stands.down c.requires.place c.at-2.ensures in
    may_take_at q.given c.args.self.now q.state c.args.place c.at-2.result.now u q.sound q.stands b is e

pub returns-clause-ok : goal.returns-clause-ok
returns-clause-ok c g s p i h =
    let x = c.args.self.now in
    let u = down_at g s x.down.packets c.args.place c.at-2.result.now p i h.switch.small h.down c.requires.place c.at-2.ensures in
    let e = c.in_ok-is_new.ensures in
    let f = e.fold in
    received_stands g x s c.args.place c.at-2.result.now c.args.stays u c.last_pass-last.result c.take_in.new.master c.take_in.new.fold c.settle.new.self c.put.new.self c.make_room.new.self c.take_in.new.arriving c.in_ok-answer.answer i h
    c.last_pass-last.ensures e.numbers (e.master (packet_for g.config u.m) u.packet u.bytes_is) (λ b is eq rows r. f b is eq rows r) c.settle.ensures c.put.ensures c.make_room.ensures.packets
    (c.in_ok-answer.ensures (packet_for g.config u.m) u.packet (same_at g s s.down x.down.packets c.args.place c.at-2.result.now c.at.result.now u h.down c.requires.place c.at.ensures)) e.room

pub returns-clause-note : goal.returns-clause-note
returns-clause-note c g s p i h =
    let x = c.args.self.now in
    let u = down_at g s x.down.packets c.args.place c.at-2.result.now p i h.switch.small h.down c.requires.place c.at-2.ensures in
    c.arrival_fate.ensures ∙ received_note g x s c.args.place c.at-2.result.now u c.in_ok-is_new.is_new i h (c.in_ok-is_new.ensures.fresh (packet_for g.config u.m) u.packet u.bytes_is)

pub take_in-requires-clause-fits : goal.take_in-requires-clause-fits
take_in-requires-clause-fits c b is e t =
    let q = c.requires.standing in
    let u = down_at q.given q.state c.args.self.now.down.packets c.args.place c.at-2.result.now q.planned q.sound q.stands.switch.small q.stands.down c.requires.place c.at-2.ensures in
    fits_at q.given c.args.self.now q.state c.args.place c.at-2.result.now u c.last_pass-last.result q.stands c.last_pass-last.ensures b is e t

pub take_in-requires-clause-few : goal.take_in-requires-clause-few
take_in-requires-clause-few c =
    let q = c.requires.standing in
    few_rows q.given c.args.self.now q.state q.planned q.sound q.stands

pub take_in-requires-clause-sound : goal.take_in-requires-clause-sound
take_in-requires-clause-sound c = c.requires.standing.stands.folded.sound

pub take_in-requires-clause-room : goal.take_in-requires-clause-room
take_in-requires-clause-room c = c.requires.standing.stands.room
