use Rattle.std.proofs.Common.{◌≡◌, ℕ, refl, ap, sym, ◌∙◌, inl, inr, arith, min, subst}
use Rattle.ch_protocol.specs.Machine.{Counts, one_more}
use Rattle.ch_protocol.specs.Packets.Origin.{Switch}
use Rattle.ch_ends.specs.Packets.{packet_for, packet_bytes, ack_bytes}
use Rattle.ch_engine.specs.Stands.{counts_of}
use Rattle.ch_stands.proofs.Places.{up_at, same_at}
use Rattle.ch_engine.proofs.Meeting.{may_meet_at, meets_at, dropped, went_down, pruned, noted_there, down_more, back_more, forwarded_more, pruned_more}
use Rattle.ch_engine.proofs.engine.Engine.meet_at.Goals as goal

pub ack-requires-clause-spelled : goal.ack-requires-clause-spelled
ack-requires-clause-spelled c =
    let q = c.requires.standing in
    let u = up_at q.given q.state c.args.self.now.up.packets c.args.place c.at.result.now q.planned q.sound q.stands.switch.small q.stands.up c.requires.place c.at.ensures in
    (packet_for q.given.config u.m, u.packet, u.bytes_is)

pub meet-fate-requires-clause-spelled : goal.meet-fate-requires-clause-spelled
meet-fate-requires-clause-spelled c =
    let q = c.requires.standing in
    let u = up_at q.given q.state c.args.self.now.up.packets c.args.place c.in_ok-packet.packet q.planned q.sound q.stands.switch.small q.stands.up c.requires.place c.in_ok-packet.ensures.packet in
    (packet_for q.given.config u.m, u.packet, c.as_slice.ensures ∙ u.bytes_is)

pub meet-fate-requires-clause-may : goal.meet-fate-requires-clause-may
meet-fate-requires-clause-may c b is e =
    let q = c.requires.standing in
    let u = up_at q.given q.state c.args.self.now.up.packets c.args.place c.in_ok-packet.packet q.planned q.sound q.stands.switch.small q.stands.up c.requires.place c.in_ok-packet.ensures.packet in
    may_meet_at q.given c.args.self.now q.state c.args.place c.in_ok-packet.packet u q.planned q.sound q.stands b is (sym c.as_slice.ensures ∙ e)

pub with_epoch-requires : goal.with_epoch-requires
with_epoch-requires c =
    let q = c.requires.standing in
    let u = up_at q.given q.state c.args.self.now.up.packets c.args.place c.in_ok-packet.packet q.planned q.sound q.stands.switch.small q.stands.up c.requires.place c.in_ok-packet.ensures.packet in
    (packet_for q.given.config u.m, u.packet, u.bytes_is)

pub with_epoch-requires-in-Passed : goal.with_epoch-requires-in-Passed
with_epoch-requires-in-Passed c =
    let q = c.requires.standing in
    let u = up_at q.given q.state c.args.self.now.up.packets c.args.place c.in_ok-packet.packet q.planned q.sound q.stands.switch.small q.stands.up c.requires.place c.in_ok-packet.ensures.packet in
    (packet_for q.given.config u.m, u.packet, u.bytes_is)

pub returns-in-Dropped-clause-ok : goal.returns-in-Dropped-clause-ok
returns-in-Dropped-clause-ok c g s p i h =
    let x = c.args.self.now in
    let u = up_at g s x.up.packets c.args.place c.in_ok-packet.packet p i h.switch.small h.up c.requires.place c.in_ok-packet.ensures.packet in
    let e = c.in-Dropped.ensures in
    let t = meets_at g s c.args.place c.in_ok-packet.packet u c.as_slice.result.now x.switch c.meet-fate.new.switch _ c.as_slice.ensures e.fate e.expected e.registers e.stays in
    dropped g x s c.args.place c.in_ok-packet.packet c.args.stays u c.meet-fate.new.switch c.lift.new.self c.make_room.new.self c.make_room-2.new.self p i h t c.in_ok-packet.ensures.link c.make_room.ensures.packets c.make_room-2.ensures.packets

pub returns-in-Dropped-clause-note : goal.returns-in-Dropped-clause-note
returns-in-Dropped-clause-note c g s p i h =
    let x = c.args.self.now in
    let u = up_at g s x.up.packets c.args.place c.in_ok-packet.packet p i h.switch.small h.up c.requires.place c.in_ok-packet.ensures.packet in
    let e = c.in-Dropped.ensures in
    noted_there g x s c.args.place c.in_ok-packet.packet u c.meet-fate.new.switch _ p i h
    (meets_at g s c.args.place c.in_ok-packet.packet u c.as_slice.result.now x.switch c.meet-fate.new.switch _ c.as_slice.ensures e.fate e.expected e.registers e.stays)

pub returns-in-Pruned-clause-ok : goal.returns-in-Pruned-clause-ok
returns-in-Pruned-clause-ok c g s p i h =
    let x = c.args.self.now in
    let u = up_at g s x.up.packets c.args.place c.in_ok-packet.packet p i h.switch.small h.up c.requires.place c.in_ok-packet.ensures.packet in
    let e = c.in-Pruned.ensures in
    let t = meets_at g s c.args.place c.in_ok-packet.packet u c.as_slice.result.now x.switch c.meet-fate.new.switch _ c.as_slice.ensures e.fate e.expected e.registers e.stays in
    pruned g x s c.args.place c.in_ok-packet.packet c.args.stays u c.meet-fate.new.switch c.lift.new.self c.make_room.new.self c.put.new.self _ p i h t c.in_ok-packet.ensures.link c.make_room.ensures.packets
    (back_more g x s c.args.place c.in_ok-packet.packet u h c.make_room-2.new.self.packets c.put.new.self.packets c.in_ok-answer.answer c.epoch-epoch.result c.put.ensures c.make_room-2.ensures.packets c.epoch-epoch.ensures
    (c.in_ok-answer.ensures (packet_for g.config u.m) u.packet (same_at g s s.up x.up.packets c.args.place c.in_ok-packet.packet c.at.result.now u h.up c.requires.place c.at.ensures)))
    (pruned_more g x s c.saturating_add-self.result h c.saturating_add-self.ensures)

pub returns-in-Forwarded-clause-ok : goal.returns-in-Forwarded-clause-ok
returns-in-Forwarded-clause-ok c g s p i h =
    let x = c.args.self.now in
    let u = up_at g s x.up.packets c.args.place c.in_ok-packet.packet p i h.switch.small h.up c.requires.place c.in_ok-packet.ensures.packet in
    let e = c.in-Forwarded.ensures in
    let t = meets_at g s c.args.place c.in_ok-packet.packet u c.as_slice.result.now x.switch c.meet-fate.new.switch _ c.as_slice.ensures e.fate e.expected e.registers e.stays in
    went_down g x s c.args.place c.in_ok-packet.packet c.args.stays u c.meet-fate.new.switch _ c.lift.new.self c.put-in-Forwarded.new.self c.make_room-2.new.self _ (inl refl) p i h t c.in_ok-packet.ensures.link
    (down_more g x s c.args.place c.in_ok-packet.packet u h c.make_room.new.self.packets c.put-in-Forwarded.new.self.packets c.with_epoch.result c.epoch-epoch.result c.put-in-Forwarded.ensures c.make_room.ensures.packets c.epoch-epoch.ensures
    (c.with_epoch.ensures (packet_for g.config u.m) u.packet u.bytes_is))
    c.make_room-2.ensures.packets
    (forwarded_more g x s c.saturating_add-self-in-Forwarded.result h c.saturating_add-self-in-Forwarded.ensures)

pub returns-in-Pruned-clause-note : goal.returns-in-Pruned-clause-note
returns-in-Pruned-clause-note c g s p i h =
    let x = c.args.self.now in
    let u = up_at g s x.up.packets c.args.place c.in_ok-packet.packet p i h.switch.small h.up c.requires.place c.in_ok-packet.ensures.packet in
    let e = c.in-Pruned.ensures in
    noted_there g x s c.args.place c.in_ok-packet.packet u c.meet-fate.new.switch _ p i h
    (meets_at g s c.args.place c.in_ok-packet.packet u c.as_slice.result.now x.switch c.meet-fate.new.switch _ c.as_slice.ensures e.fate e.expected e.registers e.stays)

pub returns-in-Forwarded-clause-note : goal.returns-in-Forwarded-clause-note
returns-in-Forwarded-clause-note c g s p i h =
    let x = c.args.self.now in
    let u = up_at g s x.up.packets c.args.place c.in_ok-packet.packet p i h.switch.small h.up c.requires.place c.in_ok-packet.ensures.packet in
    let e = c.in-Forwarded.ensures in
    noted_there g x s c.args.place c.in_ok-packet.packet u c.meet-fate.new.switch _ p i h
    (meets_at g s c.args.place c.in_ok-packet.packet u c.as_slice.result.now x.switch c.meet-fate.new.switch _ c.as_slice.ensures e.fate e.expected e.registers e.stays)

pub returns-in-Passed-clause-note : goal.returns-in-Passed-clause-note
returns-in-Passed-clause-note c g s p i h =
    let x = c.args.self.now in
    let u = up_at g s x.up.packets c.args.place c.in_ok-packet.packet p i h.switch.small h.up c.requires.place c.in_ok-packet.ensures.packet in
    let e = c.in-Passed.ensures in
    noted_there g x s c.args.place c.in_ok-packet.packet u c.meet-fate.new.switch _ p i h
    (meets_at g s c.args.place c.in_ok-packet.packet u c.as_slice.result.now x.switch c.meet-fate.new.switch _ c.as_slice.ensures e.fate e.expected e.registers e.stays)

pub returns-in-Passed-clause-ok : goal.returns-in-Passed-clause-ok
returns-in-Passed-clause-ok c g s p i h =
    let x = c.args.self.now in
    let u = up_at g s x.up.packets c.args.place c.in_ok-packet.packet p i h.switch.small h.up c.requires.place c.in_ok-packet.ensures.packet in
    let e = c.in-Passed.ensures in
    let t = meets_at g s c.args.place c.in_ok-packet.packet u c.as_slice.result.now x.switch c.meet-fate.new.switch _ c.as_slice.ensures e.fate e.expected e.registers e.stays in
    went_down g x s c.args.place c.in_ok-packet.packet c.args.stays u c.meet-fate.new.switch _ c.lift.new.self c.put-in-Passed.new.self c.make_room-2.new.self _ (inr refl) p i h t c.in_ok-packet.ensures.link
    (down_more g x s c.args.place c.in_ok-packet.packet u h c.make_room.new.self.packets c.put-in-Passed.new.self.packets c.with_epoch-in-Passed.result c.epoch-epoch.result c.put-in-Passed.ensures c.make_room.ensures.packets c.epoch-epoch.ensures
    (c.with_epoch-in-Passed.ensures (packet_for g.config u.m) u.packet u.bytes_is))
    c.make_room-2.ensures.packets
    (forwarded_more g x s c.saturating_add-self-in-Passed.result h c.saturating_add-self-in-Passed.ensures)
