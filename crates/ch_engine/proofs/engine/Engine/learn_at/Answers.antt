use Rattle.std.proofs.Common.{◌≡◌, ◌≤◌, List, length, sym, ◌∙◌, subst, ap, arith}
use Rattle.std.specs.Prelude.{slice_index_or}
use Rattle.ch_ends.specs.Worker.{Progress}
use Rattle.ch_ends.specs.Packets.{ack_for}
use Rattle.ch_stands.specs.Team.{is_over}
use Rattle.ch_stands.proofs.Places.{back_at}
use Rattle.ch_stands.proofs.Learning.{found_here}
use Rattle.ch_engine.proofs.Learning.{learns_there, learned_stands, learned_note, first_within}
use Rattle.ch_engine.proofs.engine.Engine.learn_at.Goals as goal

pub learn-is_current-requires-clause-spelled : goal.learn-is_current-requires-clause-spelled
learn-is_current-requires-clause-spelled c =
    let q = c.requires.standing in
    let u = back_at q.given q.state c.args.self.now.back.packets c.args.place c.at.result.now q.planned q.sound q.stands.switch.small q.stands.back c.requires.place c.at.ensures in
    (ack_for u.a, u.packet, u.bytes_is)

pub learn-is_current-requires-clause-may : goal.learn-is_current-requires-clause-may
learn-is_current-requires-clause-may c b is e =
    let q = c.requires.standing in
    let u = back_at q.given q.state c.args.self.now.back.packets c.args.place c.at.result.now q.planned q.sound q.stands.switch.small q.stands.back c.requires.place c.at.ensures in
    learns_there q.given c.args.self.now q.state c.args.place c.at.result.now u q.stands b is e

pub first_open-self-requires : goal.first_open-self-requires
first_open-self-requires c =
    let q = c.requires.standing in
    let x = c.args.self.now in
    let u = back_at q.given q.state x.back.packets c.args.place c.at.result.now q.planned q.sound q.stands.switch.small q.stands.back c.requires.place c.at.ensures in
    record { within = omega (arith, first_within q.given x q.state c.learn-is_current.new.workers.items (ack_for u.a) q.stands (c.learn-is_current.ensures.workers (ack_for u.a) u.packet u.bytes_is), ap (λ (ws : List Progress). length ws) c.as_slice.ensures.value) }

pub returns-clause-stands : goal.returns-clause-stands
returns-clause-stands c g s p i h =
    let x = c.args.self.now in
    let u = back_at g s x.back.packets c.args.place c.at.result.now p i h.switch.small h.back c.requires.place c.at.ensures in
    let l = c.learn-is_current.ensures.workers (ack_for u.a) u.packet u.bytes_is in
    let f = c.first_open-self.ensures in
    let k = found_here c.as_slice.result.now c.learn-is_current.new.workers.items x.first_open c.first_open-self.result c.as_slice.ensures.value f.most f.over f.here in
    learned_stands g x s c.args.place c.at.result.now c.args.stays u c.learn-is_current.new.workers c.settle.new.self c.first_open-self.result i h l c.settle.ensures k.most k.over k.here

pub returns-clause-note : goal.returns-clause-note
returns-clause-note c g s p i h =
    let x = c.args.self.now in
    let u = back_at g s x.back.packets c.args.place c.at.result.now p i h.switch.small h.back c.requires.place c.at.ensures in
    c.learning_fate.ensures ∙ learned_note g x s c.args.place c.at.result.now u c.learn-is_current.result c.epoch-epoch.result h c.epoch-epoch.ensures (c.learn-is_current.ensures.taken (ack_for u.a) u.packet u.bytes_is)
