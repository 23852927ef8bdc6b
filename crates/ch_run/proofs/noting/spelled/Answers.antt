use Rattle.std.proofs.Common.{arith}
use Rattle.ch_protocol_laws.proofs.Reached.{reached_sound}
use Rattle.ch_engine.proofs.Sending.{rows_many, sent_spelled}
use Rattle.ch_run.proofs.Carrying.{spelled_now}
use Rattle.ch_run.proofs.Going.{standing}
use Rattle.ch_run.proofs.noting.spelled.Goals as goal

pub packet-requires-clause-number : goal.packet-requires-clause-number
packet-requires-clause-number c =
    let r = c.requires.running in
    let f = c.requires.number in
    omega (arith, f r.begun.given r.state r.is.planned (reached_sound r.begun.given.config r.state r.is.reached) r.is.stands, rows_many r.begun.given c.args.engine.now r.state c.args.worker r.is.stands)

pub packet-requires-clause-spelled : goal.packet-requires-clause-spelled
packet-requires-clause-spelled c d h =
    let q = standing c.args.engine.now c.requires.running in
    let f = c.requires.number in
    sent_spelled c.args.engine.now q c.args.worker c.args.number c.epoch.result d h c.requires.worker (f q.given q.state q.planned q.sound q.stands) c.epoch.ensures

pub returns : goal.returns
returns c q s r = let f = c.in_ok-bytes.ensures in spelled_now q c.args.engine.now s c.args.worker c.args.number c.epoch.result c.in_ok-bytes.bytes r c.epoch.ensures (f q.given.config r.stands.parts)
