use Rattle.std.proofs.Common.{◌<◌, ◌∙◌, length, arith}
use Rattle.std.proofs.lemmas.Result.{IfOk-weaker}
use Rattle.ch_stands.proofs.Progressing.{open_same}
use Rattle.ch_engine.proofs.Sending.{open_number, stands_at}
use Rattle.ch_run.proofs.Carrying.{open_sent}
use Rattle.ch_run.proofs.noting.open_packet.Goals as goal

pub spelled-requires-clause-number : goal.spelled-requires-clause-number
spelled-requires-clause-number c g s p i h =
    let x = c.args.engine.now in
    let w = c.args.worker in
    let lt : w < length x.workers.items = omega (arith, c.if-place-len.false, c.len.ensures, x.workers.ok.0) in
    let at = stands_at g x s w c.index.result.now h lt c.index.ensures in
    let n = open_number (s.next w) (s.acked w) c.args.k c.in-Some.number (c.in-Some.ensures ∙ open_same c.index.result.now _ _ _ _ _ _ c.args.k at) in
    omega (arith, n, i.numbered.within w (omega (arith, h.workers_are.many, lt)))

pub returns-in-Some : goal.returns-in-Some
returns-in-Some c q s r =
    let x = c.args.engine.now in
    let w = c.args.worker in
    let lt : w < length x.workers.items = omega (arith, c.if-place-len.false, c.len.ensures, x.workers.ok.0) in
    let f = c.spelled.ensures in
    IfOk-weaker c.spelled.result _ _ (λ b e. e ∙ open_sent q x s w c.args.k c.in-Some.number c.index.result.now r lt c.index.ensures c.in-Some.ensures) (f q s r)
