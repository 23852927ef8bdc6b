use Rattle.std.proofs.Common.{◌<◌, ◌∙◌, length, arith}
use Rattle.std.proofs.lemmas.Result.{IfOk-weaker}
use Rattle.ch_run.proofs.Carrying.{next_sent, none_sent}
use Rattle.ch_run.proofs.noting.next_packet.Goals as goal

pub returns-in-Some : goal.returns-in-Some
returns-in-Some c q s r =
    let x = c.args.engine.now in
    let w = c.args.worker in
    let lt : w < length x.workers.items = omega (arith, c.if-place-len.false, c.len.ensures, x.workers.ok.0) in
    let f = c.spelled.ensures in
    IfOk-weaker c.spelled.result _ _ (λ b e. e ∙ next_sent q x s w c.in-Some.number c.index.result.now r lt c.index.ensures c.in-Some.ensures) (f q s r)

pub returns-in-None : goal.returns-in-None
returns-in-None c q s r =
    let x = c.args.engine.now in
    let w = c.args.worker in
    let lt : w < length x.workers.items = omega (arith, c.if-place-len.false, c.len.ensures, x.workers.ok.0) in
    none_sent q x s w c.index.result.now r lt c.index.ensures c.in-None.ensures
