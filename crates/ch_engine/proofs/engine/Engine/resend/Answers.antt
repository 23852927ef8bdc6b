use Rattle.std.proofs.Common.{◌≡◌, ◌<◌, ◌≤◌, length, ap, sym, ◌∙◌, arith, subst}
use Rattle.ch_protocol.specs.Machine.{State}
use Rattle.ch_engine.specs.Stands.{Stands}
use Rattle.ch_stands.proofs.Progressing.{open_same}
use Rattle.ch_engine.proofs.Sending.{stands_at, resent_stands, open_number}
use Rattle.ch_engine.proofs.engine.Engine.resend.Goals as goal

pub go_up-requires-clause-number : goal.go_up-requires-clause-number
go_up-requires-clause-number c g s p i h =
    let x = c.args.self.now in
    let w = c.args.worker in
    let lt : w < length x.workers.items = omega (arith, c.if-place-len.false, c.len.ensures, x.workers.ok.0) in
    let at = stands_at g x s w c.index.result.now h lt c.index.ensures in
    let n = open_number (s.next w) (s.acked w) c.args.k c.in-Some.number (c.in-Some.ensures ∙ open_same c.index.result.now _ _ _ _ _ _ c.args.k at) in
    omega (arith, n, i.numbered.within w (omega (arith, h.workers_are.many, lt)))

pub returns-in_ok-go_up-in-Some-clause-ok : goal.returns-in_ok-go_up-in-Some-clause-ok
returns-in_ok-go_up-in-Some-clause-ok c g s p i h =
    let x = c.args.self.now in
    let w = c.args.worker in
    let f = c.in_ok-go_up-in-Some.ensures.ok in
    let lt : w < length x.workers.items = omega (arith, c.if-place-len.false, c.len.ensures, x.workers.ok.0) in
    let at = stands_at g x s w c.index.result.now h lt c.index.ensures in
    resent_stands g c.go_up.new.self s w c.args.k c.in-Some.number (f g s p i h) (omega (arith, h.workers_are.many, lt)) (c.in-Some.ensures ∙ open_same c.index.result.now _ _ _ _ _ _ c.args.k at)
