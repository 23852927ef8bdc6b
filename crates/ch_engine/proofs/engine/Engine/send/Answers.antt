use Rattle.std.proofs.Common.{◌≡◌, ◌<◌, ◌≤◌, length, ap, sym, ◌∙◌, arith, subst, refl}
use Rattle.ch_protocol.specs.Machine.{State, workers, size}
use Rattle.ch_engine.specs.Stands.{Stands}
use Rattle.ch_stands.proofs.Progressing.{may_same, number_is, no_number, sent_at}
use Rattle.ch_engine.proofs.Sending.{stands_at, sent_stands, send_none, send_closed, note_sent}
use Rattle.ch_engine.proofs.engine.Engine.send.Goals as goal

pub returns-then-place-len-clause-ok : goal.returns-then-place-len-clause-ok
returns-then-place-len-clause-ok c g s p i h =
    subst (λ (t : State). Stands g c.args.self.now t) (send_none g.config s c.args.worker (omega (arith, c.if-place-len.true, c.len.ensures, h.workers_are.many, c.args.self.now.workers.ok.0))) h

pub returns-in_ok-go_up-in-Some-clause-ok : goal.returns-in_ok-go_up-in-Some-clause-ok
returns-in_ok-go_up-in-Some-clause-ok c g s p i h =
    let x = c.args.self.now in
    let w = c.args.worker in
    let f = c.in_ok-go_up-in-Some.ensures.ok in
    let lt : w < length x.workers.items = omega (arith, c.if-place-len.false, c.len.ensures, x.workers.ok.0) in
    let at = stands_at g x s w c.index.result.now h lt c.index.ensures in
    let n = number_is c.index.result.now.rows c.index.result.now.window c.index.result.now.next c.in-Some.number _ c.in-Some.ensures in
    let may = sym (may_same c.index.result.now _ _ _ _ _ _ at) ∙ n.0 in
    let at' = stands_at g c.go_up.new.self _ w c.index_mut.result.now (f g s p i h) (subst (λ ws. w < length ws.items) (sym c.in_ok-go_up-in-Some.ensures.workers) lt) c.index_mut.ensures.value in
    sent_stands g x c.go_up.new.self s w c.in-Some.number c.next.new.self _ h (f g s p i h) c.in_ok-go_up-in-Some.ensures.workers (omega (arith, h.workers_are.many, lt)) may (n.1 ∙ at.next_is) refl
    (sent_at c.index_mut.result.now c.next.new.self _ _ _ _ _ _ at' may c.next.ensures.after)

pub returns-in_ok-go_up-in-Some-clause-note : goal.returns-in_ok-go_up-in-Some-clause-note
returns-in_ok-go_up-in-Some-clause-note c g s p i h =
    let x = c.args.self.now in
    let w = c.args.worker in
    let lt : w < length x.workers.items = omega (arith, c.if-place-len.false, c.len.ensures, x.workers.ok.0) in
    let at = stands_at g x s w c.index.result.now h lt c.index.ensures in
    let n = number_is c.index.result.now.rows c.index.result.now.window c.index.result.now.next c.in-Some.number _ c.in-Some.ensures in
    note_sent g.config s w _ (omega (arith, h.workers_are.many, lt)) (sym (may_same c.index.result.now _ _ _ _ _ _ at) ∙ n.0)

pub returns-in-None-clause-ok : goal.returns-in-None-clause-ok
returns-in-None-clause-ok c g s p i h =
    let x = c.args.self.now in
    let w = c.args.worker in
    let lt : w < length x.workers.items = omega (arith, c.if-place-len.false, c.len.ensures, x.workers.ok.0) in
    let at = stands_at g x s w c.index.result.now h lt c.index.ensures in
    let n = no_number c.index.result.now.rows c.index.result.now.window c.index.result.now.next _ c.in-None.ensures in
    subst (λ (t : State). Stands g x t) (send_closed g.config s w (omega (arith, h.workers_are.many, lt)) (sym (may_same c.index.result.now _ _ _ _ _ _ at) ∙ n)) h

pub returns-in-None-clause-note : goal.returns-in-None-clause-note
returns-in-None-clause-note c g s p i h =
    let x = c.args.self.now in
    let w = c.args.worker in
    let lt : w < length x.workers.items = omega (arith, c.if-place-len.false, c.len.ensures, x.workers.ok.0) in
    let at = stands_at g x s w c.index.result.now h lt c.index.ensures in
    let n = no_number c.index.result.now.rows c.index.result.now.window c.index.result.now.next _ c.in-None.ensures in
    note_sent g.config s w _ (omega (arith, h.workers_are.many, lt)) (sym (may_same c.index.result.now _ _ _ _ _ _ at) ∙ n)
