use Rattle.std.proofs.Common.{◌≡◌, sym, ◌∙◌, arith, suc, ◌+◌}
use Rattle.ch_engine.proofs.Restarting.{changes, stays_open, stays_last, begun_stands}
use Rattle.ch_engine.proofs.engine.Engine.change_pass.Goals as goal
use Rattle.ch_engine.proofs.engine.Engine.change_pass.Goals.{else-self-len-via-then-self-len+else-self-last_pass, else-self-len-via-else-self-len}

pub returns-then-self-last_pass-clause-stands : goal.returns-then-self-last_pass-clause-stands
returns-then-self-last_pass-clause-stands c g s h =
    let x = c.args.self.now in
    changes g x s _ c.last_pass.result h c.last_pass.ensures (omega (arith, c.if-self-len.true, c.len.ensures, x.workers.ok.0)) c.if-self-last_pass.true
    (begun_stands g x s c.begin_all.new.workers (x.pass + 1) h (omega arith) c.begin_all.ensures.many c.begin_all.ensures.each)

pub returns-else-self-len-clause-stands : goal.returns-else-self-len-clause-stands
returns-else-self-len-clause-stands c g s h =
    let x = c.args.self.now in
    elim c.else-self-len.branch [
      | else-self-len-via-then-self-len+else-self-last_pass w ↦ stays_last g x s w.last_pass.result h w.last_pass.ensures w.if-self-last_pass.false
      | else-self-len-via-else-self-len w ↦ stays_open g x s h (λ e. w.if-self-len.false (omega (arith, e, c.len.ensures, x.workers.ok.0)))
    ]
