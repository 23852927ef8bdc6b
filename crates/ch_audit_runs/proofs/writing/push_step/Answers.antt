use Rattle.std.proofs.Common.{◌≡◌, ◌∙◌, true, subst, sym}
use Rattle.ch_protocol.specs.Machine.{State, stopped}
use Rattle.ch_audit_runs.proofs.Texts.{stands_still}
use Rattle.ch_audit_runs.proofs.writing.push_step.Goals as goal

pub returns-then-stopped-clause-run : goal.returns-then-stopped-clause-run
returns-then-stopped-clause-run g c d s h =
    let f = c.stopped.ensures in
    let e : stopped d s ≡ true = sym (f d s h) ∙ c.if-stopped.true in
    subst (λ (t : State). g.R.Noting.stands c.args.run.now d t) (sym (stands_still d s c.args.step.now e)) h
