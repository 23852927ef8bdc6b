use Rattle.cheetah_audit.proofs.Runs.{pass_at}
use Rattle.cheetah_audit.proofs.audited.AuditedNoting.pass.Goals as goal

pub returns : goal.returns
returns c d s h some =
    let f = c.in_ok-outcome.ensures in
    pass_at c.args.self.now.run c.args.self.now.last c.pass_in.result d s h c.in_ok-outcome.outcome some c.pass_in.ensures (f h.begun s h.run)
