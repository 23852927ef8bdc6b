use Rattle.std.proofs.Common.{◌+◌, ap}
use Rattle.ch_run.proofs.Reporting.{flow_is}
use Rattle.ch_run.proofs.outcome.flow_of.Goals as goal

pub returns : goal.returns
returns c q s r =
    flow_is q c.args.engine.now s c.args.worker c.index-progress.result.now c.acknowledged.result (c.rows.result + 1) c.in_ok-unacknowledged.unacknowledged r c.requires.worker c.index-progress.ensures
    c.acknowledged.ensures (ap (λ n. n + 1) c.rows.ensures) c.in_ok-unacknowledged.ensures
