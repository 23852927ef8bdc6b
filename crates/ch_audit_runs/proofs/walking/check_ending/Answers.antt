use Rattle.std.proofs.Common.{◌∙◌, ap}
use Rattle.ch_audit_laws.specs.Walks.{is_ending}
use Rattle.ch_protocol.specs.Machine.{stopped}
use Rattle.ch_audit_runs.proofs.Walks.{over_is_empty}
use Rattle.ch_audit_runs.specs.Walking.{ending_found}
use Rattle.ch_audit_runs.proofs.walking.check_ending.Goals as goal

pub returns : goal.returns
returns g c d s h =
    let f = c.stopped.ensures in
    c.ending_found.ensures
    ∙ (ap (λ b. ending_found b c.is_empty.result) (c.is_ending.ensures ∙ ap (is_ending c.args.ending) (f d s h))
    ∙ ap (ending_found (is_ending c.args.ending (stopped d s))) (c.is_empty.ensures ∙ over_is_empty c.args.behind.now))
