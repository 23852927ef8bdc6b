use Rattle.std.proofs.Common.{◌≡◌, ◌∙◌, ap, map}
use Rattle.std.proofs.lemmas.Result.{IfOk-weaker}
use Rattle.ch_audit_laws.specs.Said.{names_of_pass}
use Rattle.ch_protocol.specs.Machine.{stopped}
use Rattle.ch_audit_runs.proofs.Rows.{pass_kept}
use Rattle.ch_audit_runs.specs.Arrivals.{name_of}
use Rattle.ch_audit_runs.specs.Checking.{said_text}
use Rattle.ch_audit_runs.proofs.checking.accept.Goals as goal

pub returns : goal.returns
returns g c d s h some kept =
    let stops = c.stopped.ensures in
    let pass = c.in_ok-pass.ensures in
    let names : map name_of c.as_slice.result.now ≡ names_of_pass d s =
    ap (map name_of) c.as_slice.ensures.value ∙ pass_kept d s c.in_ok-pass.pass c.args.rows.now c.in_ok-kept.kept.items kept (pass d s h some) c.in_ok-kept.ensures in
    IfOk-weaker c.accepted.result _ _ (λ said e. e ∙ (ap (λ b. said_text b c.args.events (map name_of c.as_slice.result.now)) (stops d s h) ∙ ap (said_text (stopped d s) c.args.events) names)) c.accepted.ensures
