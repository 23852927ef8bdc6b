use Rattle.std.proofs.Common.{◌∙◌, List, ap, subst, sym}
use Rattle.ch_audit_laws.proofs.Told.{fails, whole}
use Rattle.ch_audit_laws.specs.Said.{accepted_text, names_of_pass, state_after}
use Rattle.ch_protocol.specs.Machine.{stopped}
use Rattle.ch_audit_runs.specs.Arrivals.{AreKept}
use Rattle.ch_audit_runs.specs.Checking.{said_text}
use Rattle.ch_audit_runs.specs.Walking.{Finds}
use Rattle.ch_audit_runs.specs.declared.arrival.Arrival.{Arrival}
use Rattle.ch_audit_runs.specs.declared.walking.Walked.{Walked}
use Rattle.ch_audit_runs.proofs.checking.check.Goals as goal

pub returns-in-Whole : goal.returns-in-Whole
returns-in-Whole g c d h are some =
    let walked = c.in_ok-events.ensures in
    let found = subst (λ (x : Walked). Finds d (g.R.Noting.stands c.go_through.new.run d) c.go_through.new.rows.items c.args.text.now x) c.in-Whole.is (walked d h are) in
    let s = state_after d found.0 in
    let all = whole d c.args.text.now found.0 found.1 in
    let accepts = c.in_ok-said-in-Whole.ensures in
    let kept = subst (λ (rows : List Arrival). AreKept d s rows) (sym c.as_slice.ensures.value) found.3.kept in
    (all.0, all.1, accepts d s found.3.run some kept ∙ (ap (λ n. said_text (stopped d s) n (names_of_pass d s)) (sym found.2) ∙ ap (accepted_text d) (sym all.2)))

pub returns : goal.returns
returns g c d h are some =
    let walked = c.in_ok-events.ensures in
    let found = subst (λ (x : Walked). Finds d (g.R.Noting.stands c.go_through.new.run d) c.go_through.new.rows.items c.args.text.now x) c.in-Refused.is (walked d h are) in
    (c.in-Refused.line, fails d c.args.text.now c.in-Refused.line found, c.in_ok-said-in-Refused.ensures)
