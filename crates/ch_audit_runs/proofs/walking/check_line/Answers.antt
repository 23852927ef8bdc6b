use Rattle.std.proofs.Common.{◌≡◌, Bool, Some, subst}
use Rattle.ch_audit_laws.specs.Own.{cut}
use Rattle.ch_trace_lines.specs.Reading.{line_at}
use Rattle.ch_trace_lines.specs.declared.line.Line.TheVariants.{Event, End}
use Rattle.ch_audit_runs.proofs.Walks.{ended, goes_on, some_cut, unforged}
use Rattle.ch_audit_runs.specs.Walking.{Agrees}
use Rattle.ch_audit_runs.proofs.walking.check_line.Goals as goal

pub check_event-requires-clause-unforged : goal.check_event-requires-clause-unforged
check_event-requires-clause-unforged g c =
    let e : line_at c.args.text.now ≡ Some (Event c.in-Event.said) = cc (c.in-Ok.ensures, c.in-Event.is) in
    unforged c.args.text.now c.in-Event.said e

pub returns-then-branch-clause-comes : goal.returns-then-branch-clause-comes
returns-then-branch-clause-comes g c d s h is kept =
    let e : line_at c.args.text.now ≡ Some (Event c.in-Event.said) = cc (c.in-Ok.ensures, c.in-Event.is) in
    let f = c.in_ok-check_event-in-Event.ensures.agreed in
    let a = subst (λ (b : Bool). Agrees d s (g.R.Noting.stands c.check_event.new.run d) c.check_event.new.rows.items c.in-Event.said b) c.if-branch.true (f d s h is kept) in
    (c.in-Event.said.step, a.0, goes_on d s c.args.text.now (cut c.args.behind.now) c.in-Event.said (some_cut c.args.behind.now) e a.1)

pub returns-in-Ok-clause-comes : goal.returns-in-Ok-clause-comes
returns-in-Ok-clause-comes g c d s h is kept =
    let e : line_at c.args.text.now ≡ Some (End c.in-End.ending) = cc (c.in-Ok.ensures, c.in-End.is) in
    let f = c.check_ending.ensures in
    ended d s c.args.text.now (g.R.Noting.stands c.args.run.now d) c.args.rows.now.items (cut c.args.behind.now) c.in-End.ending c.check_ending.result (some_cut c.args.behind.now) e (record { run = h; kept = kept }) (f d s h)
