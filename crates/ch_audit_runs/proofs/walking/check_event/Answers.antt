use Rattle.std.proofs.Common.{◌≡◌, ◌∙◌, false, sym}
use Rattle.ch_protocol.specs.Machine.{stopped}
use Rattle.ch_audit_runs.proofs.Rows.{kept_after}
use Rattle.ch_audit_runs.proofs.Walks.{agrees_so, differs}
use Rattle.ch_audit_runs.proofs.walking.check_event.Goals as goal

pub returns-then-not-agrees-clause-agreed : goal.returns-then-not-agrees-clause-agreed
returns-then-not-agrees-clause-agreed g c d s h is kept =
    let f = c.in_ok-found.ensures.note in
    differs d s c.args.said.now c.in_ok-found.found c.agrees.result c.agrees.ensures (f d s h) c.if-not-agrees.true

pub returns-clause-agreed : goal.returns-clause-agreed
returns-clause-agreed g c d s h is kept =
    let f = c.in_ok-found.ensures.note in
    let ok = c.in_ok-found.ensures.ok in
    let stops = c.stopped.ensures in
    let came = c.in_ok-keep.ensures.came in
    let others = c.in_ok-keep.ensures.others in
    let runs : stopped d s ≡ false = sym (stops d s h) ∙ c.if-stopped.false in (
      record {
        run = ok d s h;
        kept = kept_after d s c.args.said.now.step c.in_ok-found.found c.args.rows.now.items c.keep.new.rows.items is runs (f d s h) kept came others;
      },
      agrees_so d s c.args.said.now c.in_ok-found.found c.agrees.result c.agrees.ensures (f d s h) c.if-not-agrees.false runs,
    )
