use Rattle.std.proofs.Common.{◌≡◌, ◌*◌, ◌≤◌}
use Rattle.ch_run.proofs.Rows.{rows_below}
use Rattle.ch_run.proofs.draining.all_rows.Given as goal

abbrev pub invariant-loop-worker : goal.invariant-loop-worker
invariant-loop-worker l = (l.all ≡ rows_below l.engine.parts l.worker) × (l.all ≤ l.worker * 4294967296)
