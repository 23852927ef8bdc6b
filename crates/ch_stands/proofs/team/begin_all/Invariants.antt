use Rattle.std.proofs.Common.{◌≡◌, ℕ, ◌<◌, ◌≤◌, length}
use Rattle.std.specs.Prelude.{slice_index_or}
use Rattle.ch_ends.specs.Worker.{Progress}
use Rattle.ch_stands.specs.Team.{HasBegun}
use Rattle.ch_stands.proofs.team.begin_all.Given as goal

abbrev pub invariant-loop-worker : goal.invariant-loop-worker
invariant-loop-worker l = record {
  many : length l.workers.items ≡ length l.fn.workers.items;
  each : (w : ℕ) (d : Progress) → w < l.worker → HasBegun l.pass (slice_index_or l.fn.workers.items w d) (slice_index_or l.workers.items w d);
  rest : (w : ℕ) (d : Progress) → l.worker ≤ w → slice_index_or l.workers.items w d ≡ slice_index_or l.fn.workers.items w d;
}
