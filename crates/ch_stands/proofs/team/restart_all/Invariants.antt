use Rattle.std.proofs.Common.{◌≡◌, ℕ, ◌<◌, ◌≤◌, length, vec_capacity}
use Rattle.std.specs.Prelude.{slice_index, slice_index_or}
use Rattle.ch_ends.specs.Worker.{Progress, acked_of}
use Rattle.ch_protocol.specs.Sender.{least_open}
use Rattle.ch_stands.specs.Team.{HasRestarted}
use Rattle.ch_stands.proofs.team.restart_all.Given as goal

abbrev pub invariant-loop-worker : goal.invariant-loop-worker
invariant-loop-worker l = record {
  told : length l.told.items ≡ l.worker;
  room : length l.fn.workers.items ≤ vec_capacity l.told;
  many : length l.workers.items ≡ length l.fn.workers.items;
  each : (w : ℕ) (d : Progress) → w < l.worker → HasRestarted l.epoch (slice_index_or l.fn.workers.items w d) (slice_index_or l.workers.items w d);
  least : (w : ℕ) (d : Progress) → w < l.worker → let x = slice_index_or l.fn.workers.items w d in slice_index l.told.items w ≡ least_open x.rows (acked_of x);
  rest : (w : ℕ) (d : Progress) → l.worker ≤ w → slice_index_or l.workers.items w d ≡ slice_index_or l.fn.workers.items w d;
}
