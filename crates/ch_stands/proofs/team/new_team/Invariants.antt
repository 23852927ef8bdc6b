use Rattle.std.proofs.Common.{◌≡◌, ℕ, ◌<◌, length}
use Rattle.std.specs.Prelude.{slice_index, slice_index_or}
use Rattle.ch_ends.specs.Worker.{Progress, IsAt}
use Rattle.ch_protocol.specs.Sender.{first_number, none_acked}
use Rattle.ch_stands.proofs.team.new_team.Given as goal

abbrev pub invariant-loop-worker : goal.invariant-loop-worker
invariant-loop-worker l = (length l.workers.items ≡ l.worker)
    × ((w : ℕ) (d : Progress) → w < l.worker → IsAt (slice_index_or l.workers.items w d) (slice_index l.rows w) l.window 1 0 first_number none_acked)
