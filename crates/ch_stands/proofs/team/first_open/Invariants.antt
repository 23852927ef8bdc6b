use Rattle.std.proofs.Common.{◌≡◌, ℕ, ◌<◌, ◌≤◌, true}
use Rattle.std.specs.Prelude.{slice_index_or}
use Rattle.ch_ends.specs.Worker.{Progress}
use Rattle.ch_stands.specs.Team.{is_over}
use Rattle.ch_stands.proofs.team.first_open.Given as goal

abbrev pub invariant-loop-worker : goal.invariant-loop-worker
invariant-loop-worker l = (w : ℕ) (d : Progress) → l.from ≤ w → w < l.worker → is_over (slice_index_or l.workers w d) ≡ true
