use Rattle.std.proofs.Common.{◌≡◌, ◌≤◌, ◌+◌, length}
use Rattle.cheetah_pack_meaning.specs.Queries.{queries_of}
use Rattle.cheetah_pack.proofs.counting.count_queries.Given as goal

abbrev pub invariant-loop-cut : goal.invariant-loop-cut
invariant-loop-cut l = record {
  many : l.count + length l.rest ≤ length l.fn.text;
  so_far : l.count + length (queries_of l.rest) ≡ length (queries_of l.fn.text);
}

abbrev pub decreases-loop-cut : goal.decreases-loop-cut
decreases-loop-cut l = length l.rest
