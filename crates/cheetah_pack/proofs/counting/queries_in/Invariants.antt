use Rattle.std.proofs.Common.{◌≡◌, ◌++◌, length, map}
use Rattle.cheetah_pack_meaning.specs.Queries.{queries_of}
use Rattle.cheetah_pack.proofs.counting.queries_in.Given as goal

abbrev pub invariant-loop-cut : goal.invariant-loop-cut
invariant-loop-cut l = map (λ query. query.now) l.queries.items ++ queries_of l.rest ≡ queries_of l.fn.text

abbrev pub decreases-loop-cut : goal.decreases-loop-cut
decreases-loop-cut l = length l.rest
