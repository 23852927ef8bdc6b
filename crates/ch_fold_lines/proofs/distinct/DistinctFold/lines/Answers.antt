use Rattle.std.proofs.Common.{refl, map, List, ℤ, Bor}
use Rattle.ch_fold_lines.proofs.DistinctLaws.{distinct_answer}
use Rattle.ch_fold_lines.proofs.distinct.DistinctFold.lines.Goals as goal

pub returns : goal.returns
returns c = λ texts b rows names s.
    distinct_answer texts b rows c.args.self.now s names (map (λ (r : Bor (List ℤ)). r.now) c.in_ok-lines.lines.items) _ refl c.in_ok-lines.ensures
