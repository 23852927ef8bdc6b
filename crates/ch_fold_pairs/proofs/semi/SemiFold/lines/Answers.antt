use Rattle.std.proofs.Common.{refl, ap}
use Rattle.std.specs.Ordering.{int_cmp}
use Rattle.std.specs.Cmp.Lexicographic.{slice_cmp}
use Rattle.ch_flat.specs.Flat.{Flat}
use Rattle.ch_lists.specs.Ordered.{ordered}
use Rattle.ch_fold_pairs.proofs.SemiLaws.{semi_answer}
use Rattle.ch_fold_pairs.proofs.semi.SemiFold.lines.Goals as goal

pub returns : goal.returns
returns c = λ texts b rows names s.
    semi_answer texts b rows c.args.self.now s names c.in_ok-outer.outer c.in_ok-lines.lines (ordered (slice_cmp int_cmp) c.into_rows.result.rows) _
    c.in_ok-outer.ensures c.in_ok-lines.ensures refl (ap (λ (f : Flat). ordered (slice_cmp int_cmp) f.rows) c.into_rows.ensures)
