use Rattle.std.proofs.Common.{ℤ, List, map, ap, refl, ◌∙◌}
use Rattle.std.specs.Ordering.{int_cmp}
use Rattle.std.specs.Cmp.Lexicographic.{slice_cmp}
use Rattle.ch_lists.specs.Ordered.{ordered}
use Rattle.ch_flat.specs.Flat.{Flat, pick}
use Rattle.ch_fold_orders.proofs.SkylineLaws.{skyline_answer}
use Rattle.ch_fold_orders.proofs.skyline.SkylineFold.lines.Goals as goal

pub returns : goal.returns
returns c = λ texts b rows names s.
    skyline_answer texts b rows c.args.self.now s names (ordered (slice_cmp int_cmp) c.in_ok-lines.lines.rows) _ refl
    (ap (λ (f : Flat). ordered (slice_cmp int_cmp) f.rows) c.in_ok-lines.ensures
    ∙ ap (λ ps. ordered (slice_cmp int_cmp) (map (λ (ws : List ℤ). pick ws ps) c.args.self.now.front)) c.as_slice.ensures)
