use Rattle.std.proofs.Common.{◌∙◌, length, refl}
use Rattle.std.specs.Ordering.{int_cmp}
use Rattle.std.specs.Cmp.Lexicographic.{slice_cmp}
use Rattle.ch_lists.specs.Ordered.{ordered}
use Rattle.ch_fold_groups.specs.Lines.{value_lines}
use Rattle.ch_fold_groups.proofs.GroupLaws.{group_answer}
use Rattle.ch_fold_groups.proofs.group.GroupFold.lines.Goals as goal

pub returns : goal.returns
returns c = λ texts b rows names s.
    group_answer texts b rows c.args.self.now s names c.in_ok-lines.lines (ordered (slice_cmp int_cmp) c.in_ok-lines.lines.rows) _
    (c.in_ok-lines.ensures ∙ (λ i. record { width = length (c.as_slice.ensures i); rows = value_lines (c.as_slice.ensures i) c.args.self.now.bests.keys c.args.self.now.bests.values }))
    refl refl
