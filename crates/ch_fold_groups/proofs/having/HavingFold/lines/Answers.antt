use Rattle.std.proofs.Common.{◌≡◌, ◌∙◌, length, arith, refl, w64, to_z, of_z}
use Rattle.std.specs.Ordering.{int_cmp}
use Rattle.std.specs.Cmp.Lexicographic.{slice_cmp}
use Rattle.std.proofs.lemmas.Int.{ints}
use Rattle.ch_lists.specs.Ordered.{ordered}
use Rattle.ch_fold_groups.specs.Lines.{key_lines, keys_above}
use Rattle.ch_fold_groups.proofs.HavingLaws.{having_answer}
use Rattle.ch_fold_groups.proofs.having.HavingFold.lines.Goals as goal

pub returns : goal.returns
returns c = λ texts b rows names s.
    let limit : to_z w64 (of_z w64 c.args.self.now.above) ≡ c.args.self.now.above = omega (arith, ints) in
    having_answer texts b rows c.args.self.now s names c.in_ok-lines.lines (ordered (slice_cmp int_cmp) c.in_ok-lines.lines.rows) _
    (c.in_ok-lines.ensures ∙ (λ i. record { width = length (c.as_slice.ensures i); rows = key_lines (c.as_slice.ensures i) (keys_above (limit i) c.args.self.now.sums.keys c.args.self.now.sums.values) }))
    refl refl
