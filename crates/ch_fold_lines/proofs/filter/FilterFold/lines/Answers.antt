use Rattle.std.proofs.Common.{refl}
use Rattle.std.specs.Ordering.{int_cmp}
use Rattle.std.specs.Cmp.Lexicographic.{slice_cmp}
use Rattle.ch_lists.specs.Ordered.{ordered}
use Rattle.ch_fold_lines.proofs.FilterLaws.{filter_answer}
use Rattle.ch_fold_lines.proofs.filter.FilterFold.lines.Goals as goal

pub returns : goal.returns
returns c = λ texts b rows names s. filter_answer texts b rows c.args.self.now s names (ordered (slice_cmp int_cmp) c.args.self.now.lines.rows) _ refl refl
