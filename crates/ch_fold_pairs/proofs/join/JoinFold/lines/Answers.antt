use Rattle.std.proofs.Common.{refl, ap}
use Rattle.std.specs.Ordering.{int_cmp}
use Rattle.std.specs.Cmp.Lexicographic.{slice_cmp}
use Rattle.ch_flat.specs.Flat.{Flat}
use Rattle.ch_lists.specs.Ordered.{ordered}
use Rattle.ch_words.proofs.SoundQueries.{sound_names}
use Rattle.ch_fold_pairs.proofs.JoinLaws.{join_answer, left_rise, pairs_fit, right_rise}
use Rattle.ch_fold_pairs.proofs.join.JoinFold.lines.Goals as goal

pub joined-requires : goal.joined-requires
joined-requires c =
    let rows = c.requires.stands.0 in
    let s = c.requires.stands.1 in
    record {
      names = sound_names c.args.query.now c.requires.sound;
      fits = pairs_fit c.args.ranks.now c.args.query.now rows c.args.self.now s c.requires.sound c.in_ok-left.left c.in_ok-right.right c.in_ok-left.ensures c.in_ok-right.ensures;
      left_rises = left_rise c.args.ranks.now c.args.query.now rows c.args.self.now s c.requires.sound c.in_ok-left.left c.in_ok-left.ensures;
      right_rises = right_rise c.args.ranks.now c.args.query.now rows c.args.self.now s c.requires.sound c.in_ok-right.right c.in_ok-right.ensures;
    }

pub returns : goal.returns
returns c = λ rows s.
    join_answer c.args.ranks.now c.args.query.now rows c.args.self.now s c.requires.sound c.in_ok-left.left c.in_ok-right.right c.in_ok-lines.lines (ordered (slice_cmp int_cmp) c.into_rows.result.rows) _
    c.in_ok-left.ensures c.in_ok-right.ensures c.in_ok-lines.ensures refl (ap (λ (f : Flat). ordered (slice_cmp int_cmp) f.rows) c.into_rows.ensures)
