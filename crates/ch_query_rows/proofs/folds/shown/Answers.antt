use Rattle.std.proofs.Common.{map}
use Rattle.ch_finish.proofs.Arrivals.{row_of, some_rows}
use Rattle.ch_query_rows.proofs.folds.shown.Goals as goal

pub answer-requires-clause-stands : goal.answer-requires-clause-stands
answer-requires-clause-stands c = (map row_of c.args.rows.now, c.in_ok-fold.ensures (map row_of c.args.rows.now) (some_rows c.args.rows.now))

pub text-requires-clause-stands : goal.text-requires-clause-stands
text-requires-clause-stands c = (map row_of c.args.rows.now, c.in_ok-fold.ensures (map row_of c.args.rows.now) (some_rows c.args.rows.now))
