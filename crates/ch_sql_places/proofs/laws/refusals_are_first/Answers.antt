use Rattle.ch_sql_places.proofs.Judged.{judged}
use Rattle.ch_sql_places.proofs.Refused.{why_refused}
use Rattle.ch_sql_places.proofs.laws.refusals_are_first.Goals as goal

pub returns : goal.returns
returns c tokens e h = judged tokens e (why_refused tokens e h)
