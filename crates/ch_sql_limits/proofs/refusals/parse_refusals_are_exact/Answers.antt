use Rattle.ch_sql_places.proofs.Judged.{judged}
use Rattle.ch_sql_places.proofs.Refused.{why_refused}
use Rattle.ch_sql_limits.proofs.Given.{given, one}
use Rattle.ch_sql_limits.proofs.refusals.parse_refusals_are_exact.Goals as goal

pub returns-clause-exact : goal.returns-clause-exact
returns-clause-exact c tokens e n = (given tokens e n, λ h. judged tokens e (why_refused tokens e h))

pub returns-clause-one : goal.returns-clause-one
returns-clause-one c = one
