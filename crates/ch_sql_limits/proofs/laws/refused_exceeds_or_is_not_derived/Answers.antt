use Rattle.ch_sql_limits.proofs.Within.{refused_is_not_within, not_within_is_refused}
use Rattle.ch_sql_limits.proofs.laws.refused_exceeds_or_is_not_derived.Goals as goal

pub returns-clause-refused : goal.returns-clause-refused
returns-clause-refused c = refused_is_not_within

pub returns-clause-not_within : goal.returns-clause-not_within
returns-clause-not_within c = not_within_is_refused
