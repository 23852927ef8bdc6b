use Rattle.ch_sql.proofs.Readings.{either, one_query, one_error, not_both}
use Rattle.ch_sql.proofs.laws.texts_are_queries_or_refused.Goals as goal

pub returns-clause-either : goal.returns-clause-either
returns-clause-either c = either

pub returns-clause-one_query : goal.returns-clause-one_query
returns-clause-one_query c = one_query

pub returns-clause-one_refusal : goal.returns-clause-one_refusal
returns-clause-one_refusal c = one_error

pub returns-clause-not_both : goal.returns-clause-not_both
returns-clause-not_both c = not_both
