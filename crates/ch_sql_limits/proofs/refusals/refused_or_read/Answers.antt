use Rattle.ch_sql_limits.proofs.Given.{either, not_both}
use Rattle.ch_sql_limits.proofs.refusals.refused_or_read.Goals as goal

pub returns-clause-either : goal.returns-clause-either
returns-clause-either c = either

pub returns-clause-not_both : goal.returns-clause-not_both
returns-clause-not_both c = not_both
