use Rattle.ch_sql_limits.proofs.Within.{within_read, read_within}
use Rattle.ch_sql_limits.proofs.laws.derived_within_limits_is_read.Goals as goal

pub returns : goal.returns
returns c tokens tree = (within_read tokens tree, read_within tokens tree)
