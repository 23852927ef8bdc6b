use Rattle.ch_sql.proofs.Readings.{spelled_parsed}
use Rattle.ch_sql.proofs.laws.spelled_queries_are_parsed.Goals as goal

pub returns : goal.returns
returns c = spelled_parsed
