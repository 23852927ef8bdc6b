use Rattle.ch_sql.proofs.Readings.{parsed_columns, parsed_formed}
use Rattle.ch_sql.proofs.laws.parsed_queries_are_formed.Goals as goal

pub returns-clause-formed : goal.returns-clause-formed
returns-clause-formed c = parsed_formed

pub returns-clause-columns : goal.returns-clause-columns
returns-clause-columns c = parsed_columns
