use Rattle.ch_sql.proofs.Columned.{columns_few}
use Rattle.ch_sql.proofs.Forming.{formed}
use Rattle.ch_sql.proofs.laws.derived_queries_are_formed.Goals as goal

pub returns-clause-formed : goal.returns-clause-formed
returns-clause-formed c = formed

pub returns-clause-columns : goal.returns-clause-columns
returns-clause-columns c = columns_few
