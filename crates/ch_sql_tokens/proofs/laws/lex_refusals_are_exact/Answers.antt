use Rattle.ch_sql_tokens.proofs.Scanned.{given, refused, one_refusal}
use Rattle.ch_sql_tokens.proofs.laws.lex_refusals_are_exact.Goals as goal

pub returns-clause-exact : goal.returns-clause-exact
returns-clause-exact c text e n q = (given text e n q, refused text e q)

pub returns-clause-one : goal.returns-clause-one
returns-clause-one c = one_refusal
