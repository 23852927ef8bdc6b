use Rattle.ch_sql_tokens.proofs.Scanned.{lexed, read, one_list, either, not_both}
use Rattle.ch_sql_tokens.proofs.laws.lexed_or_refused.Goals as goal

pub returns-clause-exact : goal.returns-clause-exact
returns-clause-exact c text tokens q = (lexed text tokens, read text tokens q)

pub returns-clause-one : goal.returns-clause-one
returns-clause-one c = one_list

pub returns-clause-either : goal.returns-clause-either
returns-clause-either c = either

pub returns-clause-not_both : goal.returns-clause-not_both
returns-clause-not_both c = not_both
