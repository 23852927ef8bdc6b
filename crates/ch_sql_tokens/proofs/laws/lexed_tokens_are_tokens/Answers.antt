use Rattle.ch_sql_tokens.proofs.Counted.{lexed_are_tokens, no_more_than_bytes}
use Rattle.ch_sql_tokens.proofs.laws.lexed_tokens_are_tokens.Goals as goal

pub returns-clause-tokens : goal.returns-clause-tokens
returns-clause-tokens c = lexed_are_tokens

pub returns-clause-few : goal.returns-clause-few
returns-clause-few c = no_more_than_bytes
