use Rattle.ch_sql_text.proofs.Reread.{read_again}
use Rattle.ch_sql_text.proofs.laws.printed_queries_are_read_again.Goals as goal

pub returns : goal.returns
returns c = read_again
