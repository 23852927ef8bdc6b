use Rattle.ch_asked.proofs.Asked.{are_tables}
use Rattle.ch_asked.proofs.laws.suited_tables_are_asked.Goals as goal

pub returns : goal.returns
returns c = are_tables
