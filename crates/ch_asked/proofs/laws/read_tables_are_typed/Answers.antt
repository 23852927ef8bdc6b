use Rattle.ch_asked.proofs.Typed.{read_typed}
use Rattle.ch_asked.proofs.laws.read_tables_are_typed.Goals as goal

pub returns : goal.returns
returns c = read_typed
