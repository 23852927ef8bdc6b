use Rattle.ch_tables.proofs.TextsOfLemmas.{texts-different}
use Rattle.ch_tables.proofs.table.Table.texts.Goals as goal

pub returns-clause-different : goal.returns-clause-different
returns-clause-different c = texts-different c.args.self.now
