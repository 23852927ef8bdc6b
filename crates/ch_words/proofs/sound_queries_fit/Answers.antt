use Rattle.ch_words.proofs.SoundQueries.{sound_names, sound_tables}
use Rattle.ch_words.proofs.sound_queries_fit.Goals as goal

pub returns-clause-names : goal.returns-clause-names
returns-clause-names _ = sound_names

pub returns-clause-tables : goal.returns-clause-tables
returns-clause-tables _ = sound_tables
