use Rattle.ch_sql_places.proofs.Sound.{sound}
use Rattle.ch_sql_places.proofs.Walked.{complete}
use Rattle.ch_sql_places.proofs.laws.places_give_what_is_derived.Goals as goal

pub returns : goal.returns
returns c tokens tree = (complete tokens tree, sound tokens tree)
