use Rattle.ch_sql_places.proofs.Complete.{completes}
use Rattle.ch_sql_places.proofs.laws.every_place_is_completed.Goals as goal

pub returns : goal.returns
returns c = completes
