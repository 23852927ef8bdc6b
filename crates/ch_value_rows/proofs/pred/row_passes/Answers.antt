use Rattle.ch_pred.specs.Plain.{plain_of}
use Rattle.ch_pred.proofs.Everywhere.{everywhere}
use Rattle.ch_value_rows.proofs.pred.row_passes.Goals as goal

pub holds-requires : goal.holds-requires
holds-requires c = everywhere (plain_of c.args.pred.now)
