use Rattle.std.specs.Prelude.{slice_get}
use Rattle.ch_protocol.proofs.Fated.{sent_on, acknowledged}
use Rattle.ch_protocol.proofs.fates_tell.Goals as goal

pub returns-clause-sent_on : goal.returns-clause-sent_on
returns-clause-sent_on _ c s place how = sent_on c s place how (slice_get s.up place)

pub returns-clause-pruned : goal.returns-clause-pruned
returns-clause-pruned _ c s place how = acknowledged c s place how (slice_get s.up place)
