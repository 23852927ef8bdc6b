use Rattle.std.proofs.Common.{[], refl}
use Rattle.ch_protocol_laws.proofs.Reached.{reached_step, reached_drain}
use Rattle.ch_protocol_laws.proofs.reach.Goals as goal

pub returns-clause-start : goal.returns-clause-start
returns-clause-start _ c = ([], refl)

pub returns-clause-event : goal.returns-clause-event
returns-clause-event _ = reached_step

pub returns-clause-drain : goal.returns-clause-drain
returns-clause-drain _ = reached_drain
