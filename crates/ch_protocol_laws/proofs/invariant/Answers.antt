use Rattle.ch_protocol_laws.proofs.Links.{start_sound}
use Rattle.ch_protocol_laws.proofs.Sound.{step_sound}
use Rattle.ch_protocol_laws.proofs.Reached.{reached_sound}
use Rattle.ch_protocol_laws.proofs.invariant.Goals as goal

pub returns-clause-reached : goal.returns-clause-reached
returns-clause-reached _ = reached_sound

pub returns-clause-start : goal.returns-clause-start
returns-clause-start _ = start_sound

pub returns-clause-event : goal.returns-clause-event
returns-clause-event _ c s e i = step_sound c s i e
