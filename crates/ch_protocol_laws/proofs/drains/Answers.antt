use Rattle.ch_protocol_laws.proofs.Reached.{reached_ready}
use Rattle.ch_protocol_laws.proofs.Drained.{pass_over, drains_after, least_adds}
use Rattle.ch_protocol_laws.proofs.Fuel.{turn_ends, round_stopped}
use Rattle.ch_protocol_laws.proofs.drains.Goals as goal

pub returns-clause-pass : goal.returns-clause-pass
returns-clause-pass _ c s some room r = (pass_over c some room s (reached_ready c s some room r)).1

pub returns-clause-stops : goal.returns-clause-stops
returns-clause-stops _ c s some room r = drains_after c some room s (reached_ready c s some room r)

pub returns-clause-turn : goal.returns-clause-turn
returns-clause-turn _ c s w some room in' r = turn_ends c some room w in' s (reached_ready c s some room r)

pub returns-clause-stopped : goal.returns-clause-stopped
returns-clause-stopped _ = round_stopped

pub returns-clause-round : goal.returns-clause-round
returns-clause-round _ c s some room r = least_adds c some room s (reached_ready c s some room r)
