use Rattle.ch_protocol_laws.proofs.Reached.{reached_sound}
use Rattle.ch_protocol_laws.proofs.LastPass.{are_all_settled, are_missing_pruned, are_kept_received}
use Rattle.ch_protocol_laws.proofs.settled.Goals as goal

pub returns-clause-all : goal.returns-clause-all
returns-clause-all _ c s r stop = are_all_settled c s (reached_sound c s r) stop

pub returns-clause-missing_pruned : goal.returns-clause-missing_pruned
returns-clause-missing_pruned _ c s two r stop = are_missing_pruned c s (reached_sound c s r) stop two

pub returns-clause-kept_received : goal.returns-clause-kept_received
returns-clause-kept_received _ c s two r stop = are_kept_received c s (reached_sound c s r) stop two
