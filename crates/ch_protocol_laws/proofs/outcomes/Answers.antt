use Rattle.ch_protocol_laws.proofs.OutcomeLaws.{reached_schedule, drained_done, open_named}
use Rattle.ch_protocol_laws.proofs.outcomes.Goals as goal

pub returns-clause-reached : goal.returns-clause-reached
returns-clause-reached _ = reached_schedule

pub returns-clause-done : goal.returns-clause-done
returns-clause-done _ = drained_done

pub returns-clause-named : goal.returns-clause-named
returns-clause-named _ = open_named
