use Rattle.ch_audit_laws.proofs.Told.{own_is_trace, own_of_trace}
use Rattle.ch_audit_laws.proofs.own_traces_are_traces.Goals as goal

pub returns-clause-sound : goal.returns-clause-sound
returns-clause-sound c = own_is_trace

pub returns-clause-complete : goal.returns-clause-complete
returns-clause-complete c = own_of_trace
