use Rattle.ch_audit_laws.proofs.Told.{either}
use Rattle.ch_audit_laws.proofs.traces_are_accepted_or_refused.Goals as goal

pub returns-clause-either : goal.returns-clause-either
returns-clause-either c = either
