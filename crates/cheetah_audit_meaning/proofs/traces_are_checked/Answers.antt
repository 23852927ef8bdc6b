use Rattle.cheetah_audit_meaning.proofs.Meanings.{accepted, written}
use Rattle.cheetah_audit_meaning.proofs.traces_are_checked.Goals as goal

pub returns-clause-accepted : goal.returns-clause-accepted
returns-clause-accepted c = accepted

pub returns-clause-written : goal.returns-clause-written
returns-clause-written c = written
