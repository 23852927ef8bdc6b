use Rattle.cheetah_audit_laws.proofs.Called.{call_accepts}
use Rattle.cheetah_audit_laws.proofs.Worded.{accepts}
use Rattle.cheetah_audit_laws.proofs.written_traces_are_accepted.Goals as goal

pub returns-clause-told : goal.returns-clause-told
returns-clause-told c = accepts

pub returns-clause-called : goal.returns-clause-called
returns-clause-called c = call_accepts
