use Rattle.cheetah_audit_laws.proofs.Called.{call_lists}
use Rattle.cheetah_audit_laws.proofs.Worded.{listing}
use Rattle.cheetah_audit_laws.proofs.done_traces_answer.Goals as goal

pub returns-clause-told : goal.returns-clause-told
returns-clause-told c = listing

pub returns-clause-called : goal.returns-clause-called
returns-clause-called c = call_lists
