use Rattle.ch_audit_laws.proofs.Told.{fails, whole}
use Rattle.ch_audit_laws.proofs.walks_tell.Goals as goal

pub returns-clause-whole : goal.returns-clause-whole
returns-clause-whole c = whole

pub returns-clause-refused : goal.returns-clause-refused
returns-clause-refused c = fails
