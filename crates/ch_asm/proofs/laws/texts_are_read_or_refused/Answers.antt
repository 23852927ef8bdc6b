use Rattle.ch_asm.proofs.Decided.{texts_decided}
use Rattle.ch_asm.proofs.Refusals.{bad_is_none}
use Rattle.ch_asm.proofs.laws.texts_are_read_or_refused.Goals as goal

pub returns-clause-some : goal.returns-clause-some
returns-clause-some c text = texts_decided text

pub returns-clause-not_both : goal.returns-clause-not_both
returns-clause-not_both c text number program bad is spelled = bad_is_none text number program bad is spelled
