use Rattle.ch_asked.proofs.Dictionary.{dictionary_ascends, dictionary_holds, only_dictionary}
use Rattle.ch_asked.proofs.laws.dictionaries_are_exact.Goals as goal

pub returns-clause-ascends : goal.returns-clause-ascends
returns-clause-ascends c = dictionary_ascends

pub returns-clause-same : goal.returns-clause-same
returns-clause-same c = dictionary_holds

pub returns-clause-only : goal.returns-clause-only
returns-clause-only c = only_dictionary
