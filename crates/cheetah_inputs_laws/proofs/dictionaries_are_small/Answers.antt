use Rattle.cheetah_inputs_laws.proofs.Dictionary.{dictionary_small}
use Rattle.cheetah_inputs_laws.proofs.dictionaries_are_small.Goals as goal

pub returns : goal.returns
returns c = dictionary_small
