use Rattle.cheetah_inputs.proofs.Sizes.{inputs_small}
use Rattle.cheetah_inputs.proofs.laws.read_tables_are_small.Goals as goal

pub returns : goal.returns
returns c = inputs_small
