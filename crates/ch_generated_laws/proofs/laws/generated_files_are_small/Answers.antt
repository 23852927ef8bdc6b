use Rattle.ch_generated_laws.proofs.Sizes.{sizes}
use Rattle.ch_generated_laws.proofs.laws.generated_files_are_small.Goals as goal

pub returns : goal.returns
returns c request range = sizes request range
