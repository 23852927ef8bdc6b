use Rattle.cheetah_gen.proofs.Answerable.{answerable}
use Rattle.cheetah_gen.proofs.laws.generated_requests_are_answerable.Goals as goal

pub returns : goal.returns
returns c request range = answerable request range
