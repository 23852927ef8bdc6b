use Rattle.ch_generated_laws.proofs.Ranges.{in_range}
use Rattle.ch_generated_laws.proofs.laws.requests_are_in_range.Goals as goal

pub returns : goal.returns
returns c words request e = in_range words request e
