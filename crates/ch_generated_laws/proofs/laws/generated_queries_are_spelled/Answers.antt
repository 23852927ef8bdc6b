use Rattle.ch_generated_laws.proofs.Queries.{spelled}
use Rattle.ch_generated_laws.proofs.laws.generated_queries_are_spelled.Goals as goal

pub returns : goal.returns
returns c kind = spelled kind
