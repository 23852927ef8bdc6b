use Rattle.ch_asked.proofs.Bound.{bound_suit}
use Rattle.ch_asked.proofs.laws.bound_queries_suit.Goals as goal

pub returns : goal.returns
returns c = bound_suit
