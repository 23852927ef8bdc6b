use Rattle.ch_ranks.proofs.Ranked.{rank_from, text_from, rise}
use Rattle.ch_ranks.proofs.ranks.ranks_are_a_bijection.Goals as goal

pub returns-clause-inverse : goal.returns-clause-inverse
returns-clause-inverse c texts h text rank = (text_from texts h text rank, rank_from texts h text rank)

pub returns-clause-rises : goal.returns-clause-rises
returns-clause-rises c = rise
