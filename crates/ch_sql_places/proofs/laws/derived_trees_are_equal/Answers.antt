use Rattle.ch_sql_places.proofs.Viable.{one_tree}
use Rattle.ch_sql_places.proofs.laws.derived_trees_are_equal.Goals as goal

pub returns : goal.returns
returns c = one_tree
