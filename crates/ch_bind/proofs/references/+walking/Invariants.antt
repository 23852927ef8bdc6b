use Rattle.std.proofs.Common.{◌≡◌, ◌++◌, drop, map}
use Rattle.ch_sql_grammar.specs.Tree.{plain_of, plains}
use Rattle.ch_bind.specs.References.{member_references}
use Rattle.ch_bind.proofs.references.+walking.Given as goal

-- what the members left add
abbrev pub invariant-push_preds-loop-member : goal.invariant-push_preds-loop-member
invariant-push_preds-loop-member l = l.refs ++ member_references l.scope (plains (map plain_of (drop l.member-index l.members))) ≡ l.initial.refs ++ member_references l.scope (plains (map plain_of l.members))
