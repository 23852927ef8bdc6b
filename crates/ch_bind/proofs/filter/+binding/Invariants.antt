use Rattle.std.proofs.Common.{◌≡◌, take, map}
use Rattle.ch_pred.specs.Plain as bound
use Rattle.ch_sql_grammar.specs.Tree.{plain_of}
use Rattle.ch_bind.specs.Binding.{pred_of}
use Rattle.ch_bind.proofs.filter.+binding.Given as goal

-- the members so far
abbrev pub invariant-preds_of-loop-member : goal.invariant-preds_of-loop-member
invariant-preds_of-loop-member l = map bound.plain_of l.preds.items ≡ map (λ m. pred_of l.scope (plain_of m)) (take l.member-index l.members)
