-- Members of a predicate that were bound one by one.
use Rattle.std.proofs.Common.{◌≡◌, ◌∙◌, ap, refl, List, [], ◌∷◌, map}
use Rattle.ch_pred.specs.Plain as bound
use Rattle.ch_pred.specs.declared.pred.BoundPred.{BoundPred}
use Rattle.ch_sql_grammar.specs.Tree.{plain_of, plains}
use Rattle.ch_sql_grammar.specs.declared.query.Pred.{Pred}
use Rattle.ch_bind.specs.Binding.{pred_of, preds_of}
use Rattle.ch_bind.specs.declared.scope.Scope.{Scope}

pub bound_members : (scope : Scope) (ps : List BoundPred) (members : List Pred) → map bound.plain_of ps ≡ map (λ m. pred_of scope (plain_of m)) members
    → bound.plains (map bound.plain_of ps) ≡ preds_of scope (plains (map plain_of members))
bound_members scope ps members e = ap bound.plains e ∙ go members
  where
    go : (ms : List Pred) → bound.plains (map (λ m. pred_of scope (plain_of m)) ms) ≡ preds_of scope (plains (map plain_of ms))
    go [] = refl
    go (m ∷ ms) = ap (λ rest. bound.cons (pred_of scope (plain_of m)) rest) (go ms)
