-- The plain tree of each form.
use Rattle.std.proofs.Common.{◌≡◌, ◌∙◌, ap, sym, ℕ, List}
use Rattle.ch_sql_grammar.specs.declared.query.ColumnRef.{ColumnRef}
use Rattle.ch_pred.specs.declared.pred.Cmp.{Cmp}
use Rattle.ch_pred.specs.declared.pred.Literal.{Literal}
use Rattle.ch_sql_grammar.specs.declared.query.Side.{Side}
use Rattle.ch_sql_grammar.specs.declared.query.Pred.TheVariants as pred
use Rattle.ch_sql_grammar.specs.declared.query.Pred.TheOpen as layer
use Rattle.ch_sql_grammar.specs.declared.query.Pred.TheFolds.{fold-roll-Pred}
use Rattle.ch_sql_grammar.specs.Tree.{Plain, Compare, Between, Within, Like, plain_of, plain_step}

pub plain_compare : (col : ColumnRef) (c : Cmp) (s : Side) → plain_of (pred.Compare col c s) ≡ Compare col c s
plain_compare col c s = ap plain_of (sym (pred.rolls-Compare col c s)) ∙ fold-roll-Pred Plain plain_step (layer.Compare col c s)

pub plain_between : (col : ColumnRef) (low high : Literal) → plain_of (pred.Between col low high) ≡ Between col low high
plain_between col low high = ap plain_of (sym (pred.rolls-Between col low high)) ∙ fold-roll-Pred Plain plain_step (layer.Between col low high)

pub plain_like : (col : ColumnRef) (t : List ℕ) → plain_of (pred.Like col t) ≡ Like col t
plain_like col t = ap plain_of (sym (pred.rolls-Like col t)) ∙ fold-roll-Pred Plain plain_step (layer.Like col t)

pub plain_within : (col : ColumnRef) (ls : _) → plain_of (pred.Within col ls) ≡ Within col ls.items
plain_within col ls = ap plain_of (sym (pred.rolls-Within col ls)) ∙ fold-roll-Pred Plain plain_step (layer.Within col ls)
