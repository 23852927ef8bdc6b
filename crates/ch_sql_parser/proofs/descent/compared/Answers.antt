use Rattle.std.proofs.Common.{refl}
use Rattle.ch_sql_places.specs.Machine.{Second}
use Rattle.ch_sql_parser.proofs.Rules.{compared_rule}
use Rattle.ch_sql_parser.proofs.Moving.{exits}
use Rattle.ch_sql_parser.proofs.Trees.{plain_compare}
use Rattle.ch_sql_parser.proofs.descent.compared.Goals as goal

pub returns-in_err-right-clause-moves : goal.returns-in_err-right-clause-moves
returns-in_err-right-clause-moves c = λ around.
    exits _ _ _ _ _ c.from_residual.ensures.1 (rw (compared_rule, ← c.in-Some.ensures.value) refl) (c.in_err-right.ensures.moves (Second around c.args.col c.args.cmp))

pub returns-in-Some-clause-moves : goal.returns-in-Some-clause-moves
returns-in-Some-clause-moves c = λ around.
    rw (compared_rule, ← c.in-Some.ensures.value, plain_compare) (c.in_ok-right.ensures.moves (Second around c.args.col c.args.cmp))

pub returns-clause-moves : goal.returns-clause-moves
returns-clause-moves c = λ around. rw (compared_rule, ← c.in_default.ensures.value, c.in_ok-value.ensures.0, c.in_ok-value.ensures.1, plain_compare) refl
