use Rattle.std.proofs.Common.{◌≡◌, refl, true, arith}
use Rattle.ch_sql_grammar.specs.declared.terminal.Mark.TheVariants as mark
use Rattle.ch_sql_grammar.specs.Tokens.{marked}
use Rattle.ch_sql_parser.proofs.Rules.{low_rule, low_and_rule, high_rule}
use Rattle.ch_sql_parser.proofs.Trees.{plain_between}
use Rattle.ch_sql_parser.proofs.descent.between.Goals as goal

pub returns-clause-moves : goal.returns-clause-moves
returns-clause-moves c = λ around.
    let and : marked mark.And c.args.tokens.now c.in_ok-low.next ≡ true = grind arith in
    rw (low_rule, c.in_ok-low.ensures.0, ← c.in_ok-low.ensures.1, low_and_rule, and, high_rule, c.in_ok-high.ensures.0, c.in_ok-high.ensures.1, plain_between) refl
