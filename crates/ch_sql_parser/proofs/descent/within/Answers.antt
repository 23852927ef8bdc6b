use Rattle.std.proofs.Common.{◌≡◌, refl, true, arith}
use Rattle.ch_sql_grammar.specs.declared.terminal.Mark.TheVariants as mark
use Rattle.ch_sql_grammar.specs.Tokens.{marked}
use Rattle.ch_sql_parser.proofs.Rules.{in_rule}
use Rattle.ch_sql_parser.proofs.Moving.{exits}
use Rattle.ch_sql_parser.proofs.Trees.{plain_within}
use Rattle.ch_sql_parser.proofs.descent.within.Goals as goal

pub returns-in_err-literals-clause-moves : goal.returns-in_err-literals-clause-moves
returns-in_err-literals-clause-moves c = λ around.
    let left : marked mark.LeftParen c.args.tokens.now c.args.at ≡ true = grind arith in
    exits _ _ _ _ _ c.from_residual.ensures.1 (rw (in_rule, left) refl) (c.in_err-literals.ensures.moves around c.args.col)

pub returns-clause-moves : goal.returns-clause-moves
returns-clause-moves c = λ around.
    let left : marked mark.LeftParen c.args.tokens.now c.args.at ≡ true = grind arith in
    let right : marked mark.RightParen c.args.tokens.now c.in_ok-literals.end ≡ true = grind arith in
    rw (in_rule, left, c.in_ok-literals.ensures.moves around c.args.col, right, plain_within) refl
