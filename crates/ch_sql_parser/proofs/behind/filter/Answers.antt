use Rattle.std.proofs.Common.{◌≡◌, ◌∙◌, [], true, false, not, ap, refl, arith}
use Rattle.ch_sql_grammar.specs.declared.terminal.Mark.TheVariants as mark
use Rattle.ch_sql_grammar.specs.Tokens.{marked}
use Rattle.ch_sql_grammar.specs.Tree.{plain_of}
use Rattle.ch_sql_places.specs.Machine.{Whole, is_semi}
use Rattle.ch_sql_parser.proofs.Moving.{exits}
use Rattle.ch_sql_parser.proofs.Rules.{filter_rule}
use Rattle.ch_sql_parser.proofs.Stepping.{conj_rule}
use Rattle.ch_sql_parser.proofs.behind.filter.Goals as goal

pub returns-in_err-filter : goal.returns-in_err-filter
returns-in_err-filter c =
    let semi : is_semi c.args.head.now.source ≡ true = grind arith in
    let and : marked mark.And c.args.tokens.now c.args.at ≡ true = grind arith in
    exits _ _ _ _ _ c.from_residual.ensures.1 (rw (semi, and) refl) (c.in_err-filter.ensures.moves [] (Whole c.args.head.now) refl)

pub returns-then-is_semi_join : goal.returns-then-is_semi_join
returns-then-is_semi_join c =
    let semi : is_semi c.args.head.now.source ≡ true = grind arith in
    let and : marked mark.And c.args.tokens.now c.args.at ≡ true = grind arith in
    rw (semi, and) (c.in_ok-filter.ensures.moves [] (Whole c.args.head.now) refl ∙ conj_rule c.args.tokens.now c.args.head.now (plain_of c.in_ok-filter.filter) c.in_ok-filter.end semi)

pub returns-in_err-filter-2 : goal.returns-in_err-filter-2
returns-in_err-filter-2 c =
    let semi : is_semi c.args.head.now.source ≡ false = grind arith in
    let where_comes : marked mark.Where c.args.tokens.now c.args.at ≡ true = grind arith in
    exits _ _ _ _ _ c.from_residual-in_err-filter-2.ensures.1 (rw (semi, where_comes) refl) (c.in_err-filter-2.ensures.moves (Whole c.args.head.now) (ap not semi) refl)

pub returns : goal.returns
returns c =
    let semi : is_semi c.args.head.now.source ≡ false = grind arith in
    let where_comes : marked mark.Where c.args.tokens.now c.args.at ≡ true = grind arith in
    rw (semi, where_comes) (c.in_ok-filter-2.ensures.moves (Whole c.args.head.now) (ap not semi) refl ∙ filter_rule c.args.tokens.now (plain_of c.in_ok-filter-2.filter) c.args.head.now c.in_ok-filter-2.end)
