use Rattle.std.proofs.Common.{◌∙◌, option_map, sym, ap}
use Rattle.ch_sql_grammar.specs.declared.tail.TailPlace.TheVariants as place
use Rattle.ch_sql_grammar.specs.Tree.{plain_of}
use Rattle.ch_sql_places.specs.Machine.{Tailing}
use Rattle.ch_sql_places.specs.Parsing.{parse_at}
use Rattle.ch_sql_parser.proofs.Moving.{exits}
use Rattle.ch_sql_parser.proofs.query.query_of.Goals as goal

pub returns-in_err-tail : goal.returns-in_err-tail
returns-in_err-tail c =
    let begins = ap (λ b. parse_at c.args.tokens.now (Tailing c.in_ok-head.head (option_map plain_of c.in_ok-filter.filter) (place.Start b)) c.in_ok-filter.end) (sym c.may_end_in_tail.ensures) in
    exits _ _ _ _ _ c.from_residual-in_err-tail.ensures.1 (c.in_ok-first.ensures.moves ∙ c.in_ok-head.ensures ∙ c.in_ok-filter.ensures ∙ begins) (c.in_err-tail.ensures c.in_ok-head.head (option_map plain_of c.in_ok-filter.filter))
