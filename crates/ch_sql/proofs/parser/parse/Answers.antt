use Rattle.std.proofs.Common.{◌≡◌, ◌∙◌, ap, map}
use Rattle.ch_sql_grammar.specs.Tokens.{terminal_of}
use Rattle.ch_sql_limits.specs.Texts.{seen}
use Rattle.ch_sql.proofs.Results.{parsed, refused, only}
use Rattle.ch_sql.proofs.parser.parse.Goals as goal

pub returns-clause-found : goal.returns-clause-found
returns-clause-found c =
    let same : c.as_slice-2.result.now ≡ seen c.args.tokens.now = c.as_slice-2.ensures.value ∙ c.in_ok-terminals.ensures ∙ ap (map terminal_of) c.as_slice.ensures in
    parsed _ c.args.tokens.now _ same c.query_of.ensures

pub returns-clause-refused : goal.returns-clause-refused
returns-clause-refused c =
    let same : c.as_slice-2.result.now ≡ seen c.args.tokens.now = c.as_slice-2.ensures.value ∙ c.in_ok-terminals.ensures ∙ ap (map terminal_of) c.as_slice.ensures in
    refused _ c.args.tokens.now _ same c.query_of.ensures

pub returns-clause-only : goal.returns-clause-only
returns-clause-only c =
    let same : c.as_slice-2.result.now ≡ seen c.args.tokens.now = c.as_slice-2.ensures.value ∙ c.in_ok-terminals.ensures ∙ ap (map terminal_of) c.as_slice.ensures in
    only _ c.args.tokens.now _ same c.query_of.ensures
