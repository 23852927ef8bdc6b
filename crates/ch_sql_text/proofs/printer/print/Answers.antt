use Rattle.std.proofs.Common.{◌∙◌, [], ap}
use Rattle.ch_sql_grammar.specs.Tree.{select_of}
use Rattle.ch_sql_text.specs.declared.layout.Last.TheVariants as last
use Rattle.ch_sql_text.specs.Printed.{printed_tokens}
use Rattle.ch_sql_text.specs.Writing.{puts}
use Rattle.ch_sql_text.proofs.Puts.{puts_text}
use Rattle.ch_sql_text.proofs.printer.print.Goals as goal

pub returns : goal.returns
returns c =
    c.into_text.ensures
    ∙ ap (λ w. w.text) (c.in_ok-write_query.ensures ∙ ap (λ w. puts w (printed_tokens (select_of c.args.query.now))) c.new-writer.ensures)
    ∙ puts_text (record { text = []; last = last.Open }) (printed_tokens (select_of c.args.query.now))
