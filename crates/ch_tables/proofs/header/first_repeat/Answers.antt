use Rattle.std.proofs.Common.{arith, sym, ◌∙◌}
use Rattle.csv.specs.Records.{fields_of}
use Rattle.ch_tables.proofs.RepeatLemmas.{repeated_here}
use Rattle.ch_tables.proofs.header.first_repeat.Goals as goal

pub returns-then-len-at : goal.returns-then-len-at
returns-then-len-at c =
    repeated_here (fields_of c.args.fields.now) c.loop-at.at c.loop-at.names c.place.new.self c.field.result.now (omega arith)
    c.loop-at.invariant.names c.field.ensures c.in_ok-place.ensures.added (sym c.len.ensures ∙ c.if-len-at.true) c.loop-at.invariant.same
