use Rattle.std.proofs.Common.{◌≡◌, ◌≤◌, ◌-◌, ◌+◌, length, []}
use Rattle.ch_sql_places.specs.Machine.{Around, Listed}
use Rattle.ch_sql_places.specs.Parsing.{parse_at}
use Rattle.ch_sql_grammar.specs.declared.query.ColumnRef.{ColumnRef}
use Rattle.ch_sql_parser.proofs.descent.listed.Given as goal

abbrev pub invariant-loop-literals : goal.invariant-loop-literals
invariant-loop-literals l = record {
  same : (around : Around) (col : ColumnRef) → parse_at l.tokens (Listed around col []) l.at ≡ parse_at l.tokens (Listed around col l.literals.items) l.place;
  few : length l.literals.items ≤ 16;
  onward : l.at ≤ l.place;
}

abbrev pub decreases-loop-literals : goal.decreases-loop-literals
decreases-loop-literals l = length l.tokens + 1 - l.place
