use Rattle.std.proofs.Common.{◌≡◌, ◌-◌, length, Option}
use Rattle.ch_sql_grammar.specs.declared.head.Head.{Head}
use Rattle.ch_sql_grammar.specs.Tree.{Plain}
use Rattle.ch_sql_places.specs.Machine.{Tailing}
use Rattle.ch_sql_places.specs.Parsing.{parse_at}
use Rattle.ch_sql_parser.proofs.behind.tail_from.Given as goal

abbrev pub invariant-loop-token : goal.invariant-loop-token
invariant-loop-token l = record {
  same : (h : Head) (filter : Option Plain) → parse_at l.tokens (Tailing h filter l.fn.from) l.at ≡ parse_at l.tokens (Tailing h filter l.place) l.next;
}

abbrev pub decreases-loop-token : goal.decreases-loop-token
decreases-loop-token l = length l.tokens - l.next
