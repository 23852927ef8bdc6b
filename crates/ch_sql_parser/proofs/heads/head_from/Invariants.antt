use Rattle.std.proofs.Common.{◌≡◌, ◌-◌, length, true}
use Rattle.ch_sql_places.specs.Machine.{Heading}
use Rattle.ch_sql_places.specs.Parsing.{parse_at}
use Rattle.ch_sql_parser.specs.Behind.{is_inner}
use Rattle.ch_sql_parser.proofs.heads.head_from.Given as goal

abbrev pub invariant-loop-token : goal.invariant-loop-token
invariant-loop-token l = record {
  same : parse_at l.tokens (Heading l.fn.from) l.at ≡ parse_at l.tokens (Heading l.place) l.next;
  semi : is_inner l.fn.from ≡ true → is_inner l.place ≡ true;
}

abbrev pub decreases-loop-token : goal.decreases-loop-token
decreases-loop-token l = length l.tokens - l.next
