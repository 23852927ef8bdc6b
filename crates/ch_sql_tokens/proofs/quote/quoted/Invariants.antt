use Rattle.std.proofs.Common.{◌≡◌, ◌≤◌, ◌-◌, length, IfSome}
use Rattle.ch_sql_tokens.specs.Quote.{quoted_of}
use Rattle.ch_sql_tokens.proofs.QuoteRules.{quoted_on}
use Rattle.ch_sql_tokens.proofs.quote.quoted.Given as goal

abbrev pub invariant-loop-at : goal.invariant-loop-at
invariant-loop-at l = record {
  within : l.at ≤ length l.text;
  kept : IfSome l.pair (λ p. p.0 ≤ length l.content.items);
  end : IfSome l.pair (λ p. p.1 ≤ length l.text);
  same : quoted_on l.quote l.text l.content.items l.at l.pair ≡ quoted_of l.quote l.text;
}

abbrev pub decreases-loop-at : goal.decreases-loop-at
decreases-loop-at l = length l.text - l.at
