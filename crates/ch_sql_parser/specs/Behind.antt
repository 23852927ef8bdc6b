-- What stands behind a head, in words of the places.
use Rattle.std.specs.Prelude.{ℕ, ◌+◌, ◌≡◌, ◌&&◌, Bool, true, false, List, Option, Some, None, Result, if◌then◌else◌}
use Rattle.ch_sql_grammar.specs.declared.terminal.Mark.{Mark}
use Rattle.ch_sql_grammar.specs.declared.terminal.Mark.TheVariants as mark
use Rattle.ch_sql_grammar.specs.declared.terminal.Terminal.{Terminal}
use Rattle.ch_sql_grammar.specs.declared.query.ColumnRef.{ColumnRef}
use Rattle.ch_sql_grammar.specs.declared.error.ParseError.{ParseError}
use Rattle.ch_sql_grammar.specs.declared.head.Head.{Head}
use Rattle.ch_sql_grammar.specs.declared.head.HeadPlace.{HeadPlace}
use Rattle.ch_sql_grammar.specs.declared.head.HeadPlace.TheVariants as head
use Rattle.ch_sql_grammar.specs.declared.head.HeadTaker.{HeadTaker}
use Rattle.ch_sql_grammar.specs.declared.head.HeadTaker.TheVariants as taker
use Rattle.ch_sql_grammar.specs.declared.tail.TailPlace.TheVariants as place
use Rattle.ch_sql_grammar.specs.Tokens.{marked}
use Rattle.ch_sql_grammar.specs.Tree.{Select}
use Rattle.ch_sql_places.specs.Machine.{Heading, Lead, Want, Tailing, whole, is_semi, outer_of, takes_tail}
use Rattle.ch_sql_places.specs.Parsing.{parse_at}

abbrev pub takes_inner : HeadTaker → Bool
takes_inner (taker.InnerKey items outer key) = true
takes_inner t = false

-- a place in the inner select of a semi-join, or behind it
abbrev pub is_inner : HeadPlace → Bool
is_inner (head.Taking t) = takes_inner t
is_inner (head.Name t n) = takes_inner t
is_inner (head.Dot t n) = takes_inner t
is_inner (head.InnerFrom items outer key inner_key) = true
is_inner (head.InnerTable items outer key inner_key) = true
is_inner (head.InnerClose items outer key inner_key inner) = true
is_inner (head.Whole h) = is_semi h.source
is_inner p = false

-- `IN ( SELECT` comes
unfoldable pub opens_select : List Terminal → ℕ → Bool
opens_select tokens at = marked mark.In tokens at && marked mark.LeftParen tokens (at + 1) && marked mark.Select tokens (at + 2)

-- Behind WHERE a key and the token behind its SELECT, and then the inner key comes; or else a predicate as anywhere.
abbrev pub LeadsTo : List Terminal → Head → ℕ → Option (ColumnRef × ℕ) → Type 0
LeadsTo tokens h at (Some r) = parse_at tokens (Lead h) at ≡ parse_at tokens (Heading (head.Taking (taker.InnerKey h.items (outer_of h.source) r.0))) r.1
LeadsTo tokens h at None = parse_at tokens (Lead h) at ≡ parse_at tokens (Want (whole h)) at

-- what opens the filter
abbrev pub filter_mark : Head → Mark
filter_mark h = if is_semi h.source then mark.And else mark.Where

-- what the tokens behind a head give, where no semi-join begins
abbrev pub behind_head : List Terminal → Head → ℕ → Result Select ParseError
behind_head tokens h at =
    if marked (filter_mark h) tokens at then parse_at tokens (Want (whole h)) (at + 1) else parse_at tokens (Tailing h None (place.Start (takes_tail h))) at
