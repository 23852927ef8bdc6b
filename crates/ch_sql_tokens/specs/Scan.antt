-- How a scan from the left goes.
use Rattle.std.specs.Prelude.{ℕ, ◌+◌, ◌-◌, ◌==◌, ◌≡◌, ◌||◌, Bool, false, suc, zero, ℤ, List, [], ◌∷◌, ◌++◌, length, take, drop, Option, Some, None, Result, Ok, Err, if◌then◌else◌}
use Rattle.ch_cells.specs.Number.{is_digit, number_of}
use Rattle.ch_sql_tokens.specs.Byte.{is_letter, is_word_byte, is_blank, begins_with, run}
use Rattle.ch_sql_tokens.specs.Quote.{quoted_of}
use Rattle.ch_sql_tokens.specs.Lexed.{is_nonzero_digit}
use Rattle.ch_sql_tokens.specs.declared.token.Token.{Token}
use Rattle.ch_sql_tokens.specs.declared.token.Token.TheVariants as token
use Rattle.ch_sql_tokens.specs.declared.token.Symbol.TheVariants as symbol
use Rattle.ch_sql_tokens.specs.declared.scanner.Front.{Front}
use Rattle.ch_sql_tokens.specs.declared.scanner.Front.TheVariants.{Found, OutOfRange, Nothing}
use Rattle.ch_sql_tokens.specs.declared.error.LexError.{LexError}
use Rattle.ch_sql_tokens.specs.declared.error.LexError.TheVariants as error

-- a digit but 0 comes, behind a minus or none
abbrev pub begins_nonzero : List ℕ → Bool
begins_nonzero [] = false
begins_nonzero (b ∷ bs) = if b == 45 then begins_with is_nonzero_digit bs else is_nonzero_digit b

abbrev pub number_length : List ℕ → ℕ
number_length [] = 0
number_length (b ∷ bs) = if b == 45 then run is_digit bs + 1 else run is_digit (b ∷ bs)

abbrev pub number_read : Option ℤ → List ℕ → Front
number_read (Some v) s = Found (token.Number v) (length s)
number_read None s = if begins_nonzero s then OutOfRange else Nothing

abbrev pub number_front : List ℕ → Front
number_front text = number_read (number_of (take (number_length text) text)) (take (number_length text) text)

abbrev pub word_front : List ℕ → Front
word_front text = Found (token.Word (take (run is_word_byte text) text)) (run is_word_byte text)

abbrev pub name_read : Option (List ℕ × ℕ) → Front
name_read None = Nothing
name_read (Some ([], len)) = Nothing
name_read (Some (b ∷ bs, len)) = Found (token.Quoted (b ∷ bs)) (len + 1)

abbrev pub quoted_front : List ℕ → Front
quoted_front behind = name_read (quoted_of 34 behind)

abbrev pub text_read : Option (List ℕ × ℕ) → Front
text_read None = Nothing
text_read (Some r) = Found (token.Text r.0) (r.1 + 1)

abbrev pub text_front : List ℕ → Front
text_front behind = text_read (quoted_of 39 behind)

abbrev pub less_front : List ℕ → Front
less_front [] = Found (token.Symbol symbol.Lt) 1
less_front (c ∷ cs) =
    if c == 61 then Found (token.Symbol symbol.Le) 2 else
    if c == 62 then Found (token.Symbol symbol.Ne) 2 else Found (token.Symbol symbol.Lt) 1

abbrev pub greater_front : List ℕ → Front
greater_front [] = Found (token.Symbol symbol.Gt) 1
greater_front (c ∷ cs) = if c == 61 then Found (token.Symbol symbol.Ge) 2 else Found (token.Symbol symbol.Gt) 1

abbrev pub symbol_front : ℕ → List ℕ → Front
symbol_front b bs =
    if b == 60 then less_front bs else
    if b == 62 then greater_front bs else
    if b == 61 then Found (token.Symbol symbol.Eq) 1 else
    if b == 40 then Found (token.Symbol symbol.LeftParen) 1 else
    if b == 41 then Found (token.Symbol symbol.RightParen) 1 else
    if b == 44 then Found (token.Symbol symbol.Comma) 1 else
    if b == 46 then Found (token.Symbol symbol.Dot) 1 else
    if b == 42 then Found (token.Symbol symbol.Star) 1 else
    if b == 59 then Found (token.Symbol symbol.Semicolon) 1 else Nothing

-- what stands at the front
unfoldable pub front_of : List ℕ → Front
front_of [] = Nothing
front_of (b ∷ bs) =
    if is_letter b then word_front (b ∷ bs) else
    if b == 45 || is_digit b then number_front (b ∷ bs) else
    if b == 34 then quoted_front bs else
    if b == 39 then text_front bs else symbol_front b bs

abbrev pub with_token : Token → Result (List Token) LexError → Result (List Token) LexError
with_token t (Ok ts) = Ok (t ∷ ts)
with_token t (Err e) = Err e

abbrev pub taken : Front → ℕ → (ℕ → Result (List Token) LexError) → Result (List Token) LexError
taken (Found t len) at rest = with_token t (rest (len - 1))
taken OutOfRange at rest = Err (error.NumberRange at)
taken Nothing at rest = Err (error.Byte at)

-- the tokens from a byte on; skip counts the bytes that belong to a token that was taken
abbrev pub lex_from : List ℕ → ℕ → ℕ → Result (List Token) LexError
lex_from [] at skip = Ok []
lex_from (b ∷ bs) at (suc skip) = lex_from bs (at + 1) skip
lex_from (b ∷ bs) at zero = if is_blank b then lex_from bs (at + 1) 0 else taken (front_of (b ∷ bs)) at (λ skip. lex_from bs (at + 1) skip)

unfoldable pub lex_at : List ℕ → ℕ → Result (List Token) LexError
lex_at text at = lex_from (drop at text) at 0

abbrev pub lex_of : List ℕ → Result (List Token) LexError
lex_of text = lex_at text 0

-- the same behind tokens that were read before
abbrev pub after : List Token → Result (List Token) LexError → Result (List Token) LexError
after front (Ok ts) = Ok (front ++ ts)
after front (Err e) = Err e

abbrev pub Scans : Result (List Token) LexError → Result (List Token) LexError → Type 0
Scans from (Ok tokens) = from ≡ Ok tokens
Scans from (Err error.Memory) = Unit {0}
Scans from (Err (error.TooLong have)) = ⊥
Scans from (Err (error.Byte at)) = from ≡ Err (error.Byte at)
Scans from (Err (error.NumberRange at)) = from ≡ Err (error.NumberRange at)
