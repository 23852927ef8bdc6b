-- Which list of tokens a text stands for, and where it stands for none.
use Rattle.std.specs.Prelude.{ℕ, ◌+◌, ◌≡◌, ◌<◌, ◌≤◌, ◌==◌, ◌&&◌, ◌⊎◌, Bool, true, false, not, ℤ, List, [], ◌∷◌, ◌++◌, length, Result, Ok, Err}
use Rattle.std.specs.List.{list_all}
use Rattle.std.specs.Fmt.{signed_decimal}
use Rattle.std.specs.Int.RustNames.{unsigned_abs}
use Rattle.ch_cells.specs.Number.{greatest_magnitude, is_digit}
use Rattle.ch_sql_tokens.specs.Byte.{is_blank, begins_with}
use Rattle.ch_sql_tokens.specs.Spelling.{spelling, TokenAt}
use Rattle.ch_sql_tokens.specs.declared.scanner.TheConstants.{MAX_QUERY_BYTES}
use Rattle.ch_sql_tokens.specs.declared.token.Token.{Token}
use Rattle.ch_sql_tokens.specs.declared.error.LexError.{LexError}
use Rattle.ch_sql_tokens.specs.declared.error.LexError.TheVariants as error

-- the longest token that the text begins with
pub record LongestAt (text : List ℕ) (t : Token) (more : List ℕ) : Type 0 where
  pub here : TokenAt text t more
  pub longest : (u : Token) (rest : List ℕ) → TokenAt text u rest → length (spelling u) ≤ length (spelling t)

-- The tokens up to a rest: at each place blanks are skipped, and then the longest token is taken.
abbrev pub Reads : List ℕ → List Token → List ℕ → Type 0
Reads text [] rest = (blanks : List ℕ) × (list_all is_blank blanks ≡ true) × (text ≡ blanks ++ rest)
Reads text (t ∷ ts) rest = (blanks here more : List ℕ) × (list_all is_blank blanks ≡ true) × (text ≡ blanks ++ here) × LongestAt here t more × Reads more ts rest

abbrev pub IsLexed : List ℕ → List Token → Type 0
IsLexed text tokens = Reads text tokens []

-- a text of a length that a query may have
abbrev pub IsQueryText : List ℕ → Type 0
IsQueryText text = length text ≤ MAX_QUERY_BYTES

-- the first place, from the left, at which no token stands
pub record IsStuck (text : List ℕ) (at : ℕ) (rest : List ℕ) : Type 0 where
  pub tokens : List Token
  pub read : Reads text tokens rest
  pub place : at + length rest ≡ length text
  pub no_blank : begins_with (λ b. not (is_blank b)) rest ≡ true
  pub no_token : (t : Token) (more : List ℕ) → TokenAt rest t more → ⊥

abbrev pub is_nonzero_digit : ℕ → Bool
is_nonzero_digit b = is_digit b && not (b == 48)

-- the text begins with a number that no cell has: a minus or none, and all digits that come, with no zero in front
pub record IsOutOfRange (text : List ℕ) : Type 0 where
  pub sign : List ℕ
  pub digits : List ℕ
  pub more : List ℕ
  pub spelled : text ≡ (sign ++ digits) ++ more
  pub is_sign : (sign ≡ []) ⊎ (sign ≡ 45 ∷ [])
  pub first : begins_with is_nonzero_digit digits ≡ true
  pub are_digits : list_all is_digit digits ≡ true
  pub ends : begins_with is_digit more ≡ false
  pub out : (v : ℤ) → sign ++ digits ≡ signed_decimal v → greatest_magnitude < unsigned_abs v

abbrev pub IsLexError : List ℕ → LexError → Type 0
IsLexError text (error.TooLong have) = (MAX_QUERY_BYTES < length text) × (have ≡ length text)
IsLexError text (error.Byte at) = IsQueryText text × ((rest : List ℕ) × IsStuck text at rest × (IsOutOfRange rest → ⊥))
IsLexError text (error.NumberRange at) = IsQueryText text × ((rest : List ℕ) × IsStuck text at rest × IsOutOfRange rest)
IsLexError text error.Memory = Unit {0}

-- these tokens were read, unless memory ran out
abbrev pub Lexes : List Token → Result (List Token) LexError → Type 0
Lexes tokens (Ok found) = found ≡ tokens
Lexes tokens (Err e) = e ≡ error.Memory
