-- Which text is which token.
use Rattle.std.specs.Prelude.{ℕ, ◌==◌, ◌≡◌, ◌≢◌, ◌≤◌, ◌&&◌, Bool, true, false, List, [], ◌∷◌, ◌++◌, if◌then◌else◌}
use Rattle.std.specs.List.{list_all}
use Rattle.std.specs.Fmt.{signed_decimal}
use Rattle.std.specs.Int.RustNames.{unsigned_abs}
use Rattle.ch_cells.specs.Number.{greatest_magnitude, is_digit}
use Rattle.ch_sql_tokens.specs.Byte.{is_letter, is_word_byte, begins_with}
use Rattle.ch_sql_tokens.specs.declared.token.Token.{Token}
use Rattle.ch_sql_tokens.specs.declared.token.Token.TheVariants as token
use Rattle.ch_sql_tokens.specs.declared.token.Symbol.{Symbol}
use Rattle.ch_sql_tokens.specs.declared.token.Symbol.TheVariants as symbol

abbrev pub symbol_spelling : Symbol → List ℕ
symbol_spelling symbol.Eq = 61 ∷ []
symbol_spelling symbol.Ne = 60 ∷ 62 ∷ []
symbol_spelling symbol.Lt = 60 ∷ []
symbol_spelling symbol.Le = 60 ∷ 61 ∷ []
symbol_spelling symbol.Gt = 62 ∷ []
symbol_spelling symbol.Ge = 62 ∷ 61 ∷ []
symbol_spelling symbol.LeftParen = 40 ∷ []
symbol_spelling symbol.RightParen = 41 ∷ []
symbol_spelling symbol.Comma = 44 ∷ []
symbol_spelling symbol.Dot = 46 ∷ []
symbol_spelling symbol.Star = 42 ∷ []
symbol_spelling symbol.Semicolon = 59 ∷ []

-- each q stands twice
abbrev pub doubled : ℕ → List ℕ → List ℕ
doubled q [] = []
doubled q (b ∷ bs) = if b == q then q ∷ q ∷ doubled q bs else b ∷ doubled q bs

abbrev pub in_quotes : ℕ → List ℕ → List ℕ
in_quotes q content = q ∷ (doubled q content ++ (q ∷ []))

-- the text of each token
abbrev pub spelling : Token → List ℕ
spelling (token.Word w) = w
spelling (token.Quoted name) = in_quotes 34 name
spelling (token.Number v) = signed_decimal v
spelling (token.Text text) = in_quotes 39 text
spelling (token.Symbol s) = symbol_spelling s

abbrev pub is_word : List ℕ → Bool
is_word [] = false
is_word (b ∷ bs) = is_letter b && list_all is_word_byte bs

-- A word has a word's spelling, a quoted name isn't empty, and a number is in the range of cells.
abbrev pub IsToken : Token → Type 0
IsToken (token.Word w) = is_word w ≡ true
IsToken (token.Quoted name) = name ≢ []
IsToken (token.Number v) = unsigned_abs v ≤ greatest_magnitude
IsToken (token.Text text) = Unit {0}
IsToken (token.Symbol s) = Unit {0}

-- a number takes all digits that come
abbrev pub Ends : Token → List ℕ → Type 0
Ends (token.Number v) more = begins_with is_digit more ≡ false
Ends t more = Unit {0}

-- the text begins with this token, and this is more behind it
pub record TokenAt (text : List ℕ) (t : Token) (more : List ℕ) : Type 0 where
  pub is_token : IsToken t
  pub spelled : text ≡ spelling t ++ more
  pub ends : Ends t more
