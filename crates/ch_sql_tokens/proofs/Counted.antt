-- The tokens of a text are tokens, and no more than its bytes.
use Rattle.std.proofs.Common.{◌≡◌, ◌∙◌, ap, ℕ, ◌+◌, ◌≤◌, List, [], ◌∷◌, length, arith, length-append}
use Rattle.std.specs.List.{All}
use Rattle.std.proofs.lemmas.List.Elements.{All-cons, All-nil}
use Rattle.ch_sql_tokens.specs.declared.token.Token.{Token}
use Rattle.ch_sql_tokens.specs.Spelling.{IsToken, spelling}
use Rattle.ch_sql_tokens.specs.Lexed.{Reads, IsLexed}
use Rattle.ch_sql_tokens.proofs.Fronts.{spelling_some}

are_tokens : (text : List ℕ) (tokens : List Token) (rest : List ℕ) → Reads text tokens rest → All IsToken tokens
are_tokens text [] rest reads = All-nil IsToken
are_tokens text (t ∷ ts) rest (blanks, here, more, are, whole, longest, others) = All-cons IsToken t ts longest.here.is_token (are_tokens more ts rest others)

pub lexed_are_tokens : (text : List ℕ) (tokens : List Token) → IsLexed text tokens → All IsToken tokens
lexed_are_tokens text tokens lexed = are_tokens text tokens [] lexed

no_more : (text : List ℕ) (tokens : List Token) (rest : List ℕ) → Reads text tokens rest → length tokens + length rest ≤ length text
no_more text [] rest (blanks, are, whole) = omega (arith, ap length whole, length-append blanks rest)
no_more text (t ∷ ts) rest (blanks, here, more, are, whole, longest, others) =
    let some = spelling_some t longest.here.is_token in
    let size : length here ≡ length (spelling t) + length more = ap length longest.here.spelled ∙ length-append (spelling t) more in
    let behind = no_more more ts rest others in
    omega (arith, ap length whole, length-append blanks here)

pub no_more_than_bytes : (text : List ℕ) (tokens : List Token) → IsLexed text tokens → length tokens ≤ length text
no_more_than_bytes text tokens lexed = let h = no_more text tokens [] lexed in omega arith
