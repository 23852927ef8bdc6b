-- Each text spells one query, or one refusal holds of it.
use Rattle.std.proofs.Common.{◌≡◌, ◌≢◌, ◌∙◌, ap, sym, refl, subst, ℕ, suc, ◌≤◌, List, [], ◌∷◌, length, Result, Ok, Err, ◌⊎◌, inl, inr, arith}
use Rattle.ch_sql_tokens.specs.declared.token.Token.{Token}
use Rattle.ch_sql_tokens.specs.declared.error.LexError.{LexError}
use Rattle.ch_sql_tokens.specs.declared.error.LexError.TheVariants as lex
use Rattle.ch_sql_tokens.specs.Lexed.{IsLexed, IsLexError, IsQueryText, Lexes}
use Rattle.ch_sql_tokens.proofs.Scanned as scanned
use Rattle.ch_sql_grammar.specs.declared.error.ParseError.{ParseError}
use Rattle.ch_sql_grammar.specs.declared.error.ParseError.TheVariants as parse
use Rattle.ch_sql_grammar.specs.declared.query.Query.{Query}
use Rattle.ch_sql_grammar.specs.Tree.{Select, select_of}
use Rattle.ch_sql_places.specs.Machine.{parse_from, start}
use Rattle.ch_sql_places.specs.Refusal.{IsRefusal}
use Rattle.ch_sql_limits.specs.Limits.{IsQueryWithin}
use Rattle.ch_sql_limits.specs.Texts.{seen, Spells}
use Rattle.ch_sql_limits.proofs.Within.{within_read, without_limits}
use Rattle.ch_sql_limits.proofs.Given as given
use Rattle.ch_sql_tokens.proofs.Counted.{lexed_are_tokens, no_more_than_bytes}
use Rattle.ch_sql_tokens.specs.declared.scanner.TheConstants.{MAX_QUERY_BYTES}
use Rattle.ch_sql.specs.Columns.{columns_of}
use Rattle.ch_sql.specs.Formed.{IsFormed}
use Rattle.ch_sql.specs.Parsed.{Parses, IsParsed}
use Rattle.ch_sql.proofs.Columned.{columns_few}
use Rattle.ch_sql.proofs.Forming.{formed}
use Rattle.ch_sql.specs.Reading.{lex_refusal, parse_refusal, Refuses, IsQueryError, ReadsTo}
use Rattle.ch_sql.specs.declared.read.QueryError.{QueryError}
use Rattle.ch_sql.specs.declared.read.QueryError.TheVariants as error

-- the joint refusals

pub lex_refused : (text : List ℕ) (e : LexError) → IsLexError text e → IsQueryError text (lex_refusal e)
lex_refused text (lex.TooLong have) h = h
lex_refused text (lex.Byte at) h = h
lex_refused text (lex.NumberRange at) h = h
lex_refused text lex.Memory h = tt

pub parse_refused : (text : List ℕ) (e : ParseError) → Refuses text e → IsQueryError text (parse_refusal e)
parse_refused text (parse.Syntax at) h = h
parse_refused text (parse.TooDeep at) h = h
parse_refused text (parse.InTooLong at) h = h
parse_refused text (parse.BadLike at) h = h
parse_refused text parse.Memory h = tt

lex_known : (e : LexError) → e ≢ lex.Memory → lex_refusal e ≢ error.Memory
lex_known (lex.TooLong have) n h = cc
lex_known (lex.Byte at) n h = cc
lex_known (lex.NumberRange at) n h = cc
lex_known lex.Memory n h = n refl

parse_known : (e : ParseError) → e ≢ parse.Memory → parse_refusal e ≢ error.Memory
parse_known (parse.Syntax at) n h = cc
parse_known (parse.TooDeep at) n h = cc
parse_known (parse.InTooLong at) n h = cc
parse_known (parse.BadLike at) n h = cc
parse_known parse.Memory n h = n refl

-- what a text gives

abbrev by_parse : Result Select ParseError → Result Select QueryError
by_parse (Ok q) = Ok q
by_parse (Err e) = Err (parse_refusal e)

abbrev by_lex : Result (List Token) LexError → Result Select QueryError
by_lex (Ok tokens) = by_parse (parse_from start 0 (seen tokens))
by_lex (Err e) = Err (lex_refusal e)

abbrev reading : List ℕ → Result Select QueryError
reading text = by_lex (scanned.whole text)

spelled_read : (text : List ℕ) (q : Select) → Spells text q → reading text ≡ Ok q
spelled_read text q s = ap by_lex (scanned.whole_lexed text s.tokens s.short s.lexed) ∙ ap by_parse (within_read (seen s.tokens) q s.derived)

lex_given : (text : List ℕ) (e : LexError) → e ≢ lex.Memory → IsLexError text e → reading text ≡ Err (lex_refusal e)
lex_given text e n h = ap by_lex (scanned.whole_given text e n h)

parse_given : (text : List ℕ) (e : ParseError) → e ≢ parse.Memory → Refuses text e → reading text ≡ Err (parse_refusal e)
parse_given text e n (tokens, short, lexed, is) = ap by_lex (scanned.whole_lexed text tokens short lexed) ∙ ap by_parse (given.given (seen tokens) e n is)

refused_given : (text : List ℕ) (e : QueryError) → e ≢ error.Memory → IsQueryError text e → reading text ≡ Err e
refused_given text (error.TooLong have) n h = lex_given text (lex.TooLong have) (λ m. cc) h
refused_given text (error.Byte at) n h = lex_given text (lex.Byte at) (λ m. cc) h
refused_given text (error.NumberRange at) n h = lex_given text (lex.NumberRange at) (λ m. cc) h
refused_given text (error.Syntax at) n h = parse_given text (parse.Syntax at) (λ m. cc) h
refused_given text (error.TooDeep at) n h = parse_given text (parse.TooDeep at) (λ m. cc) h
refused_given text (error.InTooLong at) n h = parse_given text (parse.InTooLong at) (λ m. cc) h
refused_given text (error.BadLike at) n h = parse_given text (parse.BadLike at) (λ m. cc) h
refused_given text error.Memory n h = absurd (n refl)

pub one_query : (text : List ℕ) (a b : Select) → Spells text a → Spells text b → a ≡ b
one_query text a b p q = let h : reading text ≡ Ok a = spelled_read text a p in let k : reading text ≡ Ok b = spelled_read text b q in cc

pub one_error : (text : List ℕ) (a b : QueryError) → a ≢ error.Memory → b ≢ error.Memory → IsQueryError text a → IsQueryError text b → a ≡ b
one_error text a b m n p q = let h : reading text ≡ Err a = refused_given text a m p in let k : reading text ≡ Err b = refused_given text b n q in cc

pub not_both : (text : List ℕ) (q : Select) (e : QueryError) → e ≢ error.Memory → Spells text q → IsQueryError text e → ⊥
not_both text q e n s h = let a : reading text ≡ Ok q = spelled_read text q s in let b : reading text ≡ Err e = refused_given text e n h in cc

abbrev pub Either : List ℕ → Type 0
Either text = ((q : Select) × Spells text q) ⊎ ((e : QueryError) × (e ≢ error.Memory) × IsQueryError text e)

of_tokens : (text : List ℕ) (tokens : List Token) → IsQueryText text → IsLexed text tokens → Either text
of_tokens text tokens short lexed = elim (given.either (seen tokens)) [
  | inl read ↦ inl (read.0, record { tokens = tokens; short = short; lexed = lexed; derived = read.1 })
  | inr none ↦ inr (parse_refusal none.0, parse_known none.0 none.1, parse_refused text none.0 (tokens, short, lexed, none.2))
]

pub either : (text : List ℕ) → Either text
either text = elim (scanned.either text) [
  | inl read ↦ of_tokens text read.0 read.1 read.2
  | inr none ↦ inr (lex_refusal none.0, lex_known none.0 none.1, lex_refused text none.0 none.2)
]

-- what the reader answers

same_tokens : (text : List ℕ) (tokens : List Token) (tree : Select) → IsLexed text tokens → Spells text tree → IsQueryWithin (seen tokens) tree
same_tokens text tokens tree lexed s = subst (λ (ts : List Token). IsQueryWithin (seen ts) tree) (scanned.one_list text s.tokens tokens s.lexed lexed) s.derived

pub parse_only : (text : List ℕ) (tokens : List Token) (e : ParseError) → IsLexed text tokens → ((tree : Select) → IsQueryWithin (seen tokens) tree → Parses tree (Err e)) →
    (tree : Select) → Spells text tree → parse_refusal e ≡ error.Memory
parse_only text tokens e lexed only tree s = ap parse_refusal (only tree (same_tokens text tokens tree lexed s))

pub read_only : (text : List ℕ) (tokens : List Token) (q : Query) → IsLexed text tokens → ((tree : Select) → IsQueryWithin (seen tokens) tree → Parses tree (Ok q)) →
    (tree : Select) → Spells text tree → select_of q ≡ tree
read_only text tokens q lexed only tree s = only tree (same_tokens text tokens tree lexed s)

-- the query of a text is parsed, and what is parsed is formed

pub spelled_parsed : (text : List ℕ) (q : Select) → Spells text q → IsParsed q
spelled_parsed text q s = let few = no_more_than_bytes text s.tokens s.lexed in let short = s.short in record {
  tokens = s.tokens;
  few = omega arith;
  are_tokens = lexed_are_tokens text s.tokens s.lexed;
  derived = s.derived;
}

pub parsed_formed : (q : Select) → IsParsed q → IsFormed q
parsed_formed q p = formed (seen p.tokens) q (without_limits (seen p.tokens) q p.derived)

seen_length : (tokens : List Token) → length (seen tokens) ≡ length tokens
seen_length [] = refl
seen_length (t ∷ ts) = ap suc (seen_length ts)

pub parsed_columns : (q : Select) → IsParsed q → length (columns_of q) ≤ MAX_QUERY_BYTES
parsed_columns q p = let few = p.few in let h = columns_few (seen p.tokens) q (without_limits (seen p.tokens) q p.derived) in omega (arith, seen_length p.tokens)
