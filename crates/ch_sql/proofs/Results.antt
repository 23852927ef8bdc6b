-- What the whole reading says of its result.
use Rattle.std.proofs.Common.{◌≡◌, ◌∙◌, List, Result, Ok, Err, IfOk, IfErr, refl, sym, subst}
use Rattle.ch_sql_tokens.specs.declared.token.Token.{Token}
use Rattle.ch_sql_grammar.specs.declared.terminal.Terminal.{Terminal}
use Rattle.ch_sql_grammar.specs.declared.error.ParseError.{ParseError}
use Rattle.ch_sql_grammar.specs.declared.error.ParseError.TheVariants as error
use Rattle.ch_sql_grammar.specs.declared.query.Query.{Query}
use Rattle.ch_sql_grammar.specs.Tree.{Select, select_of}
use Rattle.ch_sql_places.specs.Machine.{parse_from, start}
use Rattle.ch_sql_places.specs.Parsing.{parse_at, Moves}
use Rattle.ch_sql_places.proofs.Judged.{refusals}
use Rattle.ch_sql_limits.specs.Limits.{IsQueryWithin}
use Rattle.ch_sql_limits.proofs.Within.{within_read, read_within}
use Rattle.ch_sql_places.specs.Refusal.{IsRefusal}
use Rattle.ch_sql_limits.specs.Texts.{seen}
use Rattle.ch_sql.specs.Parsed.{Parses}

abbrev Answered : List Terminal → Result Query ParseError → Type 0
Answered toks r = Moves (parse_at toks start 0) (λ q. Ok (select_of q)) r

seen_answered : (toks : List Terminal) (tokens : List Token) (r : Result Query ParseError) → toks ≡ seen tokens → Answered toks r → Answered (seen tokens) r
seen_answered toks tokens r same m = let P : List Terminal → Type 0 = λ ts. Answered ts r in subst P same m

parsed_so : (tokens : List Token) (r : Result Query ParseError) → Answered (seen tokens) r → IfOk r (λ q. IsQueryWithin (seen tokens) (select_of q))
unfolding parse_at
parsed_so tokens (Ok q) m = read_within (seen tokens) (select_of q) m
parsed_so tokens (Err e) m = tt

refused_so : (tokens : List Token) (r : Result Query ParseError) → Answered (seen tokens) r → IfErr r (IsRefusal (seen tokens))
unfolding parse_at
refused_so tokens (Ok q) m = tt
refused_so tokens (Err e) m = refusals (seen tokens) (Err e) m

only_so : (tokens : List Token) (r : Result Query ParseError) (tree : Select) → parse_from start 0 (seen tokens) ≡ Ok tree → Answered (seen tokens) r → Parses tree r
unfolding parse_at
only_so tokens (Ok q) tree is m = let e : Ok (select_of q) ≡ Ok tree = sym m ∙ is in cc
only_so tokens (Err error.Memory) tree is m = refl
only_so tokens (Err (error.Syntax at)) tree is m = cc
only_so tokens (Err (error.TooDeep at)) tree is m = cc
only_so tokens (Err (error.InTooLong at)) tree is m = cc
only_so tokens (Err (error.BadLike at)) tree is m = cc

pub parsed : (toks : List Terminal) (tokens : List Token) (r : Result Query ParseError) → toks ≡ seen tokens → Answered toks r → IfOk r (λ q. IsQueryWithin (seen tokens) (select_of q))
parsed toks tokens r same m = parsed_so tokens r (seen_answered toks tokens r same m)

pub refused : (toks : List Terminal) (tokens : List Token) (r : Result Query ParseError) → toks ≡ seen tokens → Answered toks r → IfErr r (IsRefusal (seen tokens))
refused toks tokens r same m = refused_so tokens r (seen_answered toks tokens r same m)

pub only : (toks : List Terminal) (tokens : List Token) (r : Result Query ParseError) → toks ≡ seen tokens → Answered toks r → (tree : Select) → IsQueryWithin (seen tokens) tree → Parses tree r
only toks tokens r same m tree is = only_so tokens r tree (within_read (seen tokens) tree is) (seen_answered toks tokens r same m)
