-- The refusals in words of the places, for the proofs.
use Rattle.std.proofs.Common.{ℕ, ◌+◌, ◌≡◌, List, [], ◌∷◌, ◌++◌, length, Option, Some, None}
use Rattle.ch_sql_grammar.specs.declared.terminal.Terminal.{Terminal}
use Rattle.ch_sql_grammar.specs.declared.error.ParseError.{ParseError}
use Rattle.ch_sql_grammar.specs.declared.error.ParseError.TheVariants as error
use Rattle.ch_sql_places.specs.Machine.{Place, step, limit, start}
use Rattle.ch_sql_grammar.specs.Grammar.{Begins, IsEnd}

abbrev pub passes : Option Place → Option ParseError → (Place → Option Place) → Option Place
passes None refused f = None
passes (Some next) (Some e) f = None
passes (Some next) None f = f next

-- the place to which tokens lead, none of which is refused
abbrev pub pass : Place → ℕ → List Terminal → Option Place
pass place at [] = Some place
pass place at (t ∷ ts) = passes (step place t) (limit place at t) (λ next. pass next (at + 1) ts)

pub record StopsAt (tokens : List Terminal) (at : ℕ) : Type 0 where
  pub front : List Terminal
  pub rest : List Terminal
  pub place : Place
  pub whole : tokens ≡ front ++ rest
  pub here : at ≡ length front
  pub taken : pass start 0 front ≡ Some place
  pub begins : Begins front
  pub ends : IsEnd front rest

pub record LimitedBy (tokens : List Terminal) (e : ParseError) : Type 0 where
  pub front : List Terminal
  pub token : Terminal
  pub rest : List Terminal
  pub place : Place
  pub whole : tokens ≡ front ++ (token ∷ rest)
  pub taken : pass start 0 front ≡ Some place
  pub begins : Begins (front ++ (token ∷ []))
  pub limited : limit place (length front) token ≡ Some e

abbrev pub IsGiven : List Terminal → ParseError → Type 0
IsGiven tokens error.Memory = Unit {0}
IsGiven tokens (error.Syntax at) = StopsAt tokens at
IsGiven tokens (error.TooDeep at) = LimitedBy tokens (error.TooDeep at)
IsGiven tokens (error.InTooLong at) = LimitedBy tokens (error.InTooLong at)
IsGiven tokens (error.BadLike at) = LimitedBy tokens (error.BadLike at)
