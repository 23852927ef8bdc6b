-- From place to place.
use Rattle.std.proofs.Common.{◌≡◌, Result, Ok, Err, IsErrAnd, ◌∙◌}
use Rattle.std.proofs.lemmas.Result.{err_from_is_err_and}
use Rattle.ch_sql_grammar.specs.Tree.{Select}
use Rattle.ch_sql_grammar.specs.declared.error.ParseError.{ParseError}
use Rattle.ch_sql_grammar.specs.declared.error.ParseError.TheVariants as error
use Rattle.ch_sql_places.specs.Parsing.{Fails, Moves}

pub fails_along : (from mid : Result Select ParseError) (e : ParseError) → from ≡ mid → Fails mid e → Fails from e
fails_along from mid error.Memory q h = tt
fails_along from mid (error.Syntax at) q h = q ∙ h
fails_along from mid (error.TooDeep at) q h = q ∙ h
fails_along from mid (error.InTooLong at) q h = q ∙ h
fails_along from mid (error.BadLike at) q h = q ∙ h

pub along : {X : Type 0} → (from mid : Result Select ParseError) (next : X → Result Select ParseError) (r : Result X ParseError) → from ≡ mid → Moves mid next r → Moves from next r
along from mid next (Ok x) q h = q ∙ h
along from mid next (Err e) q h = fails_along from mid e q h

-- the exit of a `?`
pub exits : {X : Type 0} → (from mid : Result Select ParseError) (next : X → Result Select ParseError) (r : Result X ParseError) (e : ParseError) →
    IsErrAnd r (λ y. y ≡ e) → from ≡ mid → Fails mid e → Moves from next r
exits from mid next r e is q h =
    let p = err_from_is_err_and r is in
    rw (p.1, p.2) (fails_along from mid e q h)
