-- The lines that refuse a query.
use Rattle.std.specs.Prelude.{ℕ, List, [], ◌∷◌, codes}
use Rattle.std.specs.Fmt.{decimal}
use Rattle.std.specs.List.{concat}
use Rattle.ch_command.specs.Lines.{memory_line}
use Rattle.ch_sql.specs.declared.read.QueryError.{QueryError}
use Rattle.ch_sql.specs.declared.read.QueryError.TheVariants as error

abbrev pub query_line : QueryError → List ℕ
query_line (error.TooLong have) = concat (codes "input: query too long, " ∷ decimal have ∷ codes " bytes\n" ∷ [])
query_line (error.Byte at) = concat (codes "input: query byte " ∷ decimal at ∷ codes ": not a token\n" ∷ [])
query_line (error.NumberRange at) = concat (codes "input: query byte " ∷ decimal at ∷ codes ": number out of range\n" ∷ [])
query_line (error.Syntax at) = concat (codes "input: query token " ∷ decimal at ∷ codes ": not a query\n" ∷ [])
query_line (error.TooDeep at) = concat (codes "input: query token " ∷ decimal at ∷ codes ": too deep\n" ∷ [])
query_line (error.InTooLong at) = concat (codes "input: query token " ∷ decimal at ∷ codes ": list too long\n" ∷ [])
query_line (error.BadLike at) = concat (codes "input: query token " ∷ decimal at ∷ codes ": bad pattern\n" ∷ [])
query_line error.Memory = memory_line
