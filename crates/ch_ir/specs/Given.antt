-- What the reader of a profile holds.
use Rattle.std.specs.Prelude.{◌≡◌, Bool, false, List, get_or}
use Rattle.std.specs.declared.result.Result.{Result}
use Rattle.std.specs.declared.result.Result.TheVariants.{Ok, Err}
use Rattle.ch_ir.specs.declared.read.Reading.{Reading}
use Rattle.ch_ir.specs.declared.read.ProfileWhy.{ProfileWhy}
use Rattle.ch_ir.specs.Profile.{Given, Said}

abbrev pub given_of : List Bool → Given
given_of flags n = get_or flags n false

abbrev pub said_of : Reading → Said
said_of reading = record { profile = reading.profile; given = given_of reading.given }

-- an answer, and what is held after it, as this result says
abbrev pub Gives : {T : Type 0} → Result Said ProfileWhy → Result T ProfileWhy → Said → Type 0
Gives r (Ok done) said = r ≡ Ok said
Gives r (Err why) said = r ≡ Err why
