-- Which fates a line can tell.
use Rattle.std.specs.Prelude.{Bool, true, false, List, [], ◌∷◌}
use Rattle.ch_protocol.specs.declared.fate.NoteFate.{NoteFate}
use Rattle.ch_protocol.specs.declared.fate.NoteFate.TheVariants.{Nothing, Dropped, Pruned, Forwarded, Passed, New, Old, Taken, Ignored, Lost}
use Rattle.ch_schedule.specs.declared.step.How.{How}
use Rattle.ch_schedule.specs.declared.step.How.TheVariants.{Take, Keep, Lose}
use Rattle.ch_schedule.specs.declared.step.Link.{Link}
use Rattle.ch_schedule.specs.declared.step.Link.TheVariants as link

-- what becomes of a packet that is delivered on a link
abbrev pub delivered : Link → List NoteFate
delivered link.Up = Dropped ∷ Pruned ∷ Forwarded ∷ Passed ∷ []
delivered link.Down = New ∷ Old ∷ []
delivered link.Back = Taken ∷ Ignored ∷ []

abbrev pub met : Link → How → List NoteFate
met l Take = delivered l
met l Keep = delivered l
met l Lose = Lost ∷ []

-- what becomes of an event of a link, where a packet is at the place or isn't
abbrev pub fates_for : Link → How → Bool → List NoteFate
fates_for l how false = Nothing ∷ []
fates_for l how true = met l how
