use Rattle.std.proofs.Common.{refl}
use Rattle.ch_pack.proofs.laws.worked.Goals as goal

pub returns : goal.returns
returns _ = record { twice = refl; unlike = refl; fits = refl; reached = refl; stages = refl; words = refl; cells = refl; width = refl }
