use Rattle.std.proofs.Common.{refl, Some, None}
use Rattle.std.proofs.lemmas.Bool.{lt-ltb}
use Rattle.ch_prune.proofs.laws.fronts_tell.Goals as goal

pub returns : goal.returns
returns _ width None pass r h = rw (lt-ltb 2 width h) refl
returns _ width (Some slot) pass r h = rw (lt-ltb 2 width h) refl
