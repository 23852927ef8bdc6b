use Rattle.ch_pack_laws.specs.Steps.{packed_packs}
use Rattle.ch_pack_laws.proofs.packed_steps.Goals as goal

pub returns : goal.returns
returns _ = packed_packs
