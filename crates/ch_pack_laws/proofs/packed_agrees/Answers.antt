use Rattle.ch_pack_laws.specs.Handing as laws
use Rattle.ch_pack_laws.proofs.packed_agrees.Goals as goal

pub returns : goal.returns
returns _ = laws.packed_agrees
