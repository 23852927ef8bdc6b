use Rattle.ch_pack_laws.specs.Measured as laws
use Rattle.ch_pack_laws.proofs.packed_within.Goals as goal

pub returns : goal.returns
returns _ = laws.packed_within
