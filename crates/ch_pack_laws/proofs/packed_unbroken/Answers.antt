use Rattle.ch_pack_laws.specs.LawfulPlans as laws
use Rattle.ch_pack_laws.proofs.packed_unbroken.Goals as goal

pub returns : goal.returns
returns _ = laws.packed_unbroken
