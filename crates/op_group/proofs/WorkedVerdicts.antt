-- The worked verdicts, computed.
use Rattle.std.proofs.Common.{refl}
use Rattle.ch_ir.specs.Hash.{hash_of, hash_step}
use Rattle.op_group.specs.Worked.{Worked}

pub worked : Worked
unfolding hash_of hash_step
worked = record { replaces = refl; both_listed = refl; greatest = refl; least = refl; shut = refl; keys = refl; policy = refl }
