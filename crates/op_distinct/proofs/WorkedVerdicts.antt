-- The worked verdicts, computed.
use Rattle.std.proofs.Common.{refl}
use Rattle.ch_ir.specs.Hash.{hash_of, hash_step}
use Rattle.op_distinct.specs.Worked.{Worked}

pub worked : Worked
unfolding hash_of hash_step
worked = record { one_cached = refl; latest_first = refl; shut_first = refl; pairs = refl; policy = refl }
