use Rattle.std.proofs.Common.{refl}
use Rattle.ch_ir.specs.Hash.{hash_of, hash_step}
use Rattle.op_semi.proofs.laws.worked.Goals as goal

pub returns : goal.returns
unfolding hash_of hash_step
returns _ = record { one_key = (refl, refl); latest_used = (refl, refl); failed = (refl, refl); hash_rows = (refl, refl) }
