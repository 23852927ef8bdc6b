use Rattle.std.proofs.Common.{refl}
use Rattle.ch_ir.specs.Hash.{hash_of, hash_step}
use Rattle.op_having.proofs.laws.worked.Goals as goal

pub returns : goal.returns
unfolding hash_of hash_step
returns _ = record {
  above_ten = (refl, refl);
  above_eleven = (refl, refl);
  shut_row = (refl, refl);
  apart = (refl, refl);
  saturated = (refl, refl);
  counted_rows = (refl, refl);
}
