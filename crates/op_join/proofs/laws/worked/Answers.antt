use Rattle.std.proofs.Common.{refl}
use Rattle.ch_ir.specs.Hash.{hash_of, hash_step}
use Rattle.op_join.proofs.laws.worked.Goals as goal

pub returns : goal.returns
unfolding hash_of hash_step
returns _ = record { on_one_cell = (refl, refl); on_two_cells = (refl, refl); shut_row = (refl, refl); at_places = (refl, refl) }
