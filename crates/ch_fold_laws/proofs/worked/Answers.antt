use Rattle.std.proofs.Common.{refl}
use Rattle.ch_fold_laws.proofs.worked.Goals as goal

pub returns : goal.returns
returns _ = record {
  sums = refl;
  found = refl;
  there = refl;
  there_again = refl;
  new = refl;
  keys_same = refl;
  keys_more = refl;
  greatest = refl;
  least = refl;
  firsts = refl;
}
