use Rattle.std.proofs.Common.{◌≡◌, ◌≤◌, ℤ, List, length, take, drop}
use Rattle.ch_lists.specs.Members.{In}
use Rattle.ch_fold_pairs.specs.Pairs.{pair_lines, partner_lines}
use Rattle.ch_fold_pairs.proofs.pairs.joined.Given as goal

abbrev pub invariant-loop-at : goal.invariant-loop-at
invariant-loop-at l = record {
  within : l.from ≤ length l.right;
  lines : l.lines ≡ record { width = length l.query.printed; rows = pair_lines l.ranks l.query (take l.at l.left) l.right };
  passed : (a : List ℤ) → In a (drop l.at l.left) → partner_lines l.ranks l.query l.right a ≡ partner_lines l.ranks l.query (drop l.from l.right) a;
}
