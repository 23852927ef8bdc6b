use Rattle.std.proofs.Common.{◌≡◌, ◌++◌, drop}
use Rattle.ch_fold_pairs.specs.Pairs.{partner_lines}
use Rattle.ch_fold_pairs.proofs.pairs.push_partners.Given as goal

abbrev pub invariant-loop-at : goal.invariant-loop-at
invariant-loop-at l = record {
  width : l.lines.width ≡ l.fn.lines.width;
  rows : l.lines.rows ++ partner_lines l.ranks l.query (drop l.at l.right) l.left ≡ l.fn.lines.rows ++ partner_lines l.ranks l.query (drop l.fn.from l.right) l.left;
}
