use Rattle.std.proofs.Common.{rules, length}
use Rattle.std.specs.Prelude.{pos, ◌≤ℤ◌, ◌<ℤ◌}
use Rattle.ch_value_rows.proofs.Pairs.{pair_fits}
use Rattle.ch_value_rows.proofs.word_cells.pair_passes.Goals as goal

pub holds_on_pair-requires-clause-fits : goal.holds_on_pair-requires-clause-fits
holds_on_pair-requires-clause-fits c =
    let given = c.is_rank.ensures c.if-is_rank.true in
    let other = c.is_rank-then-is_rank.ensures c.if-is_rank-2.true in
    let left : (pos 0 ≤ℤ c.args.left) × (c.args.left <ℤ pos (length c.args.ranks.now)) = search (rules, given) in
    let right : (pos 0 ≤ℤ c.args.right) × (c.args.right <ℤ pos (length c.args.ranks.now)) = search (rules, other) in
    let fits = pair_fits c.args.ranks.now c.args.left c.args.right left right in
    search (rules, fits)
