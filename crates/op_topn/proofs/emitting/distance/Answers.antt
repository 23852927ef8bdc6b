use Rattle.std.proofs.Common.{◌≡◌, ◌≤◌, ℕ, ◌-◌, ◌*◌, ◌^◌, arith, w64}
use Rattle.std.proofs.lemmas.Int.{to_z_pos}
use Rattle.op_topn.specs.Policy.{distance}
use Rattle.op_topn.specs.Values.{small_distance}
use Rattle.op_topn.proofs.emitting.distance.Goals as goal

product_small : (g p gap i : ℕ) → g ≡ gap → p ≡ 2 ^ i → gap ≤ 2 ^ 20 → i ≤ 40 → g * (p - 1) ≤ 2 ^ 60
product_small g p gap i eg ep small few = rw (eg, ep) (small_distance gap i small few)

pub overflow_mul-result : goal.overflow_mul-result
overflow_mul-result c = let k = product_small c.from.result c.pow-gaps.result c.args.gap c.args.threshold c.from.ensures c.pow-gaps.ensures c.requires.gap c.requires.few in omega arith

pub overflow_cast-result : goal.overflow_cast-result
overflow_cast-result c = let k = product_small c.from.result c.pow-gaps.result c.args.gap c.args.threshold c.from.ensures c.pow-gaps.ensures c.requires.gap c.requires.few in omega arith

pub returns : goal.returns
returns c =
    let k = small_distance c.args.gap c.args.threshold c.requires.gap c.requires.few in
    rw (c.from.ensures, c.pow-gaps.ensures) (to_z_pos w64 (distance c.args.gap c.args.threshold) (omega arith))
