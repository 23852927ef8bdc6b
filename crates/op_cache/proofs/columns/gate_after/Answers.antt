use Rattle.std.proofs.Common.{◌≡◌, ◌≢◌, ℕ, suc, ◌-◌, ◌∙◌, ap, sym, arith}
use Rattle.op_cache.specs.Emitted.{gate_after}
use Rattle.op_cache.specs.InOrder.{gate_is}
use Rattle.op_cache.proofs.columns.gate_after.Goals as goal

pub returns-else-cols-eq0 : goal.returns-else-cols-eq0
returns-else-cols-eq0 c =
    let some : c.args.cols ≢ 0 = c.if-cols-eq0.false in
    let e : suc (c.args.cols - 1) ≡ c.args.cols = omega arith in
    sym (gate_is c.args.keys (c.args.cols - 1) c.args.base c.args.gate) ∙ ap (λ (m : ℕ). gate_after c.args.keys m c.args.base c.args.gate) e
