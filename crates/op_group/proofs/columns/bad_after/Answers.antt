use Rattle.std.proofs.Common.{◌≡◌, ℕ, suc, ◌-◌, ◌∙◌, ap, sym, arith}
use Rattle.op_group.specs.Program.{bad_after}
use Rattle.op_group.specs.Order.{bad_is}
use Rattle.op_group.proofs.columns.bad_after.Goals as goal

pub returns : goal.returns
returns c =
    let some = c.requires.some in
    let e : suc (c.args.cols - 1) ≡ c.args.cols = omega arith in
    sym (bad_is c.args.keys (c.args.cols - 1) c.args.base c.args.bad) ∙ ap (λ (m : ℕ). bad_after c.args.keys m c.args.base c.args.bad) e
