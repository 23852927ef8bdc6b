use Rattle.std.proofs.Common.{[], ◌∷◌, subst}
use Rattle.std.proofs.lemmas.Result.{on_ok_weaker}
use Rattle.ch_ir.specs.declared.program.Access.{Access}
use Rattle.op_moves.specs.Built.{HasMade, then_made}
use Rattle.op_moves.specs.Moves.{Reach}
use Rattle.op_skyline.specs.Emitted.{computes, point_access, told_ops}
use Rattle.op_skyline.proofs.program.make_point.Goals as goal

pub returns : goal.returns
returns c =
    let p = c.args.place in
    let b0 = c.args.builder.now in
    let b1 = c.reach.new.self in
    let reached = subst (λ (x : Access). HasMade (Reach x ∷ []) b0 b1) c.in_ok-access.ensures c.in_ok-reach.ensures in
    on_ok_weaker c.make_told.result (λ told.
    then_made (Reach (point_access p.dimensions c.args.array p.base p.gate p.carry p.key) ∷ []) (computes (told_ops p.dimensions p.base p.gate p.carry p.values p.score)) b0 b1 c.make_told.new.builder reached told)
    c.make_told.ensures
