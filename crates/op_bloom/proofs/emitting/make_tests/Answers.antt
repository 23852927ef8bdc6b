use Rattle.std.proofs.Common.{◌∷◌, ◌∙◌}
use Rattle.std.proofs.lemmas.Result.{on_ok_weaker}
use Rattle.op_moves.specs.Moves.{Move, Compute}
use Rattle.op_bloom.specs.Program.{bad_op, clear_op}
use Rattle.op_bloom.proofs.emitting.make_tests.Goals as goal

pub returns : goal.returns
returns c = on_ok_weaker c.compute-3.result (λ h. λ rest.
    let p = c.args.place in
    let move3 : Move = Compute (bad_op p.base p.bad) in
    let move2 : Move = Compute (clear_op p.base) in
    h rest ∙ (c.in_ok-compute-2.ensures (move3 ∷ rest) ∙ c.in_ok-compute.ensures (move2 ∷ move3 ∷ rest))) c.compute-3.ensures
