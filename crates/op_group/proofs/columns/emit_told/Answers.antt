use Rattle.std.proofs.Common.{◌∷◌, ◌∙◌}
use Rattle.std.proofs.lemmas.Result.{on_ok_weaker}
use Rattle.op_moves.specs.Moves.{Move, Compute}
use Rattle.op_group.specs.Program.{bad_op, beat_op, open_op}
use Rattle.op_group.proofs.columns.emit_told.Goals as goal

pub returns : goal.returns
returns c = on_ok_weaker c.compute-4.result (λ h. λ rest.
    let p = c.args.place in
    let beat : Move = Compute (beat_op c.args.keys p.base) in
    let bad : Move = Compute (bad_op c.args.keys p.base p.bad) in
    let last : Move = Compute (open_op c.args.keys p.base p.gate) in
    h rest ∙ (c.in_ok-compute-3.ensures (last ∷ rest) ∙ (c.in_ok-compute-2.ensures (bad ∷ last ∷ rest) ∙ c.in_ok-compute.ensures (beat ∷ bad ∷ last ∷ rest)))) c.compute-4.ensures
