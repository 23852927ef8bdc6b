use Rattle.std.proofs.Common.{List, ◌∷◌, ◌∙◌, ap, length}
use Rattle.std.proofs.lemmas.Result.{on_ok_weaker}
use Rattle.ch_ir.specs.declared.program.Access.{Access}
use Rattle.op_moves.specs.Moves.{Move, Compute, Reach}
use Rattle.op_moves.specs.Built.{stages_after}
use Rattle.op_cache.specs.Emitted.{gate_op}
use Rattle.op_cache.proofs.columns.emit_column.Goals as goal

pub returns : goal.returns
returns c = on_ok_weaker c.compute.result (λ h. λ rest.
    let next : Move = Compute (gate_op (length c.args.words.now) c.args.place.base c.args.place.gate) in
    h rest ∙ (c.in_ok-reach.ensures (next ∷ rest) ∙ ap (λ (x : Access). stages_after c.args.builder.now (Reach x ∷ next ∷ rest)) c.in_ok-access.ensures)) c.compute.ensures
