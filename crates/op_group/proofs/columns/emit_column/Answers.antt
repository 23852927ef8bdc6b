use Rattle.std.proofs.Common.{List, ◌++◌, ◌∷◌, ◌∙◌, ap, length}
use Rattle.std.proofs.lemmas.Result.{on_ok_weaker}
use Rattle.ch_ir.specs.declared.program.Access.{Access}
use Rattle.op_moves.specs.Moves.{Move, Reach}
use Rattle.op_moves.specs.Built.{stages_after}
use Rattle.op_group.specs.Program.{told}
use Rattle.op_group.proofs.columns.emit_column.Goals as goal

pub returns : goal.returns
returns c = on_ok_weaker c.emit_told.result (λ h. λ rest.
    let p = c.args.place in
    let next : List Move = told (length c.args.words.now) p.base p.gate p.value p.bad ++ rest in
    h rest ∙ (c.in_ok-reach.ensures next ∙ ap (λ (x : Access). stages_after c.args.builder.now (Reach x ∷ next)) c.in_ok-access.ensures)) c.emit_told.ensures
