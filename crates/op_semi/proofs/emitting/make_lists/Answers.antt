use Rattle.std.proofs.Common.{◌+◌, List, [], ◌∷◌, ◌++◌, ◌∙◌, ap}
use Rattle.std.proofs.lemmas.Result.{on_ok_weaker}
use Rattle.ch_ir.specs.declared.program.Operand.{Operand}
use Rattle.op_moves.specs.Built.{stages_after}
use Rattle.op_bloom.specs.Program.{end_of}
use Rattle.op_cache.specs.Emitted.{columns}
use Rattle.op_semi.specs.Program.{key_word}
use Rattle.op_semi.proofs.emitting.make_lists.Goals as goal

pub returns : goal.returns
returns c = on_ok_weaker c.emit_columns.result (λ h. λ rest.
    let d = c.args.sizes in
    let e = end_of d.bloom in
    h rest ∙ ap (λ (carried : List Operand). stages_after c.args.builder.now (columns d.cols d.bloom.hashes (e + 3) (e + 2) (e + 1) (key_word d ∷ []) carried ++ rest)) c.in_ok-carried.ensures) c.emit_columns.ensures
