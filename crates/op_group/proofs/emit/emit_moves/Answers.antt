use Rattle.std.proofs.Common.{ℕ, ◌+◌, List, [], ◌∷◌, ◌++◌, ◌∙◌, ap, sym, pos}
use Rattle.std.proofs.lemmas.List.{append_assoc}
use Rattle.std.proofs.lemmas.Result.{on_ok_weaker}
use Rattle.ch_ir.specs.declared.program.Operand.{Operand}
use Rattle.ch_ir.specs.declared.program.Operand.TheVariants.{Word, Const}
use Rattle.ch_ir.specs.declared.program.Binary.TheVariants as binary
use Rattle.ch_ir.specs.declared.program.Op.{Op}
use Rattle.ch_ir.specs.declared.program.Op.TheVariants.{Two, Hash}
use Rattle.op_moves.specs.Built.{stages_after}
use Rattle.op_moves.specs.Moves.{Move, Compute}
use Rattle.op_group.specs.Sizes.{Sizes}
use Rattle.op_group.specs.Program.{gate_op, last_of, none_op, pairs_of, row_op, value_op, verdict_op}
use Rattle.op_group.proofs.emit.emit_moves.Goals as goal

pub returns : goal.returns
returns c = on_ok_weaker c.compute-5.result (λ h. λ rest.
    let s : Sizes = record { width = c.args.width; rows = c.args.rows; cols = c.args.cols; key = c.args.key.now; value = c.args.value; is_max = c.args.max } in
    let w : ℕ = s.width in
    let last : Move = Compute (verdict_op s) in
    let after_none : List Move = pairs_of s ++ last ∷ rest in
    let after_value : List Move = Compute (none_op s) ∷ after_none in
    let after_row : List Move = Compute (value_op s) ∷ after_value in
    let after_gate : List Move = Compute (row_op s) ∷ after_row in
    h rest
    ∙ (ap (λ (f : ℕ). stages_after c.emit_columns.new.builder (Compute (Two (last_of s) binary.Le (Word w) (Word f)) ∷ rest)) c.bad_after-bad.ensures
    ∙ (c.in_ok-emit_columns.ensures (last ∷ rest)
    ∙ (c.in_ok-compute-4.ensures after_none
    ∙ (c.in_ok-compute-3.ensures after_value
    ∙ (ap (λ (o : Op). stages_after c.compute-2.new.self (Compute o ∷ after_value)) c.value_op.ensures
    ∙ (c.in_ok-compute-2.ensures after_row
    ∙ (ap (λ (places : List ℕ). stages_after c.compute.new.self (Compute (Hash (w + 1) 0 s.rows places) ∷ after_row)) c.in_ok-places.ensures
    ∙ (c.in_ok-compute.ensures after_gate
    ∙ (ap (λ (o : Operand). stages_after c.args.builder.now (Compute (Two w binary.Ne o (Const (pos 0))) ∷ after_gate)) c.operand.ensures
    ∙ ap (λ (moves : List Move). stages_after c.args.builder.now (Compute (gate_op s) ∷ Compute (row_op s) ∷ Compute (value_op s) ∷ Compute (none_op s) ∷ moves)) (sym (append_assoc (pairs_of s) (last ∷ []) rest)))))))))))) c.compute-5.ensures
