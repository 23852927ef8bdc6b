use Rattle.std.proofs.Common.{ℕ, ◌+◌, List, [], ◌∷◌, ◌++◌, ◌∙◌, ap, sym, pos}
use Rattle.std.proofs.lemmas.List.{append_assoc}
use Rattle.std.proofs.lemmas.Result.{on_ok_weaker}
use Rattle.ch_ir.specs.declared.program.Operand.{Operand}
use Rattle.ch_ir.specs.declared.program.Operand.TheVariants.{Word, Const}
use Rattle.ch_ir.specs.declared.program.Binary.TheVariants as binary
use Rattle.ch_ir.specs.declared.program.Op.TheVariants.{Two, Hash}
use Rattle.op_moves.specs.Built.{stages_after}
use Rattle.op_moves.specs.Moves.{Move, Compute}
use Rattle.op_cache.specs.Emitted.{columns}
use Rattle.op_distinct.specs.Sizes.{Sizes}
use Rattle.op_distinct.specs.Program.{gate_op, last_of, lists_of, row_op, verdict_op}
use Rattle.op_distinct.proofs.emit.emit_moves.Goals as goal

pub returns : goal.returns
returns c = on_ok_weaker c.compute-3.result (λ h. λ rest.
    let s : Sizes = record { width = c.args.width; rows = c.args.rows; cols = c.args.cols; key = c.args.key.now } in
    let w : ℕ = s.width in
    let last : Move = Compute (verdict_op s) in
    h rest
    ∙ (ap (λ (f : ℕ). stages_after c.emit_columns.new.builder (Compute (Two (last_of s) binary.Eq (Word f) (Const (pos 0))) ∷ rest)) c.gate_after-fresh.ensures
    ∙ (c.in_ok-emit_columns.ensures (last ∷ rest)
    ∙ (ap (λ (xs : List Operand). stages_after c.compute-2.new.self (columns s.cols 0 (w + 2) w (w + 1) s.key xs ++ last ∷ rest)) c.in_ok-carried.ensures
    ∙ (c.in_ok-compute-2.ensures (lists_of s ++ last ∷ rest)
    ∙ (ap (λ (places : List ℕ). stages_after c.compute.new.self (Compute (Hash (w + 1) 0 s.rows places) ∷ lists_of s ++ last ∷ rest)) c.in_ok-places.ensures
    ∙ (c.in_ok-compute.ensures (Compute (row_op s) ∷ lists_of s ++ last ∷ rest)
    ∙ (ap (λ (o : Operand). stages_after c.args.builder.now (Compute (Two w binary.Ne o (Const (pos 0))) ∷ Compute (row_op s) ∷ lists_of s ++ last ∷ rest)) c.operand.ensures
    ∙ ap (λ (moves : List Move). stages_after c.args.builder.now (Compute (gate_op s) ∷ Compute (row_op s) ∷ moves)) (sym (append_assoc (lists_of s) (last ∷ []) rest)))))))))) c.compute-3.ensures
