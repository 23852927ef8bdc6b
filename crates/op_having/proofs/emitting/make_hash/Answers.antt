use Rattle.std.proofs.Common.{◌+◌, ℕ, List, ◌∷◌, ◌∙◌, ap, ap₂, ℤ, w64, rules, refl}
use Rattle.std.proofs.lemmas.Int.{to_z-of_z}
use Rattle.std.proofs.lemmas.Result.{on_ok_weaker}
use Rattle.ch_ir.specs.declared.program.Operand.TheVariants.{Word, Const}
use Rattle.ch_ir.specs.declared.program.Binary.TheVariants as binary
use Rattle.ch_ir.specs.declared.program.Op.TheVariants.{Two, Hash}
use Rattle.ch_ir.specs.declared.program.Access.{Access}
use Rattle.op_moves.specs.Built.{stages_after}
use Rattle.op_moves.specs.Moves.{Move, Compute, Reach}
use Rattle.op_having.specs.Program.{bad_op, low_op, sum_access}
use Rattle.op_having.proofs.emitting.make_hash.Goals as goal

pub returns : goal.returns
returns c = on_ok_weaker c.compute-3.result (λ h. λ rest.
    let d = c.args.sizes.now in
    let p = c.args.place in
    let move4 : Move = Compute (bad_op p.base p.bad) in
    let move3 : Move = Compute (low_op d p.base) in
    let move2 : Move = Reach (sum_access d p.hash p.base) in
    h rest ∙ (c.in_ok-compute-2.ensures (move4 ∷ rest)
    ∙ (ap (λ (v : ℤ). stages_after c.reach.new.self (Compute (Two (p.base + 3) binary.Le (Word (p.base + 1)) (Const v)) ∷ move4 ∷ rest)) (to_z-of_z w64 d.above (search rules))
    ∙ (c.in_ok-reach.ensures (move3 ∷ move4 ∷ rest)
    ∙ (ap (λ (x : Access). stages_after c.compute.new.self (Reach x ∷ move3 ∷ move4 ∷ rest)) (c.in_ok-access.ensures d refl)
    ∙ (c.in_ok-compute.ensures (move2 ∷ move3 ∷ move4 ∷ rest)
    ∙ ap₂ (λ (seed : ℕ) (words : List ℕ). stages_after c.args.builder.now (Compute (Hash p.base seed d.cells words) ∷ move2 ∷ move3 ∷ move4 ∷ rest)) c.from.ensures (c.in_ok-keys.ensures ∙ c.as_slice.ensures))))))) c.compute-3.ensures
