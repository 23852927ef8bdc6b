use Rattle.std.proofs.Common.{◌+◌, ◌*◌, ℕ, List, ◌∷◌, ◌∙◌, ap, ap₂}
use Rattle.std.proofs.lemmas.Result.{on_ok_weaker}
use Rattle.ch_ir.specs.declared.program.Op.TheVariants.{Hash}
use Rattle.ch_ir.specs.declared.program.Access.{Access}
use Rattle.op_moves.specs.Built.{stages_after}
use Rattle.op_moves.specs.Moves.{Move, Compute, Reach}
use Rattle.op_bloom.specs.Program.{bit_op, cell_op, entry_op, filter_access, put_op}
use Rattle.op_bloom.proofs.emitting.make_places.Goals as goal

pub returns : goal.returns
returns c = on_ok_weaker c.reach.result (λ h. λ rest.
    let d = c.args.sizes in
    let p = c.args.place in
    let move6 : Move = Reach (filter_access d p.hash p.base) in
    let move5 : Move = Compute (put_op d p.base) in
    let move4 : Move = Compute (entry_op d p.base) in
    let move3 : Move = Compute (cell_op d p.hash p.base) in
    let move2 : Move = Compute (bit_op p.base) in
    h rest
    ∙ (ap (λ (x : Access). stages_after c.compute-5.new.self (Reach x ∷ rest)) c.in_ok-access.ensures
    ∙ (c.in_ok-compute-5.ensures (move6 ∷ rest)
    ∙ (c.in_ok-compute-4.ensures (move5 ∷ move6 ∷ rest)
    ∙ (c.in_ok-compute-3.ensures (move4 ∷ move5 ∷ move6 ∷ rest)
    ∙ (ap₂ (λ (seed : ℕ) (words : List ℕ). stages_after c.compute-2.new.self (Compute (Hash (p.base + 2) (2 * seed + 1) d.cells words) ∷ move4 ∷ move5 ∷ move6 ∷ rest)) c.from-seed.ensures c.in_ok-key-2.ensures
    ∙ (c.in_ok-compute-2.ensures (move3 ∷ move4 ∷ move5 ∷ move6 ∷ rest)
    ∙ (c.in_ok-compute.ensures (move2 ∷ move3 ∷ move4 ∷ move5 ∷ move6 ∷ rest)
    ∙ ap₂ (λ (seed : ℕ) (words : List ℕ). stages_after c.args.builder.now (Compute (Hash p.base (2 * seed) 32 words) ∷ move2 ∷ move3 ∷ move4 ∷ move5 ∷ move6 ∷ rest)) c.from-seed.ensures c.in_ok-key.ensures)))))))) c.reach.ensures
