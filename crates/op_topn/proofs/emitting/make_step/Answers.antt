use Rattle.std.proofs.Common.{◌+◌, List, [], ◌∷◌, ◌∙◌, ℤ, subst, rules, w64}
use Rattle.std.proofs.lemmas.Int.{to_z-of_z}
use Rattle.std.proofs.lemmas.Result.{on_ok_weaker}
use Rattle.ch_ir.specs.declared.program.Access.{Access}
use Rattle.ch_ir.specs.declared.program.Binary.TheVariants as binary
use Rattle.ch_ir.specs.declared.program.Op.TheVariants.{Two}
use Rattle.ch_ir.specs.declared.program.Operand.TheVariants.{Word, Const}
use Rattle.op_moves.specs.Built.{HasMade, then_made}
use Rattle.op_moves.specs.Moves.{Move, Compute, Reach}
use Rattle.op_topn.specs.Emitted.{beaten_op, count_access, enough_op, far_op, or_op, reach_op}
use Rattle.op_topn.specs.Policy.{distance}
use Rattle.op_topn.proofs.emitting.make_step.Goals as goal

pub returns : goal.returns
returns c =
    let s = c.args.sizes in
    let w = s.width in
    let i = c.args.threshold in
    let base = c.args.bad in
    let b0 = c.args.builder.now in
    let b1 = c.compute.new.self in
    let b2 = c.compute-2.new.self in
    let b3 = c.reach.new.self in
    let b4 = c.compute-3.new.self in
    let b5 = c.compute-4.new.self in
    let b6 = c.compute-5.new.self in
    let m6 : List Move = Compute (or_op base) ∷ [] in
    let m5 : List Move = Compute (beaten_op base) ∷ m6 in
    let m4 : List Move = Compute (enough_op base s.limit) ∷ m5 in
    let m3 : List Move = Reach (count_access w base i) ∷ m4 in
    let m2 : List Move = Compute (reach_op w base) ∷ m3 in
    let p1 = subst (λ (v : ℤ). HasMade (Compute (Two (base + 1) binary.Add (Word (w + 3)) (Const v)) ∷ []) b0 b1) (to_z-of_z w64 c.distance.result (search rules) ∙ c.distance.ensures) c.in_ok-compute.ensures in
    let p3 = subst (λ (x : Access). HasMade (Reach x ∷ []) b2 b3) c.in_ok-count.ensures c.in_ok-reach.ensures in
    let p4 = subst (λ (v : ℤ). HasMade (Compute (Two (base + 5) binary.Le (Const v) (Word (base + 3))) ∷ []) b3 b4) (to_z-of_z w64 c.from.result (search rules) ∙ c.from.ensures) c.in_ok-compute-3.ensures in
    on_ok_weaker c.compute-5.result (λ p6.
    then_made (Compute (far_op w base (distance s.gap i)) ∷ []) m2 b0 b1 b6 p1 (then_made (Compute (reach_op w base) ∷ []) m3 b1 b2 b6 c.in_ok-compute-2.ensures
    (then_made (Reach (count_access w base i) ∷ []) m4 b2 b3 b6 p3 (then_made (Compute (enough_op base s.limit) ∷ []) m5 b3 b4 b6 p4
    (then_made (Compute (beaten_op base) ∷ []) m6 b4 b5 b6 c.in_ok-compute-4.ensures p6))))) c.compute-5.ensures
