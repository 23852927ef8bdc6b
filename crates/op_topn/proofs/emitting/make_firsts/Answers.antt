use Rattle.std.proofs.Common.{◌+◌, ◌^◌, List, [], ◌∷◌, pos, subst}
use Rattle.std.proofs.lemmas.Result.{on_ok_weaker}
use Rattle.ch_ir.specs.declared.program.Access.{Access}
use Rattle.ch_ir.specs.declared.program.Binary.{Binary}
use Rattle.ch_ir.specs.declared.program.Binary.TheVariants as binary
use Rattle.ch_ir.specs.declared.program.Op.TheVariants.{Two}
use Rattle.ch_ir.specs.declared.program.Operand.{Operand}
use Rattle.ch_ir.specs.declared.program.Operand.TheVariants.{Word, Const}
use Rattle.op_moves.specs.Built.{HasMade, then_made}
use Rattle.op_moves.specs.Moves.{Move, Compute, Reach}
use Rattle.op_topn.specs.Emitted.{bad_op, below_op, bit_op, first_access, greatest_access, later_op, pick_op, turned_op}
use Rattle.op_topn.proofs.emitting.make_firsts.Goals as goal

pub returns : goal.returns
returns c =
    let s = c.args.sizes in
    let w = s.width in
    let b0 = c.args.builder.now in
    let b1 = c.compute.new.self in
    let b2 = c.reach.new.self in
    let b3 = c.compute-2.new.self in
    let b4 = c.compute-3.new.self in
    let b5 = c.reach-2.new.self in
    let b6 = c.compute-4.new.self in
    let b7 = c.compute-5.new.self in
    let b8 = c.compute-6.new.self in
    let m8 : List Move = Compute (bad_op w) ∷ [] in
    let m7 : List Move = Compute (below_op w) ∷ m8 in
    let m6 : List Move = Compute (later_op w) ∷ m7 in
    let m5 : List Move = Reach (greatest_access w) ∷ m6 in
    let m4 : List Move = Compute (pick_op w) ∷ m5 in
    let m3 : List Move = Compute (turned_op w s.descending s.value) ∷ m4 in
    let m2 : List Move = Reach (first_access w s.limit) ∷ m3 in
    let p1 = subst (λ (a : Operand). HasMade (Compute (Two w binary.Ne a (Const (pos 0))) ∷ []) b0 b1) c.operand.ensures c.in_ok-compute.ensures in
    let p2 = subst (λ (x : Access). HasMade (Reach x ∷ []) b1 b2) c.in_ok-first.ensures c.in_ok-reach.ensures in
    let p3 = subst (λ (k : Binary). HasMade (Compute (Two (w + 3) k (Const (pos (2 ^ 61))) (Word s.value)) ∷ []) b2 b3) c.turn.ensures c.in_ok-compute-2.ensures in
    let p5 = subst (λ (x : Access). HasMade (Reach x ∷ []) b4 b5) c.in_ok-greatest.ensures c.in_ok-reach-2.ensures in
    on_ok_weaker c.compute-6.result (λ p8.
    then_made (Compute (bit_op w) ∷ []) m2 b0 b1 b8 p1 (then_made (Reach (first_access w s.limit) ∷ []) m3 b1 b2 b8 p2
    (then_made (Compute (turned_op w s.descending s.value) ∷ []) m4 b2 b3 b8 p3 (then_made (Compute (pick_op w) ∷ []) m5 b3 b4 b8 c.in_ok-compute-3.ensures
    (then_made (Reach (greatest_access w) ∷ []) m6 b4 b5 b8 p5 (then_made (Compute (later_op w) ∷ []) m7 b5 b6 b8 c.in_ok-compute-4.ensures
    (then_made (Compute (below_op w) ∷ []) m8 b6 b7 b8 c.in_ok-compute-5.ensures p8))))))) c.compute-6.ensures
