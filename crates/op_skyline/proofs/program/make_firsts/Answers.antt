use Rattle.std.proofs.Common.{ℕ, Bool, ◌+◌, ◌*◌, List, [], ◌∷◌, ◌++◌, pos, OnOk, subst}
use Rattle.std.proofs.lemmas.Result.{on_ok_weaker}
use Rattle.ch_ir.specs.declared.program.Binary.TheVariants as binary
use Rattle.ch_ir.specs.declared.program.Op.{Op}
use Rattle.ch_ir.specs.declared.program.Op.TheVariants.{Set, Two}
use Rattle.ch_ir.specs.declared.program.Operand.{Operand}
use Rattle.ch_ir.specs.declared.program.Operand.TheVariants.{Word, Const}
use Rattle.op_skyline.specs.Computed.{HasComputed, then_computed}
use Rattle.op_skyline.specs.Emitted.{bit_op, copy_ops, sum_ops, turned_ops}
use Rattle.op_skyline.proofs.program.make_firsts.Goals as goal

-- the first ops, with n dimensions
ops : (w n : ℕ) → List ℕ → List Bool → List Op
ops w n places max =
    bit_op w
    ∷ turned_ops (w + 1) places max
    ++ (sum_ops n (w + 1 + n) (w + 1) (Const (pos 0))
    ++ (Set (w + 1 + 2 * n) (Const (pos 1)) ∷ Set (w + 2 + 2 * n) (Word (w + 2 * n)) ∷ copy_ops n (w + 3 + 2 * n) (w + 1) ++ (Set (w + 3 + 3 * n) (Word (w + 2 * n)) ∷ [])))

pub returns : goal.returns
unfolding ops
returns c =
    let s = c.args.sizes.now in
    let w = s.width in
    let n = c.len-n.result in
    let b0 = c.args.builder.now in
    let b1 = c.compute.new.self in
    let b2 = c.make_turned.new.builder in
    let b3 = c.make_sums.new.builder in
    let b4 = c.compute-2.new.self in
    let b5 = c.compute-3.new.self in
    let b6 = c.make_copies.new.builder in
    let b7 = c.compute-4.new.self in
    let turned : List Op = turned_ops (w + 1) s.places s.max in
    let sums : List Op = sum_ops n (w + 1 + n) (w + 1) (Const (pos 0)) in
    let mark : Op = Set (w + 1 + 2 * n) (Const (pos 1)) in
    let score : Op = Set (w + 2 + 2 * n) (Word (w + 2 * n)) in
    let copies : List Op = copy_ops n (w + 3 + 2 * n) (w + 1) in
    let key : List Op = Set (w + 3 + 3 * n) (Word (w + 2 * n)) ∷ [] in
    let p1 = subst (λ (a : Operand). HasComputed (Two w binary.Ne a (Const (pos 0)) ∷ []) b0 b1) c.operand.ensures c.in_ok-compute.ensures in
    let p2 = subst (λ (max : List Bool). HasComputed (turned_ops (w + 1) s.places max) b1 b2) c.as_slice-2.ensures
    (subst (λ (places : List ℕ). HasComputed (turned_ops (w + 1) places c.as_slice-2.result.now) b1 b2) c.as_slice.ensures c.in_ok-make_turned.ensures) in
    subst (λ (m : ℕ). OnOk c.compute-4.result (HasComputed (ops w m s.places s.max) b0 b7)) c.len-n.ensures (on_ok_weaker c.compute-4.result (λ p7.
    then_computed (bit_op w ∷ []) (turned ++ (sums ++ (mark ∷ score ∷ copies ++ key))) b0 b1 b7 p1
    (then_computed turned (sums ++ (mark ∷ score ∷ copies ++ key)) b1 b2 b7 p2
    (then_computed sums (mark ∷ score ∷ copies ++ key) b2 b3 b7 c.in_ok-make_sums.ensures
    (then_computed (mark ∷ []) (score ∷ copies ++ key) b3 b4 b7 c.in_ok-compute-2.ensures
    (then_computed (score ∷ []) (copies ++ key) b4 b5 b7 c.in_ok-compute-3.ensures
    (then_computed copies key b5 b6 b7 c.in_ok-make_copies.ensures p7)))))) c.compute-4.ensures)
