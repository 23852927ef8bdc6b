use Rattle.std.proofs.Common.{◌≡◌, ℕ, suc, ◌+◌, ◌*◌, List, [], ◌∷◌, ◌++◌, pos, subst, arith}
use Rattle.std.proofs.lemmas.Result.{on_ok_weaker}
use Rattle.ch_ir.specs.declared.program.Binary.TheVariants as binary
use Rattle.ch_ir.specs.declared.program.Op.{Op}
use Rattle.ch_ir.specs.declared.program.Op.TheVariants.{Two, Pick}
use Rattle.ch_ir.specs.declared.program.Operand.TheVariants.{Word, Const}
use Rattle.op_skyline.specs.Computed.{HasComputed, then_computed}
use Rattle.op_skyline.specs.Emitted.{carry_ops, compare_ops}
use Rattle.op_skyline.proofs.emitting.make_told.Goals as goal

pub returns : goal.returns
returns c =
    let p = c.args.place in
    let n = p.dimensions in
    let base = p.base in
    let b0 = c.args.builder.now in
    let b1 = c.compute.new.self in
    let b2 = c.make_compared.new.builder in
    let b3 = c.compute-2.new.self in
    let b4 = c.compute-3.new.self in
    let b5 = c.make_carried.new.builder in
    let b6 = c.compute-4.new.self in
    let less : Op = Two (base + n + 3) binary.Lt (Word p.score) (Word (base + 1)) in
    let compared : List Op = compare_ops n p.values (base + 2) (base + n + 3) in
    let over : Op = Two (base + 3 * n + 4) binary.Lt (Word (base + n + 2)) (Word (base + 3 * n + 3)) in
    let still : Op = Two (base + 3 * n + 5) binary.Lt (Word (base + 3 * n + 4)) (Word p.gate) in
    let carried : List Op = carry_ops (suc (suc n)) (base + 3 * n + 6) (base + n + 2) base p.carry in
    let key : List Op = Pick (base + 4 * n + 8) (Word (base + n + 2)) (Const (pos 9223372036854775807)) (Word p.score) ∷ [] in
    let cells : n + 2 ≡ suc (suc n) = omega arith in
    let p5 = subst (λ (k : ℕ). HasComputed (carry_ops k (base + 3 * n + 6) (base + n + 2) base p.carry) b4 b5) cells c.in_ok-make_carried.ensures in
    on_ok_weaker c.compute-4.result (λ p6.
    then_computed (less ∷ []) (compared ++ (over ∷ still ∷ carried ++ key)) b0 b1 b6 c.in_ok-compute.ensures
    (then_computed compared (over ∷ still ∷ carried ++ key) b1 b2 b6 c.in_ok-make_compared.ensures
    (then_computed (over ∷ []) (still ∷ carried ++ key) b2 b3 b6 c.in_ok-compute-2.ensures
    (then_computed (still ∷ []) (carried ++ key) b3 b4 b6 c.in_ok-compute-3.ensures
    (then_computed carried key b4 b5 b6 p5 p6))))) c.compute-4.ensures
