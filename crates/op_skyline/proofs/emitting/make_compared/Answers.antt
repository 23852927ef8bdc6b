use Rattle.std.proofs.Common.{◌+◌, ◌-◌, List, ◌∷◌, refl, arith}
use Rattle.ch_ir.specs.declared.program.Binary.TheVariants as binary
use Rattle.ch_ir.specs.declared.program.Op.{Op}
use Rattle.ch_ir.specs.declared.program.Op.TheVariants.{Two}
use Rattle.ch_ir.specs.declared.program.Operand.TheVariants.{Word}
use Rattle.op_skyline.specs.Emitted.{compare_ops}
use Rattle.op_skyline.proofs.Loops.{compare_next, computing_next}
use Rattle.op_skyline.proofs.emitting.make_compared.Goals as goal

pub loop-done-preserved : goal.loop-done-preserved
loop-done-preserved c =
    let n = c.args.words in
    let done = c.loop-done.done in
    let told = c.loop-done.told in
    let start = c.args.builder.now in
    let middle = c.compute.new.self in
    let le : Op = Two (told + 1) binary.Le (Word (c.args.row + done)) (Word (c.args.old + done)) in
    let both : Op = Two (told + 2) binary.And (Word told) (Word (told + 1)) in
    let later : List Op = compare_ops (n - (done + 1)) (c.args.row + (done + 1)) (c.args.old + (done + 1)) (told + 2) in
    let all : List Op = compare_ops n c.args.row c.args.old c.args.told in
    record {
      told_is = let e = c.loop-done.invariant.told_is in omega arith;
      made = computing_next both (both ∷ later) later all start middle c.compute-in-loop-done.new.self refl
          (computing_next le (compare_ops (n - done) (c.args.row + done) (c.args.old + done) told) (both ∷ later) all start c.loop-done.builder middle
          (compare_next n c.args.row c.args.old told done c.loop-done-test.true) c.loop-done.invariant.made c.in_ok-compute.ensures)
          c.in_ok-compute-2.ensures;
    }
