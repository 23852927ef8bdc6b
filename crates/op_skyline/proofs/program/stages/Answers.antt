use Rattle.std.proofs.Common.{◌≡◌, List, [], ◌∙◌, arith}
use Rattle.std.proofs.lemmas.Result.{IfOk-weaker}
use Rattle.ch_ir.specs.declared.program.Stage.{Stage}
use Rattle.op_moves.specs.Built.{stages_after}
use Rattle.op_moves.specs.Moves.{staged}
use Rattle.op_skyline.specs.Emitted.{moves_of}
use Rattle.op_skyline.proofs.UnderWay.{begun, ended, next}
use Rattle.op_skyline.proofs.program.stages.Goals as goal

pub loop-array-init : goal.loop-array-init
loop-array-init c = begun c.args.sizes.now c.new-builder.result c.make_firsts.new.builder c.first_place-place.result c.first_place-place.ensures c.new-builder.ensures c.in_ok-make_firsts.ensures

pub loop-array-preserved : goal.loop-array-preserved
loop-array-preserved c =
    next c.args.sizes.now c.loop-array.builder c.make_point.new.builder c.loop-array.array c.loop-array.place c.next-place.result c.loop-array-test.true c.next-place.ensures c.loop-array.invariant c.in_ok-make_point.ensures

pub returns : goal.returns
returns c =
    IfOk-weaker c.finish.result (λ (stages : List Stage). stages ≡ stages_after c.compute.new.self []) (λ (stages : List Stage). stages ≡ staged [] (moves_of c.args.sizes.now))
    (λ stages e. e ∙ ended c.args.sizes.now c.loop-array.builder c.compute.new.self c.loop-array.array c.loop-array.place (omega arith) c.loop-array.invariant c.in_ok-compute.ensures)
    c.finish.ensures
