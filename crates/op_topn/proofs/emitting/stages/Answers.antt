use Rattle.std.proofs.Common.{◌≡◌, List, [], ◌∙◌, arith}
use Rattle.std.proofs.lemmas.Result.{IfOk-weaker}
use Rattle.ch_ir.specs.declared.program.Stage.{Stage}
use Rattle.op_moves.specs.Built.{stages_after}
use Rattle.op_moves.specs.Moves.{staged}
use Rattle.op_topn.specs.Emitted.{moves_of}
use Rattle.op_topn.proofs.UnderWay.{begun, ended, next}
use Rattle.op_topn.proofs.emitting.stages.Goals as goal

pub loop-done-init : goal.loop-done-init
loop-done-init c = begun c.args.sizes c.new-builder.result c.make_firsts.new.builder c.new-builder.ensures c.in_ok-make_firsts.ensures

pub loop-done-preserved : goal.loop-done-preserved
loop-done-preserved c = next c.args.sizes c.loop-done.builder c.make_step.new.builder c.loop-done.done c.loop-done.bad c.loop-done-test.true c.loop-done.invariant c.in_ok-make_step.ensures

pub returns : goal.returns
returns c =
    IfOk-weaker c.finish.result (λ (stages : List Stage). stages ≡ stages_after c.compute.new.self []) (λ (stages : List Stage). stages ≡ staged [] (moves_of c.args.sizes))
    (λ stages e. e ∙ ended c.args.sizes c.loop-done.builder c.compute.new.self c.loop-done.done c.loop-done.bad (omega arith) c.loop-done.invariant c.in_ok-compute.ensures)
    c.finish.ensures
