use Rattle.std.proofs.Common.{◌+◌, ◌-◌, List, [], ◌∷◌, ◌++◌, sym, ◌∙◌, ap}
use Rattle.std.proofs.lemmas.List.{append_assoc}
use Rattle.ch_ir.specs.declared.program.Operand.TheVariants.{Word}
use Rattle.ch_ir.specs.declared.program.Update.{Update}
use Rattle.ch_ir.specs.declared.program.Update.TheVariants as update
use Rattle.op_skyline.specs.Emitted.{puts_from}
use Rattle.op_skyline.proofs.Loops.{puts_next}
use Rattle.op_skyline.proofs.emitting.puts.Goals as goal

pub loop-done-preserved : goal.loop-done-preserved
loop-done-preserved c =
    let done = c.loop-done.done in
    let put : Update = update.Put (Word (c.args.from + done)) in
    let left : List Update = puts_from (c.args.words - (done + 1)) (c.args.from + (done + 1)) in
    ap (λ (puts : List Update). puts ++ left) c.in_ok-push.ensures.ok
    ∙ (append_assoc c.loop-done.puts (put ∷ []) left
    ∙ (ap (λ (puts : List Update). c.loop-done.puts ++ puts) (sym (puts_next c.args.words c.args.from done c.loop-done-test.true)) ∙ c.loop-done.invariant))
