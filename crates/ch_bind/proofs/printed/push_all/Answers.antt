use Rattle.ch_pred.specs.declared.bound.Printed.TheVariants as printed
use Rattle.ch_bind.proofs.Printing.{all_step}
use Rattle.ch_bind.proofs.printed.push_all.Goals as goal

pub loop-at-preserved : goal.loop-at-preserved
loop-at-preserved c = all_step (λ at. printed.Column (record { side = c.args.side; at = at })) c.loop-at.at c.args.printed.now c.loop-at.printed c.push.new.self c.loop-at.invariant c.in_ok-push.ensures.ok
