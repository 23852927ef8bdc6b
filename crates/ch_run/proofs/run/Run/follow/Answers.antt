use Rattle.ch_run.proofs.Followed.{followed_on}
use Rattle.ch_run.proofs.Leading.{on_err}
use Rattle.ch_run.proofs.run.Run.follow.Goals as goal

pub returns-in_err-drain-clause-err : goal.returns-in_err-drain-clause-err
returns-in_err-drain-clause-err c = on_err c.from_residual-in_err-drain.result (followed_on c.args.self.now c.steps.new.self c.drain.new.self c.as_slice.result.now c.in_ok-steps.ensures.ok c.in_err-drain.ensures.err)
