use Rattle.std.proofs.lemmas.Result.{on_err_weaker}
use Rattle.ch_schedule.specs.Event.{event_of}
use Rattle.ch_run.proofs.Leading.{none_leads, on_err, one_leads}
use Rattle.ch_run.proofs.run.Run.make.Goals as goal

pub returns-in_err-noted-in-Some-clause-err : goal.returns-in_err-noted-in-Some-clause-err
returns-in_err-noted-in-Some-clause-err c = on_err c.from_residual.result (none_leads c.args.self.now c.note.new.self c.in_err-noted-in-Some.ensures.err)

pub returns-in_ok-noted-in-Some-clause-err : goal.returns-in_ok-noted-in-Some-clause-err
returns-in_ok-noted-in-Some-clause-err c = on_err c.push.result (one_leads c.args.self.now c.note.new.self (event_of c.args.event.now) c.in_ok-noted-in-Some.ensures.ok)

pub returns-in-None-clause-err : goal.returns-in-None-clause-err
returns-in-None-clause-err c = on_err_weaker c.step.result (λ f. none_leads c.args.self.now c.step.new.self f) c.step.ensures.err
