use Rattle.std.proofs.Common.{sym, subst}
use Rattle.ch_schedule.specs.Event.{event_of}
use Rattle.ch_engine.specs.declared.engine.Engine.{Engine}
use Rattle.ch_run.specs.Runs.{IsRunOf}
use Rattle.ch_protocol_laws.proofs.Reached.{reached_sound}
use Rattle.ch_run.proofs.Followed.{epoch_after, epoch_stays}
use Rattle.ch_run.proofs.Going.{goes, in_err, standing, stays, still_running}
use Rattle.ch_run.proofs.run.Run.act.Goals as goal

pub step-requires-clause-standing : goal.step-requires-clause-standing
step-requires-clause-standing c = standing c.self.inside.engine c.self.invariant

pub invariant_of-self : goal.invariant_of-self
invariant_of-self c = still_running c.self.inside.engine c.step.new.self c.step.result (event_of c.args.event.now) c.self.invariant c.step.ensures.query c.step.ensures.ok c.step.ensures.err

pub invariant_of-self-2 : goal.invariant_of-self-2
invariant_of-self-2 c = still_running c.self.inside.engine c.step.new.self c.step.result (event_of c.args.event.now) c.self.invariant c.step.ensures.query c.step.ensures.ok c.step.ensures.err

pub returns-in_err-fate-clause-err : goal.returns-in_err-fate-clause-err
returns-in_err-fate-clause-err c =
    in_err c.from_residual.result (λ q s r. stays c.self.inside.engine c.step.new.self c.in_err-fate.ensures.query c.in_err-fate.ensures.err q s (subst (λ (x : Engine). IsRunOf q x s) (sym c.self.view_is) r))

pub returns-clause-ok : goal.returns-clause-ok
returns-clause-ok c q s r =
    goes c.self.inside.engine c.step.new.self (event_of c.args.event.now) c.in_ok-fate.ensures.query c.in_ok-fate.ensures.ok q s (subst (λ (x : Engine). IsRunOf q x s) (sym c.self.view_is) r)

pub returns-in_err-fate-clause-epoch : goal.returns-in_err-fate-clause-epoch
returns-in_err-fate-clause-epoch c =
    epoch_stays c.self.inside.engine c.args.self.now c.step.new.self c.self.invariant c.self.view_is (stays c.self.inside.engine c.step.new.self c.in_err-fate.ensures.query c.in_err-fate.ensures.err)

pub returns-clause-epoch : goal.returns-clause-epoch
returns-clause-epoch c =
    epoch_after c.self.inside.engine c.args.self.now c.step.new.self c.args.event.now c.self.invariant c.self.view_is (goes c.self.inside.engine c.step.new.self (event_of c.args.event.now) c.in_ok-fate.ensures.query c.in_ok-fate.ensures.ok)

pub returns-clause-fate : goal.returns-clause-fate
returns-clause-fate c q s r open' =
    let h = subst (λ (x : Engine). IsRunOf q x s) (sym c.self.view_is) r in
    let f = c.in_ok-fate.ensures.note in
    f q.given s h.planned (reached_sound q.given.config s h.reached) h.stands open'
