use Rattle.ch_protocol.specs.Machine.{workers}
use Rattle.std.proofs.lemmas.Result.{on_ok_weaker, on_err_weaker}
use Rattle.ch_run.proofs.Leading.{then_leads, on_err}
use Rattle.ch_run.proofs.Rounding.{ups, downs, to_ups, to_downs, to_backs}
use Rattle.ch_protocol.specs.DrainEvents.{turns_events}
use Rattle.ch_run.proofs.run.Run.round.Goals as goal

pub returns-in_err-empty_up-clause-err : goal.returns-in_err-empty_up-clause-err
returns-in_err-empty_up-clause-err c =
    on_err c.from_residual-in_err-empty_up.result (then_leads (c.args.self.now, c.args.notes.now) (c.turns.new.self, c.turns.new.notes) (c.empty_up.new.self, c.empty_up.new.notes) (λ d s. turns_events d 0 (workers d) s) c.in_ok-turns.ensures.ok c.in_err-empty_up.ensures.err)

pub returns-in_err-empty_down-clause-err : goal.returns-in_err-empty_down-clause-err
returns-in_err-empty_down-clause-err c =
    let a = to_ups (c.args.self.now, c.args.notes.now) (c.turns.new.self, c.turns.new.notes) (c.empty_up.new.self, c.empty_up.new.notes) c.in_ok-turns.ensures.ok c.in_ok-empty_up.ensures.ok in
    on_err c.from_residual-in_err-empty_down.result (then_leads (c.args.self.now, c.args.notes.now) (c.empty_up.new.self, c.empty_up.new.notes) (c.empty_down.new.self, c.empty_down.new.notes) ups a c.in_err-empty_down.ensures.err)

pub returns-clause-ok : goal.returns-clause-ok
returns-clause-ok c =
    let a = to_ups (c.args.self.now, c.args.notes.now) (c.turns.new.self, c.turns.new.notes) (c.empty_up.new.self, c.empty_up.new.notes) c.in_ok-turns.ensures.ok c.in_ok-empty_up.ensures.ok in
    let b = to_downs (c.args.self.now, c.args.notes.now) (c.empty_up.new.self, c.empty_up.new.notes) (c.empty_down.new.self, c.empty_down.new.notes) a c.in_ok-empty_down.ensures.ok in
    on_ok_weaker c.empty_back.result (λ f. to_backs (c.args.self.now, c.args.notes.now) (c.empty_down.new.self, c.empty_down.new.notes) (c.empty_back.new.self, c.empty_back.new.notes) b f) c.empty_back.ensures.ok

pub returns-clause-err : goal.returns-clause-err
returns-clause-err c =
    let a = to_ups (c.args.self.now, c.args.notes.now) (c.turns.new.self, c.turns.new.notes) (c.empty_up.new.self, c.empty_up.new.notes) c.in_ok-turns.ensures.ok c.in_ok-empty_up.ensures.ok in
    let b = to_downs (c.args.self.now, c.args.notes.now) (c.empty_up.new.self, c.empty_up.new.notes) (c.empty_down.new.self, c.empty_down.new.notes) a c.in_ok-empty_down.ensures.ok in
    on_err_weaker c.empty_back.result (λ f. then_leads (c.args.self.now, c.args.notes.now) (c.empty_down.new.self, c.empty_down.new.notes) (c.empty_back.new.self, c.empty_back.new.notes) downs b f) c.empty_back.ensures.err
