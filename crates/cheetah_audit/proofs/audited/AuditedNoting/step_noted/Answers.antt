use Rattle.std.proofs.Common.{◌≡◌, subst}
use Rattle.std.specs.Prelude.{IfOk}
use Rattle.ch_trace_lines.specs.Trace.{noted_at}
use Rattle.ch_protocol.specs.Machine.{Config, step}
use Rattle.ch_run.proofs.Epochs.{epoch_left}
use Rattle.ch_schedule.specs.Event.{event_of}
use Rattle.cheetah_audit.proofs.Runs.{going, leads_at, leads_epoch, leads_valid}
use Rattle.cheetah_audit.proofs.audited.AuditedNoting.step_noted.Goals as goal

pub step_noted-requires-clause-going : goal.step_noted-requires-clause-going
step_noted-requires-clause-going c = going c.args.self.now.run c.args.self.now.last c.requires.valid c.requires.going

pub step_noted-requires-clause-epoch : goal.step_noted-requires-clause-epoch
step_noted-requires-clause-epoch c = epoch_left c.args.event.now c.args.self.now.run.switch.epoch c.requires.epoch

pub returns-clause-valid : goal.returns-clause-valid
returns-clause-valid c = leads_valid c.args.self.now.run c.step_noted.new.self c.args.self.now.last (λ k t. step k t (event_of c.args.event.now)) c.step_noted.result c.step_noted.ensures.ok c.requires.valid

pub returns-clause-epoch : goal.returns-clause-epoch
returns-clause-epoch c = leads_epoch c.args.self.now.run c.step_noted.new.self c.args.self.now.last c.args.event.now c.step_noted.result c.step_noted.ensures.ok c.requires.valid

pub returns-clause-ok : goal.returns-clause-ok
returns-clause-ok c = leads_at c.args.self.now.run c.step_noted.new.self c.args.self.now.last (λ k t. step k t (event_of c.args.event.now)) c.step_noted.result c.step_noted.ensures.ok

pub returns-clause-note : goal.returns-clause-note
returns-clause-note c d s h =
    let f = c.step_noted.ensures.note in
    subst (λ (k : Config). IfOk c.step_noted.result (λ n. n ≡ noted_at k s c.args.event.now)) h.config (f h.begun s h.run)
