use Rattle.std.proofs.Common.{◌≡◌, ◌<◌, map, subst, sym}
use Rattle.std.specs.Prelude.{IfOk}
use Rattle.ch_protocol.specs.Machine.{Config, workers}
use Rattle.ch_trace_lines.specs.Trace.{drain_steps, lines_from}
use Rattle.ch_trace_lines.specs.declared.line.Line.TheVariants as line
use Rattle.ch_protocol.specs.Drain.{drain}
use Rattle.cheetah_audit.proofs.Runs.{leads_at, leads_valid}
use Rattle.cheetah_audit.proofs.audited.AuditedNoting.drain_noted.Goals as goal

pub returns-clause-valid : goal.returns-clause-valid
returns-clause-valid c = leads_valid c.args.self.now.run c.drain_noted.new.self c.args.self.now.last (λ k t. drain k t) c.drain_noted.result c.drain_noted.ensures.ok c.requires

pub returns-clause-ok : goal.returns-clause-ok
returns-clause-ok c = leads_at c.args.self.now.run c.drain_noted.new.self c.args.self.now.last (λ k t. drain k t) c.drain_noted.result c.drain_noted.ensures.ok

pub returns-clause-notes : goal.returns-clause-notes
returns-clause-notes c d s h some =
    let f = c.drain_noted.ensures.notes in
    subst (λ (k : Config). IfOk c.drain_noted.result (λ ns. map line.Event ns ≡ lines_from k s (drain_steps k s))) h.config (f h.begun s h.run (subst (λ (k : Config). 0 < workers k) (sym h.config) some))
