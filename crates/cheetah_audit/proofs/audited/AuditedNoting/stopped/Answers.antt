use Rattle.std.proofs.Common.{◌∙◌, ap}
use Rattle.ch_protocol.specs.Machine.{Config, stopped}
use Rattle.cheetah_audit.proofs.audited.AuditedNoting.stopped.Goals as goal

pub returns : goal.returns
returns c d s h = let f = c.stopped.ensures in f h.begun s h.run ∙ ap (λ (k : Config). stopped k s) h.config
