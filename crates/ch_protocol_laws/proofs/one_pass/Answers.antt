use Rattle.std.proofs.Common.{◌∙◌}
use Rattle.ch_protocol.specs.Machine.{passes}
use Rattle.ch_protocol_laws.proofs.Arrived.{in_order}
use Rattle.ch_protocol_laws.proofs.Once.{one_pass_answer}
use Rattle.ch_protocol_laws.proofs.Reached.{reached_sound}
use Rattle.ch_protocol_laws.proofs.one_pass.Goals as goal

pub returns-clause-received : goal.returns-clause-received
returns-clause-received g _ c is_row answer s kind law are r stop = one_pass_answer c is_row answer s kind law are r stop

pub returns-clause-arrived : goal.returns-clause-arrived
returns-clause-arrived g _ c is_row answer s kind law are r stop =
    in_order c s (reached_sound c s r) (passes c) is_row answer law.order are ∙ one_pass_answer c is_row answer s kind law are r stop
