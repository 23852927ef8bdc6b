use Rattle.std.proofs.Common.{◌≡◌, ◌∙◌, sym}
use Rattle.cheetah_inputs.specs.Inputs.{given_of}
use Rattle.cheetah_run.specs.Running.{config_of}
use Rattle.cheetah_audit.proofs.Traces.{accepted_comes, refused_comes}
use Rattle.cheetah_audit.proofs.errands.tell.Goals as goal

pub returns-in-Ok : goal.returns-in-Ok
returns-in-Ok c =
    accepted_comes (config_of (given_of c.args.inputs.now)) c.args.text.now c.in_ok-checked.checked c.in-Ok.said c.answered.result c.in_ok-checked.ensures (sym c.into_said.ensures ∙ c.in-Ok.is) c.answered.ensures

pub returns-in-Err : goal.returns-in-Err
returns-in-Err c =
    refused_comes (config_of (given_of c.args.inputs.now)) c.args.text.now c.in_ok-checked.checked c.in-Err.line c.refused.result c.in_ok-checked.ensures (sym c.into_said.ensures ∙ c.in-Err.is) c.refused.ensures
