use Rattle.std.proofs.Common.{◌≡◌, ◌∙◌, ◌<◌, ◌+◌, ap, arith, length, List}
use Rattle.ch_asked.specs.Texts.{asked_texts, dictionary_of}
use Rattle.ch_protocol.specs.Machine.{start}
use Rattle.ch_tables.specs.TableValue.{TableValue}
use Rattle.cheetah_inputs.specs.Inputs.{given_of}
use Rattle.cheetah_run.proofs.Asked.{known}
use Rattle.cheetah_run.specs.Running.{config_of}
use Rattle.cheetah_audit.proofs.Begun.{at_valid, some_worker}
use Rattle.cheetah_audit.proofs.Runs.{at_sendable}
use Rattle.cheetah_audit.proofs.running.check_run.Goals as goal

pub rank_texts-requires : goal.rank_texts-requires
rank_texts-requires c k d lt = let there = known c.args.inputs.now c.requires.asked k d lt in omega (arith, there, ap (λ (ts : List TableValue). length ts) c.as_slice.ensures)

pub begin-requires-clause-ranks : goal.begin-requires-clause-ranks
begin-requires-clause-ranks c = c.in_ok-ranks.ensures.is ∙ ap (λ (ts : List TableValue). dictionary_of (asked_texts c.args.inputs.now.bound ts)) c.as_slice.ensures

pub check-requires-clause-valid : goal.check-requires-clause-valid
check-requires-clause-valid c =
    let config = config_of (given_of c.args.inputs.now) in
    at_valid c.in_ok-run.run'.run c.in_ok-run.run'.last config (start config) c.in_ok-run.ensures

pub check-requires-clause-epochs : goal.check-requires-clause-epochs
check-requires-clause-epochs c =
    let begins = c.in_ok-run.ensures.run.stands.switch.epoch_is in
    let short = c.requires.short in
    omega (arith, begins, short)

pub returns : goal.returns
returns c =
    let config = config_of (given_of c.args.inputs.now) in
    c.check.ensures config c.in_ok-run.ensures (at_sendable c.in_ok-run.run'.run c.in_ok-run.run'.last config (start config) c.in_ok-run.ensures) (some_worker c.args.inputs.now c.requires.asked)
