use Rattle.std.proofs.Common.{map}
use Rattle.std.specs.Prelude.{string_bytes}
use Rattle.ch_command.proofs.Promised.{promised}
use Rattle.ch_command.specs.Call.{Call, change_of, faults_of}
use Rattle.ch_command.specs.Status.{exit_code}
use Rattle.cheetah.proofs.Completed.{completed}
use Rattle.cheetah.proofs.top.cheetah.Goals as goal
use Rattle.cheetah.specs.Result.{command_of}

pub returns-clause-promise : goal.returns-clause-promise
returns-clause-promise g c = rw c.code.ensures (promised _ _ _ _ _ c.consider-verdict.result c.end.result c.consider-verdict.ensures.fits c.end.ensures.ends)

pub returns-clause-complete : goal.returns-clause-complete
returns-clause-complete g c =
    let words = map string_bytes c.args.words.now in
    let call : Call = record {
      told = g.F.Shelf.told c.args.shelf.now;
      shelf = faults_of g.F.Shelf.faults c.args.shelf.now c.consider-verdict.new.shelf;
      out = change_of g.O.Sink.written g.O.Sink.faults c.args.out.now c.end.new.out;
      err = change_of g.E.Sink.written g.E.Sink.faults c.args.err.now c.end.new.err;
      status = exit_code c.end.result;
    } in
    let kept = completed words call (promised (command_of words) call.told call.shelf call.out call.err c.consider-verdict.result c.end.result c.consider-verdict.ensures.fits c.end.ensures.ends) in
    rw c.code.ensures kept
