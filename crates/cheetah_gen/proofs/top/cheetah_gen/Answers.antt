use Rattle.std.proofs.Common.{map, refl, Some}
use Rattle.std.specs.Prelude.{string_bytes}
use Rattle.ch_command.proofs.Promised.{promised}
use Rattle.ch_command.specs.Call.{change_of}
use Rattle.ch_command.specs.Status.{exit_code}
use Rattle.cheetah_gen.proofs.Statuses.{own_status}
use Rattle.cheetah_gen.proofs.top.cheetah_gen.Goals as goal
use Rattle.cheetah_gen.specs.Result.{call_of, command_of, no_faults, no_files}

pub returns-clause-promise : goal.returns-clause-promise
returns-clause-promise g c = rw c.code.ensures (promised _ _ _ _ _ c.consider.result c.end.result c.consider.ensures c.end.ensures.ends)

pub returns-clause-statuses : goal.returns-clause-statuses
returns-clause-statuses g c =
    let words = map string_bytes c.args.words.now in
    let out = change_of g.O.Sink.written g.O.Sink.faults c.args.out.now c.end.new.out in
    let err = change_of g.E.Sink.written g.E.Sink.faults c.args.err.now c.end.new.err in
    rw c.code.ensures (own_status words (call_of out err (exit_code c.end.result)) refl refl
    (promised (command_of words) (Some no_files) no_faults out err c.consider.result c.end.result c.consider.ensures c.end.ensures.ends))
