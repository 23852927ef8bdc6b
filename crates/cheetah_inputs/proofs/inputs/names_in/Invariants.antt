use Rattle.std.proofs.Common.{◌≡◌, ◌++◌, map, take}
use Rattle.cheetah_words.specs.Tables.{part_word}
use Rattle.cheetah_words.specs.Words.{request_of}
use Rattle.cheetah_inputs.specs.Inputs.{listed}
use Rattle.cheetah_inputs.proofs.inputs.names_in.Given as goal

abbrev pub invariant-loop-table : goal.invariant-loop-table
invariant-loop-table l =
    map (λ name. name.now) l.names.items ≡ listed (request_of l.asked).profile ++ listed (request_of l.asked).schedule ++ map (λ part. part.file) (map part_word (take l.table-index l.table-items))
