use Rattle.std.proofs.Common.{◌≤◌, arith, length}
use Rattle.std.proofs.lemmas.List.{length-map}
use Rattle.cheetah_words.specs.Tables.{part_word}
use Rattle.cheetah_words.specs.Words.{request_of}
use Rattle.cheetah_rows.proofs.asking.read.Goals as goal

pub planned-requires : goal.planned-requires
planned-requires c =
    let few : length (request_of c.args.asked.now).tables ≤ 64 = let many = length-map c.args.asked.now.tables part_word in omega (arith, many, c.requires.few) in
    record { request = request_of c.args.asked.now; contents = c.args.texts; few = few; read = c.in-Ok.ensures }
