use Rattle.std.proofs.Common.{◌≤◌, arith, length}
use Rattle.std.proofs.lemmas.List.{length-map}
use Rattle.ch_command.specs.Command.{refused}
use Rattle.ch_command.specs.declared.outcome.Ending.TheVariants.{Input}
use Rattle.cheetah_inputs.proofs.Meanings.{contents_refused}
use Rattle.cheetah_words.specs.Tables.{part_word}
use Rattle.cheetah_words.specs.Words.{request_of}
use Rattle.cheetah.proofs.Considered.{over_contents}
use Rattle.cheetah.proofs.verdict.judge.Goals as goal
use Rattle.cheetah.specs.Answering.{Answers}

pub answer-requires : goal.answer-requires
answer-requires c =
    let few : length (request_of c.args.asked.now).tables ≤ 64 = let many = length-map c.args.asked.now.tables part_word in omega (arith, many, c.requires.few) in
    record { request = request_of c.args.asked.now; contents = c.args.contents; few = few; read = c.in-Ok.ensures }

pub returns-in-Ok : goal.returns-in-Ok
returns-in-Ok c = over_contents (request_of c.args.asked.now) c.args.contents c.in-Ok.inputs c.answer.result c.in-Ok.ensures c.answer.ensures

pub returns-in-Err-Line : goal.returns-in-Err-Line
returns-in-Err-Line c =
    let refusal = rw c.in-Err-Line.field-0-is at c.in-Err-Line.ensures in
    rw c.refused.ensures (contents_refused (request_of c.args.asked.now) c.args.contents (Answers c.args.asked.now.plan) (refused Input c.in-Err-Line.line) refusal)
