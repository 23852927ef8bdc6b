use Rattle.ch_command.specs.Command.{refused}
use Rattle.ch_command.specs.declared.outcome.Ending.TheVariants.{Input}
use Rattle.cheetah_audit_meaning.specs.Meaning.{Writes}
use Rattle.cheetah_inputs.proofs.Meanings.{contents_refused}
use Rattle.cheetah_words.specs.Words.{request_of}
use Rattle.cheetah_audit.specs.Result.{runs}
use Rattle.cheetah_audit.proofs.verdict.judge_run.Goals as goal

pub returns-in-Err-Line : goal.returns-in-Err-Line
returns-in-Err-Line c =
    let refusal = rw c.in-Err-Line.field-0-is at c.in-Err-Line.ensures in
    rw c.refused.ensures (contents_refused (request_of c.args.asked.now) c.args.contents (Writes runs) (refused Input c.in-Err-Line.line) refusal)
