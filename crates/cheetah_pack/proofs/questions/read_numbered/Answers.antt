use Rattle.std.proofs.Common.{◌∙◌, ap, subst, sym, List, ℕ}
use Rattle.ch_command.specs.Command.{refused}
use Rattle.ch_command.specs.declared.outcome.Ending.TheVariants.{Input}
use Rattle.cheetah_inputs.specs.Question.{never}
use Rattle.cheetah_pack_meaning.specs.Queries.{OfQuery, numbered}
use Rattle.cheetah_pack.proofs.Reading.{question_numbered}
use Rattle.cheetah_pack.proofs.questions.read_numbered.Goals as goal

pub returns-in_ok-number_line-in-Err-Line : goal.returns-in_ok-number_line-in-Err-Line
returns-in_ok-number_line-in-Err-Line c =
    let refusal = rw c.in-Err-Line.field-0-is at c.in-Err-Line.ensures in
    let said = c.in_ok-number_line-in-Err-Line.ensures ∙ ap (numbered c.args.number) c.as_slice.ensures in
    subst (λ (l : List ℕ). OfQuery c.args.number c.args.text.now c.args.tables.now never (refused Input l)) (sym said) (question_numbered c.args.number c.in-Err-Line.line c.args.text.now c.args.tables.now never refusal)
