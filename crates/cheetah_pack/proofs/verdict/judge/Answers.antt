use Rattle.std.proofs.Common.{◌∙◌, ◌≤◌, All, arith, length, subst, sym, ℕ, List}
use Rattle.std.specs.Result.{IfOk}
use Rattle.std.proofs.lemmas.List.{length-map}
use Rattle.ch_command.specs.Command.{refused}
use Rattle.ch_command.specs.Reading.{most_bytes}
use Rattle.ch_command.specs.declared.outcome.Ending.TheVariants.{Input}
use Rattle.ch_command.specs.declared.outcome.Outcome.{Outcome}
use Rattle.cheetah_inputs.specs.Shared.{AreShared, OfShared, never}
use Rattle.cheetah_pack_meaning.specs.Meaning.{OfTables}
use Rattle.cheetah_words.specs.Tables.{part_word}
use Rattle.cheetah_words.specs.Words.{request_of}
use Rattle.cheetah_pack.proofs.Considered.{all_others, contents_read, contents_refused}
use Rattle.cheetah_pack.proofs.verdict.judge.Goals as goal

pub read_shared-requires-clause-small : goal.read_shared-requires-clause-small
read_shared-requires-clause-small c =
    subst (λ (xs : List (List ℕ)). All (λ bytes. length bytes ≤ most_bytes) xs) (sym c.take_queries-text.ensures.others) (all_others (λ bytes. length bytes ≤ most_bytes) c.args.contents c.requires.small)

pub answer-requires : goal.answer-requires
answer-requires c =
    let few : length (request_of c.args.asked.now).tables ≤ 64 = let many = length-map c.args.asked.now.tables part_word in omega (arith, many, c.requires.few) in
    record {
      request = request_of c.args.asked.now;
      contents = c.take_queries-text.result.1;
      few = few;
      unscheduled = c.requires.unscheduled;
      are = c.in-Ok.ensures.reads;
      few_tables = c.in-Ok.ensures.few;
    }

pub returns-in-Ok : goal.returns-in-Ok
returns-in-Ok c =
    let request = request_of c.args.asked.now in
    let are = subst (λ (xs : List (List ℕ)). AreShared request xs c.in-Ok.shared) c.take_queries-text.ensures.others c.in-Ok.ensures.reads in
    let comes = subst (λ (t : List ℕ). IfOk c.answer.result (λ (o : Outcome). OfTables t c.in-Ok.shared.profile c.in-Ok.shared.tables o)) (c.as_slice.ensures ∙ c.take_queries-text.ensures.text) c.answer.ensures in
    contents_read request c.args.contents c.in-Ok.shared c.answer.result are comes

pub returns-in-Err-Line : goal.returns-in-Err-Line
returns-in-Err-Line c =
    let request = request_of c.args.asked.now in
    let refusal = rw c.in-Err-Line.field-0-is at c.in-Err-Line.ensures.reads in
    rw c.refused.ensures (contents_refused request c.args.contents (refused Input c.in-Err-Line.line) (subst (λ (xs : List (List ℕ)). OfShared request xs never (refused Input c.in-Err-Line.line)) c.take_queries-text.ensures.others refusal))
