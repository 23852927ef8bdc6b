-- `cheetah` must answer each query over the generated files, and does.
use Rattle.std.proofs.Common.{◌≡◌, ◌∙◌, ap, refl, inl, inr, Option}
use Rattle.ch_command.specs.declared.Ending.TheVariants.{Done}
use Rattle.ch_command.specs.declared.Outcome.{Outcome}
use Rattle.ch_generated.specs.Inputs.{command_words, files_of}
use Rattle.ch_generated.specs.declared.Request.{Request}
use Rattle.ch_generated_laws.proofs.Sizes.{sizes}
use Rattle.ch_generated_laws.specs.Tables.{IsInRange}
use Rattle.ch_plan.specs.declared.PlanError.{PlanError}
use Rattle.cheetah.proofs.Completed.{answerable_is_done, come_to_answer}
use Rattle.cheetah.specs.Answering as answering
use Rattle.cheetah.specs.Complete.{IsAnswerable}
use Rattle.cheetah_inputs.specs.Inputs.{Given, given_of}
use Rattle.cheetah.specs.Saying.{said_by_run}
use Rattle.cheetah_gen.proofs.Given.{are_inputs, inputs_by, same_given, within_limits}
use Rattle.cheetah_gen.specs.Given.{given_by}
use Rattle.cheetah_gen.specs.Result.{inner_command}
use Rattle.cheetah_gen_words.proofs.Reading.{files_are_read}
use Rattle.cheetah_gen_words.proofs.Taken.{taken}
use Rattle.cheetah_gen_words.specs.Asked.{asked_of}
use Rattle.cheetah_gen_words.specs.Files.{AreShort, contents_of, files_told}

short_files : (request : Request) → IsInRange request → AreShort (files_of request)
short_files request range = let small = sizes request range in record { each = small.each; together = small.together }

pub answerable : (request : Request) → IsInRange request → IsAnswerable (command_words request.kind) (files_told request)
answerable request range = record {
  request = asked_of request.kind;
  contents = contents_of request;
  inputs = inputs_by request;
  taken = taken request.kind;
  there = files_are_read request (short_files request range);
  accepted = are_inputs request range;
  within = within_limits request;
  home = inr (inl refl);
}

pub inner_done : (request : Request) → IsInRange request → (inner : Outcome) → (inner_command request).comes_to (files_told request) inner → inner.ending ≡ Done
inner_done request range inner comes = answerable_is_done (command_words request.kind) (files_told request) inner (answerable request range) comes

-- it comes to what the run writes, and to nothing else
pub inner_said : (request : Request) → IsInRange request → (inner : Outcome) → (inner_command request).comes_to (files_told request) inner → inner ≡ said_by_run (given_by request)
unfolding answerable
inner_said request range inner comes =
    let given : Given = given_of (inputs_by request) in
    come_to_answer (command_words request.kind) (files_told request) (answerable request range) inner comes
    ∙ (ap (λ (o : Option PlanError). answering.within_limits o (said_by_run given)) (within_limits request) ∙ ap said_by_run (same_given request))
