use Rattle.std.proofs.Common.{◌≡◌, ◌∙◌, ◌≤◌, All, arith, length, subst, sym, ℕ, List}
use Rattle.std.specs.Result.{IfOk}
use Rattle.ch_command.specs.Command.{refused}
use Rattle.ch_command.specs.Reading.{most_bytes}
use Rattle.ch_command.specs.declared.outcome.Ending.TheVariants.{Input}
use Rattle.ch_command.specs.declared.outcome.Outcome.{Outcome}
use Rattle.cheetah_audit_meaning.specs.Meaning.{Checks, trace_text, without_schedule}
use Rattle.cheetah_inputs.proofs.Meanings.{contents_refused}
use Rattle.cheetah_inputs.specs.Inputs.{OfContents}
use Rattle.cheetah_words.specs.Words.{Request, request_of}
use Rattle.cheetah_audit.proofs.Considered.{over_contents}
use Rattle.cheetah_audit.proofs.Traces.{all_others, all_trace}
use Rattle.cheetah_audit.specs.Result.{runs}
use Rattle.cheetah_audit.proofs.verdict.judge_trace.Goals as goal

pub read_inputs-requires-clause-small : goal.read_inputs-requires-clause-small
read_inputs-requires-clause-small c =
    let request : Request = request_of c.args.asked.now in
    subst (λ (xs : List (List ℕ)). All (λ bytes. length bytes ≤ most_bytes) xs) (sym c.take_trace-trace.ensures.others) (all_others (λ bytes. length bytes ≤ most_bytes) request.profile request.schedule c.args.contents c.requires.small)

pub check_errand-requires-clause-short : goal.check_errand-requires-clause-short
check_errand-requires-clause-short c =
    let request : Request = request_of c.args.asked.now in
    subst (λ (t : List ℕ). length t ≤ most_bytes) (sym (c.as_slice.ensures ∙ c.take_trace-trace.ensures.trace)) (all_trace (λ bytes. length bytes ≤ most_bytes) request.profile request.schedule c.args.contents (omega arith) c.requires.small)

pub returns-in-Ok : goal.returns-in-Ok
returns-in-Ok c =
    let request : Request = request_of c.args.asked.now in
    let comes = over_contents (without_schedule request) c.take_trace-trace.result.1 (Checks runs c.as_slice.result.now) c.in-Ok.inputs c.check_errand.result c.in-Ok.ensures c.check_errand.ensures in
    let of_trace = subst (λ (t : List ℕ). IfOk c.check_errand.result (λ (o : Outcome). OfContents (without_schedule request) (Checks runs t) c.take_trace-trace.result.1 o)) (c.as_slice.ensures ∙ c.take_trace-trace.ensures.trace) comes in
    subst (λ (others : List (List ℕ)). IfOk c.check_errand.result (λ (o : Outcome). OfContents (without_schedule request) (Checks runs (trace_text request c.args.contents)) others o)) c.take_trace-trace.ensures.others of_trace

pub returns-in-Err-Line : goal.returns-in-Err-Line
returns-in-Err-Line c =
    let request : Request = request_of c.args.asked.now in
    let refusal = rw c.in-Err-Line.field-0-is at c.in-Err-Line.ensures in
    rw c.refused.ensures (subst (λ (others : List (List ℕ)). OfContents (without_schedule request) (Checks runs (trace_text request c.args.contents)) others (refused Input c.in-Err-Line.line)) c.take_trace-trace.ensures.others
    (contents_refused (without_schedule request) c.take_trace-trace.result.1 (Checks runs (trace_text request c.args.contents)) (refused Input c.in-Err-Line.line) refusal))
