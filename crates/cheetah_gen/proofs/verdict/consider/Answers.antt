use Rattle.std.proofs.Common.{◌≡◌, ◌∙◌, ap, map, subst, sym, Option, Some, None}
use Rattle.std.specs.Prelude.{string_bytes}
use Rattle.ch_command.specs.Verdict.{Fits}
use Rattle.ch_generated.specs.Request.{request_of}
use Rattle.ch_generated.specs.declared.Request.{Request}
use Rattle.ch_generated_laws.proofs.Ranges.{in_range}
use Rattle.cheetah_gen.proofs.Meanings.{sum_fits, usage_fits}
use Rattle.cheetah_gen.proofs.verdict.consider.Goals as goal
use Rattle.cheetah_gen.specs.Result.{command_for, no_faults, no_files}

pub sum_up-requires : goal.sum_up-requires
sum_up-requires c =
    let asked : request_of (map string_bytes c.args.words.now) ≡ Some c.in-Some.request = ap (λ ws. request_of (map string_bytes ws)) (sym c.as_slice.ensures) ∙ sym c.in-Some.ensures in
    in_range (map string_bytes c.args.words.now) c.in-Some.request asked

pub returns-in-Some : goal.returns-in-Some
returns-in-Some c =
    let words = map string_bytes c.args.words.now in
    let request : Request = c.in-Some.request in
    let asked : request_of words ≡ Some request = ap (λ ws. request_of (map string_bytes ws)) (sym c.as_slice.ensures) ∙ sym c.in-Some.ensures in
    subst (λ (o : Option Request). Fits (Some no_files) no_faults (command_for o) c.of.result) (sym asked)
    (rw c.of.ensures (sum_fits request (in_range words request asked) (Some no_files) no_faults c.sum_up.result c.sum_up.ensures))

pub returns-in-None : goal.returns-in-None
returns-in-None c =
    let words = map string_bytes c.args.words.now in
    let asked : request_of words ≡ None = ap (λ ws. request_of (map string_bytes ws)) (sym c.as_slice.ensures) ∙ sym c.in-None.ensures in
    subst (λ (o : Option Request). Fits (Some no_files) no_faults (command_for o) c.verdict.result) (sym asked) (rw c.verdict.ensures (usage_fits (Some no_files) no_faults c.usage.result c.usage.ensures))
