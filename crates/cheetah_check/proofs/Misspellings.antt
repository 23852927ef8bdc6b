-- The line at which a text is refused.
use Rattle.std.proofs.Common.{◌≡◌, ◌≤◌, ◌∙◌, ◌+◌, ap, arith, inr, length, List, subst, ℕ}
use Rattle.ch_asm.specs.Refusal.{Refuses}
use Rattle.ch_asm.specs.declared.error.AsmError.{AsmError}
use Rattle.ch_asm.specs.declared.error.AsmError.TheVariants.{Line}
use Rattle.ch_command.specs.Command.{refused}
use Rattle.ch_command.specs.Reading.{most_bytes}
use Rattle.ch_command.specs.declared.outcome.Ending.TheVariants.{Input}
use Rattle.ch_ir.specs.declared.profile.Profile.{Profile}
use Rattle.ch_messages.specs.Machine.{program_line}
use Rattle.cheetah_check.proofs.Short.{line_within}
use Rattle.cheetah_check.specs.Result.{OfText}

pub misspelled : (profile : Profile) (text : List ℕ) (error : AsmError) (line : ℕ) (said : List ℕ) → length text ≤ most_bytes → error ≡ Line line → Refuses text error → said ≡ program_line line → OfText profile text (refused Input said)
misspelled profile text error line said small is whole says =
    let refuses : Refuses text (Line line) = subst (λ e. Refuses text e) is whole in
    let within : refuses.0 ≤ length text + 1 = line_within text refuses.0 refuses.1 in
    let same : line ≡ refuses.0 = omega (arith, within, small, refuses.2) in
    inr (record { error = refuses.0; is = refuses.1; said = ap (refused Input) (says ∙ ap program_line same) })
