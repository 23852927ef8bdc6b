-- Each text is a program's or has a bad line.
use Rattle.std.proofs.Common.{◌≡◌, ◌<◌, ◌⊎◌, ℕ, zero, suc, ◌+◌, List, [], ◌∷◌, length, Option, Some, None, refl, subst, ap, inl, inr, length-append, arith}
use Rattle.ch_ir.specs.declared.program.Program.{Program}
use Rattle.ch_asm_lines.specs.Reading.{cut_of}
use Rattle.ch_asm_lines.proofs.Bytes.{cut_is}
use Rattle.ch_asm.specs.declared.place.Place.{Place}
use Rattle.ch_asm.specs.declared.place.Place.TheVariants.{Start, Headed, Arrays, InStage, Judged, Ended}
use Rattle.ch_asm.specs.Text.{IsProgram, program_text}
use Rattle.ch_asm.specs.Refusal.{IsBadLine}
use Rattle.ch_asm.specs.Steps.{step_text}
use Rattle.ch_asm.proofs.Reading.{IsRead, bad_end, bad_line, one_more, read_whole}

abbrev Decided : List ℕ → Type 0
Decided text = ((program : Program) × IsProgram program × (text ≡ program_text program)) ⊎ ((number : ℕ) × IsBadLine text number)

abbrev AtEnd : Place → List ℕ → Type 0
AtEnd place rest = ((p : Program) × (place ≡ Ended p) × (rest ≡ [])) ⊎ ((p : Program) → place ≡ Ended p → rest ≡ [] → ⊥)

at_end : (place : Place) (rest : List ℕ) → AtEnd place rest
at_end place (b ∷ bs) = inr (λ p e r. cc)
at_end Start [] = inr (λ p e r. cc)
at_end Headed [] = inr (λ p e r. cc)
at_end (Arrays w arrays) [] = inr (λ p e r. cc)
at_end (InStage d s) [] = inr (λ p e r. cc)
at_end (Judged p) [] = inr (λ p e r. cc)
at_end (Ended p) [] = inl (p, refl, refl)

last_decided : (text rest : List ℕ) (place : Place) → IsRead text place rest → cut_of 10 rest ≡ None → AtEnd place rest → Decided text
last_decided text rest place read none (inl end) =
    let whole = read_whole text end.0 (subst (λ (r : List ℕ). IsRead text (Ended end.0) r) end.2 (subst (λ (q : Place). IsRead text q rest) end.1 read)) in
    inl (end.0, whole.0, whole.1)
last_decided text rest place read none (inr open_end) = inr (_, bad_end text place rest read none open_end)

shorter : (first more rest : List ℕ) → cut_of 10 rest ≡ Some (first, more) → length more < length rest
shorter first more rest parts = omega (arith, ap length (cut_is 10 rest (first, more) parts), length-append first (10 ∷ more))

by_step : (text rest first more : List ℕ) (place : Place) (next : Option Place) → IsRead text place rest → cut_of 10 rest ≡ Some (first, more) → step_text place first ≡ next
    → ((next : Place) → IsRead text next more → Decided text) → Decided text
by_step text rest first more place None read parts e others = inr (_, bad_line text place first more rest read parts e)
by_step text rest first more place (Some next) read parts e others = others next (one_more text place next first more rest read parts e).read

by_cut : (text rest : List ℕ) (place : Place) (parts : Option (List ℕ × List ℕ)) → IsRead text place rest → cut_of 10 rest ≡ parts
    → ((more : List ℕ) (next : Place) → length more < length rest → IsRead text next more → Decided text) → Decided text
by_cut text rest place None read e others = last_decided text rest place read e (at_end place rest)
by_cut text rest place (Some (first, more)) read e others =
    by_step text rest first more place (step_text place first) read e refl (λ next. others more next (shorter first more rest e))

decided : (fuel : ℕ) (text rest : List ℕ) (place : Place) → length rest < fuel → IsRead text place rest → Decided text
decided zero text rest place lt read = absurd (omega arith)
decided (suc fuel) text rest place lt read = by_cut text rest place (cut_of 10 rest) read refl (λ more next l. decided fuel text more next (omega (arith, l, lt)))

pub texts_decided : (text : List ℕ) → Decided text
texts_decided text = decided (length text + 1) text text Start (omega arith) (record { whole = refl; fits = tt })
