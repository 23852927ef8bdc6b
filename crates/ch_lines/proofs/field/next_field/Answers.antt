use Rattle.std.proofs.Common.{◌≡◌, ◌<◌, ℕ, List, ◌∷◌, length, take, drop, arith, ◌∙◌, ap, sym, length-take}
use Rattle.std.proofs.lemmas.List.{take-append-drop}
use Rattle.std.proofs.lemmas.Bool.Decides.{nat_tests}
use Rattle.ch_lines.specs.Lines.{fields_of}
use Rattle.ch_lines.proofs.Rest.{take-rest}
use Rattle.ch_lines.proofs.FieldLemmas.{fields_of-first, fields_of-some}
use Rattle.ch_lines.proofs.field.next_field.Goals as goal

pub returns-clause-field : goal.returns-clause-field
returns-clause-field c =
    let line : List ℕ = c.trim_blanks-trimmed.result.now in
    let n : ℕ = c.field_len-len.result in
    let some : 0 < length line = grind (arith, nat_tests) in
    let visible = c.trim_blanks-trimmed.ensures.first some in
    let whole = c.field_len-len.ensures.some visible in
    let within = c.field_len-len.ensures.within in
    sym c.trim_blanks-trimmed.ensures.same ∙ ap fields_of (sym (take-append-drop n line))
    ∙ fields_of-first (take n line) (drop n line) c.field_len-len.ensures.visible (omega (arith, length-take n line)) c.field_len-len.ensures.ended
    ∙ ap (λ (rest : List ℕ). take n line ∷ fields_of rest) (sym (take-rest line n))

pub returns-clause-end : goal.returns-clause-end
returns-clause-end c =
    let line : List ℕ = c.trim_blanks-trimmed.result.now in
    let some : 0 < length line = grind (arith, nat_tests) in
    let visible = fields_of-some line (c.trim_blanks-trimmed.ensures.first some) in
    (λ h. cc, λ h. let none : length (fields_of line) ≡ 0 = ap length (c.trim_blanks-trimmed.ensures.same ∙ h) in absurd (omega arith))
