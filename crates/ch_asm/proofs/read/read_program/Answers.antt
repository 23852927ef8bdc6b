use Rattle.std.proofs.Common.{◌≡◌, ◌<◌, ℕ, ◌+◌, List, [], ◌∷◌, length, refl, sym, ap, ◌∙◌, arith, subst}
use Rattle.std.proofs.lemmas.Result.{err_from_is_err_and}
use Rattle.std.proofs.lemmas.Bool.Decides.{nat_tests}
use Rattle.ch_ir.specs.declared.program.Program.{Program}
use Rattle.ch_asm.specs.declared.place.Place.{Place}
use Rattle.ch_asm.specs.declared.place.Place.TheVariants.{Ended}
use Rattle.ch_asm.specs.Text.{program_text, IsProgram}
use Rattle.ch_asm.proofs.Places.{said}
use Rattle.ch_asm.proofs.Reading.{IsRead, one_more, bad_end, step_refuses, refused_only, read_whole}
use Rattle.ch_asm.proofs.Refusals.{bad_is_none, once}
use Rattle.ch_asm.proofs.read.read_program.Goals as goal

pub loop-first-preserved : goal.loop-first-preserved
loop-first-preserved c =
    let text : List ℕ = c.args.text.now in
    let first : List ℕ = c.in-Some.first.now in
    let more : List ℕ = c.in-Some.more.now in
    let longer = one_more text c.loop-first.place c.in_ok-place.place first more c.loop-first.rest.now c.loop-first.invariant.read c.in-Some.ensures.parts c.in_ok-place.ensures in
    record { read = longer.read; line = omega (arith, longer.longer) }

pub returns-in_err-place-clause-refused : goal.returns-in_err-place-clause-refused
returns-in_err-place-clause-refused c =
    let p = err_from_is_err_and c.from_residual.result c.from_residual.ensures.1 in
    rw (p.1, p.2) (step_refuses c.args.text.now c.loop-first.place c.in-Some.first.now c.in-Some.more.now c.loop-first.rest.now c.loop-first.line c.in_err-place.field-0.0
    c.loop-first.invariant.read c.in-Some.ensures.parts c.loop-first.invariant.line c.in_err-place.ensures)

pub returns-in_err-place-clause-only : goal.returns-in_err-place-clause-only
returns-in_err-place-clause-only c program h e =
    let p = err_from_is_err_and c.from_residual.result c.from_residual.ensures.1 in
    rw (p.1, p.2) (refused_only c.args.text.now c.in_err-place.field-0.0
    (step_refuses c.args.text.now c.loop-first.place c.in-Some.first.now c.in-Some.more.now c.loop-first.rest.now c.loop-first.line c.in_err-place.field-0.0
    c.loop-first.invariant.read c.in-Some.ensures.parts c.loop-first.invariant.line c.in_err-place.ensures) program h e)

pub returns-then-not-is_empty-clause-refused : goal.returns-then-not-is_empty-clause-refused
returns-then-not-is_empty-clause-refused c =
    let rest : List ℕ = c.loop-first.rest.now in
    let some : 0 < length rest = grind (arith, nat_tests) in
    let bad = bad_end c.args.text.now c.loop-first.place rest c.loop-first.invariant.read c.in_default.ensures.parts (λ p at e. absurd (omega (arith, ap length e))) in
    (length (said c.loop-first.place) + 1, bad, c.loop-first.invariant.line)

pub returns-then-not-is_empty-clause-only : goal.returns-then-not-is_empty-clause-only
returns-then-not-is_empty-clause-only c program h e =
    let rest : List ℕ = c.loop-first.rest.now in
    let some : 0 < length rest = grind (arith, nat_tests) in
    let bad = bad_end c.args.text.now c.loop-first.place rest c.loop-first.invariant.read c.in_default.ensures.parts (λ p at e. absurd (omega (arith, ap length e))) in
    absurd (bad_is_none c.args.text.now (length (said c.loop-first.place) + 1) program bad h e)

nothing : (rest : List ℕ) → length rest ≡ 0 → rest ≡ []
nothing [] e = refl
nothing (b ∷ bs) e = absurd (omega arith)

at_end : (text rest : List ℕ) (place : Place) (p : Program) → IsRead text place rest → length rest ≡ 0 → place ≡ Ended p → IsProgram p × (text ≡ program_text p)
at_end text rest place p read none at =
    read_whole text p (subst (λ (q : Place). IsRead text q []) at (subst (λ (r : List ℕ). IsRead text place r) (nothing rest none) read))

pub returns-in-Ended-clause-read : goal.returns-in-Ended-clause-read
returns-in-Ended-clause-read c =
    let none : length c.loop-first.rest.now ≡ 0 = grind (arith, nat_tests) in
    at_end c.args.text.now c.loop-first.rest.now c.loop-first.place c.in-Ended.program c.loop-first.invariant.read none c.in-Ended.is

pub returns-in-Ended-clause-only : goal.returns-in-Ended-clause-only
returns-in-Ended-clause-only c program h e =
    let none : length c.loop-first.rest.now ≡ 0 = grind (arith, nat_tests) in
    let read = at_end c.args.text.now c.loop-first.rest.now c.loop-first.place c.in-Ended.program c.loop-first.invariant.read none c.in-Ended.is in
    once c.in-Ended.program program read.0 h (sym read.1 ∙ e)

pub returns : goal.returns
returns c =
    let bad = bad_end c.args.text.now c.loop-first.place c.loop-first.rest.now c.loop-first.invariant.read c.in_default.ensures.parts (λ p at e. c.in_default-place.not-Ended p at) in
    record {
      read = tt;
      refused = (length (said c.loop-first.place) + 1, bad, c.loop-first.invariant.line);
      only = λ program h e. absurd (bad_is_none c.args.text.now (length (said c.loop-first.place) + 1) program bad h e);
    }
