use Rattle.std.proofs.Common.{◌≡◌, ◌<◌, ℕ, ◌+◌, List, Option, None, length, get_or, drop, sym, ◌∙◌, ap, subst}
use Rattle.std.proofs.lemmas.List.{drop_more}
use Rattle.ch_ir.specs.declared.program.Update.{Update}
use Rattle.ch_ir.specs.declared.program.Update.TheVariants.{Keep}
use Rattle.ch_ir.specs.Rules.{Known, first_unknown, update_operand, update_operands}
use Rattle.ch_verify.specs.Fits.{AllConstFit}
use Rattle.ch_verify.specs.Known.{known_of}
use Rattle.ch_verify.proofs.Operands.{or_first, first_append, fits_append}
use Rattle.ch_verify.proofs.access.unknown_in_updates.Goals as goal

step : (ks : Known) (us : List Update) (i : ℕ) (u : Update) → i < length us
    → first_unknown ks (update_operands (drop i us)) ≡ or_first (first_unknown ks (update_operand (get_or us i u))) (first_unknown ks (update_operands (drop (i + 1) us)))
step ks us i u h = ap (λ (xs : List Update). first_unknown ks (update_operands xs)) (drop_more us i u h) ∙ first_append ks (update_operand (get_or us i u)) (update_operands (drop (i + 1) us))

pub returns-in-Some-clause-word : goal.returns-in-Some-clause-word
returns-in-Some-clause-word c =
    let ks : Known = known_of c.args.known.now in
    let us : List Update = c.args.updates.now in
    let i : ℕ = c.loop-update.update-index in
    let rest : Option ℕ = first_unknown ks (update_operands (drop (i + 1) us)) in
    sym (sym c.loop-update.invariant.word ∙ step ks us i Keep c.loop-update-test.true ∙ ap (λ (o : Option ℕ). or_first o rest) (sym c.in-Some.ensures.word))

pub loop-update-preserved : goal.loop-update-preserved
loop-update-preserved c =
    let ks : Known = known_of c.args.known.now in
    let us : List Update = c.args.updates.now in
    let i : ℕ = c.loop-update.update-index in
    let rest : Option ℕ = first_unknown ks (update_operands (drop (i + 1) us)) in
    let found : first_unknown ks (update_operand (get_or us i Keep)) ≡ None = cc in
    record {
      word = sym (step ks us i Keep c.loop-update-test.true ∙ ap (λ (o : Option ℕ). or_first o rest) found) ∙ c.loop-update.invariant.word;
      fits = λ more. c.loop-update.invariant.fits (subst (λ (xs : List Update). AllConstFit (update_operands xs)) (sym (drop_more us i Keep c.loop-update-test.true))
          (fits_append (update_operand (get_or us i Keep)) (update_operands (drop (i + 1) us)) c.unknown_of_update.ensures.fits more));
    }
