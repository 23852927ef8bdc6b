use Rattle.std.proofs.Common.{◌≡◌, ◌<◌, ℕ, suc, ◌+◌, ◌-◌, false, sym, ◌∙◌, ap, arith, refl}
use Rattle.std.specs.Prelude.{is_some}
use Rattle.ch_ir.specs.Rules.{Known, learn, whole, old_refusal, after_old}
use Rattle.ch_verify.specs.Known.{known_of}
use Rattle.ch_verify.proofs.access.old_refusal.Goals as goal

rule_step : (stage old cells at : ℕ) (ks : Known) → at < cells → is_some (ks (old + at)) ≡ false
    → old_refusal stage (old + (at + 1)) (cells - (at + 1)) (learn ks (old + at) whole) ≡ old_refusal stage (old + at) (cells - at) ks
rule_step stage old cells at ks h t =
    let e : cells - at ≡ suc (cells - (at + 1)) = omega arith in
    let f : old + (at + 1) ≡ (old + at) + 1 = omega arith in
    rw (e, t, f) refl

known_step : (old cells at : ℕ) (ks : Known) → at < cells
    → after_old (old + (at + 1)) (cells - (at + 1)) (learn ks (old + at) whole) ≡ after_old (old + at) (cells - at) ks
known_step old cells at ks h =
    let e : cells - at ≡ suc (cells - (at + 1)) = omega arith in
    let f : old + (at + 1) ≡ (old + at) + 1 = omega arith in
    rw (e, f) refl

pub loop-at-preserved : goal.loop-at-preserved
loop-at-preserved c =
    let ks : Known = known_of c.loop-at.known in
    let unknown : is_some (ks (c.args.old + c.loop-at.at)) ≡ false = sym c.is_known.ensures ∙ c.if-is_known.false in
    record {
      rule = ap (old_refusal c.args.stage (c.args.old + (c.loop-at.at + 1)) (c.args.cells - (c.loop-at.at + 1))) c.learn.ensures
          ∙ rule_step c.args.stage c.args.old c.args.cells c.loop-at.at ks c.loop-at-test.true unknown ∙ c.loop-at.invariant.rule;
      known = ap (after_old (c.args.old + (c.loop-at.at + 1)) (c.args.cells - (c.loop-at.at + 1))) c.learn.ensures
          ∙ known_step c.args.old c.args.cells c.loop-at.at ks c.loop-at-test.true ∙ c.loop-at.invariant.known;
    }
