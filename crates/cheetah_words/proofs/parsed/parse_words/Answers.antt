use Rattle.std.proofs.Common.{◌≡◌, ◌∙◌, ap, ap₂, refl, sym, true, inl, inr}
use Rattle.clap.specs.Words.{fault_of, matches_of, is_simple, is_simple_and_free}
use Rattle.clap.proofs.OnLiterals.{clap_on_literals}
use Rattle.cheetah_words.specs.Parsed.{cheetah_app, kinds_of, given_by}
use Rattle.cheetah_words.proofs.Usages.{not_parsed}
use Rattle.cheetah_words.proofs.parsed.parse_words.Goals as goal

plain : is_simple_and_free cheetah_app ≡ true
unfolding clap_on_literals cheetah_app
plain = refl

simple : is_simple cheetah_app ≡ true
unfolding clap_on_literals cheetah_app
simple = refl

pub returns-in-Ok-try_get_matches_from : goal.returns-in-Ok-try_get_matches_from
unfolding kinds_of given_by
returns-in-Ok-try_get_matches_from c =
    let e = c.in-Ok.ensures in
    let s = c.in-Ok-try_get_matches_from.ensures in
    (ap₂ fault_of (sym e) refl ∙ s.kinds (ap is_simple_and_free e ∙ plain), (s.matches (ap is_simple e ∙ simple)).0 ∙ ap₂ matches_of e refl)

pub returns : goal.returns
unfolding kinds_of
returns c =
    let e = c.in-Ok.ensures in
    let s = c.in-Err-try_get_matches_from.ensures in
    not_parsed _ c.usage.result (λ none. elim (s.kinds (ap is_simple_and_free e ∙ plain)) [
      | inl memory ↦ c.in_default.not-OutOfMemory (c.kind.ensures ∙ memory)
      | inr among ↦ rw (ap₂ fault_of e refl ∙ none) at among
    ])
