use Rattle.std.proofs.Common.{◌%◌, ℕ, ap, ◌∙◌}
use Rattle.rand_pcg.specs.Lcg.{Lcg}
use Rattle.ch_generated.proofs.DrawLemmas.{pcg32_is}
use Rattle.ch_generated.proofs.draws.draw.Goals as goal

pub returns-clause-number : goal.returns-clause-number
returns-clause-number c = ap (λ (p : ℕ × Lcg). p.0 % c.args.below) (c.next_word.ensures ∙ pcg32_is c.args.generator.now)

pub returns-clause-after : goal.returns-clause-after
returns-clause-after c = ap (λ (p : ℕ × Lcg). p.1) (c.next_word.ensures ∙ pcg32_is c.args.generator.now)
