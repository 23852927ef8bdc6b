use Rattle.std.proofs.Common.{◌∙◌, ap₂}
use Rattle.clap.specs.Words.{with_rule}
use Rattle.cheetah_check.specs.Words.{check_app}
use Rattle.cheetah_check.proofs.words.command.Goals as goal

pub returns : goal.returns
unfolding check_app
returns c =
    c.in_ok-with_program.ensures.shape c.program.ensures.local
    ∙ ap₂ with_rule (c.in_ok-with_profile.ensures.shape c.profile.ensures.local
    ∙ ap₂ with_rule c.new.ensures.app c.profile.ensures.rule)
    c.program.ensures.rule
