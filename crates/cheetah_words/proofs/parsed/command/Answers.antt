use Rattle.std.proofs.Common.{◌∙◌, ap₂}
use Rattle.clap.specs.Words.{with_rule}
use Rattle.cheetah_words.specs.Parsed.{cheetah_app}
use Rattle.cheetah_words.proofs.parsed.command.Goals as goal

pub returns : goal.returns
unfolding cheetah_app
returns c =
    c.in_ok-with_table.ensures.shape c.table.ensures.local
    ∙ ap₂ with_rule (c.in_ok-with_plan.ensures.shape c.plan.ensures.local
    ∙ ap₂ with_rule (c.in_ok-with_schedule.ensures.shape c.schedule.ensures.local
    ∙ ap₂ with_rule (c.in_ok-with_profile.ensures.shape c.profile.ensures.local
    ∙ ap₂ with_rule (c.in_ok-with_query.ensures.shape c.query.ensures.local
    ∙ ap₂ with_rule c.new.ensures.app c.query.ensures.rule)
    c.profile.ensures.rule)
    c.schedule.ensures.rule)
    c.plan.ensures.rule)
    c.table.ensures.rule
