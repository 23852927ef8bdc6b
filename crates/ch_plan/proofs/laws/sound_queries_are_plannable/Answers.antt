use Rattle.ch_plan.proofs.Plannable.{few_carried, sound_is_plannable}
use Rattle.ch_plan.proofs.laws.sound_queries_are_plannable.Goals as goal

pub returns-clause-kind : goal.returns-clause-kind
returns-clause-kind _ = sound_is_plannable

pub returns-clause-few : goal.returns-clause-few
returns-clause-few _ = λ b. few_carried b.carried 16
