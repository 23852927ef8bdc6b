use Rattle.std.proofs.Common.{◌∙◌, ap, sym, Some}
use Rattle.std.specs.Prelude.{option_map}
use Rattle.ch_plan.specs.declared.error.PlanError.{PlanError}
use Rattle.cheetah_inputs.proofs.Limits.{limit_found}
use Rattle.cheetah_inputs.specs.Limits.{plan_line}
use Rattle.cheetah_pack_meaning.specs.Queries.{numbered}
use Rattle.cheetah_pack.proofs.plans.plan_numbered.Goals as goal

pub returns-in_ok-number_line-in-Err : goal.returns-in_ok-number_line-in-Err
returns-in_ok-number_line-in-Err c =
    let found = limit_found c.args.bound.now c.args.profile.now c.in-Err.error c.plan.result c.in-Err.is c.in_ok-line-in-Err.ensures.known c.plan.ensures.refused c.plan.ensures.memory in
    let said = c.in_ok-number_line-in-Err.ensures ∙ ap (numbered c.args.number) (c.as_slice.ensures ∙ c.in_ok-line-in-Err.ensures.line) in
    ap (option_map (λ (error : PlanError). numbered c.args.number (plan_line error))) found ∙ ap Some (sym said)
