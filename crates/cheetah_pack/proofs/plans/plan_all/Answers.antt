use Rattle.std.proofs.Common.{◌≡◌, ◌+◌, ◌++◌, [], ◌∷◌, arith, subst, suc, sym, take, List}
use Rattle.ch_plan.specs.declared.planned.Planned.{Planned}
use Rattle.cheetah_pack_run.specs.Running.{AreAskedPlans, inputs_alone}
use Rattle.cheetah_pack_meaning.proofs.Asked.{few_carried, plannable, ranged}
use Rattle.cheetah_pack.proofs.Planning.{asked_here, plans_more, stands_here, stopped_all}
use Rattle.cheetah_pack.proofs.plans.plan_all.Goals as goal

pub plan_numbered-requires-clause-kind : goal.plan_numbered-requires-clause-kind
plan_numbered-requires-clause-kind c =
    let b = c.index-bounds-number.result in
    let shared = c.args.shared.now in
    plannable (inputs_alone shared.profile shared.tables b) (asked_here shared c.args.bounds.now c.loop-number.number b c.requires (omega arith) c.index-bounds-number.is)

pub plan_numbered-requires-clause-few : goal.plan_numbered-requires-clause-few
plan_numbered-requires-clause-few c =
    let b = c.index-bounds-number.result in
    let shared = c.args.shared.now in
    few_carried (inputs_alone shared.profile shared.tables b) (asked_here shared c.args.bounds.now c.loop-number.number b c.requires (omega arith) c.index-bounds-number.is)

pub plan_numbered-requires-clause-ranged : goal.plan_numbered-requires-clause-ranged
plan_numbered-requires-clause-ranged c =
    let b = c.index-bounds-number.result in
    let shared = c.args.shared.now in
    ranged (inputs_alone shared.profile shared.tables b) (asked_here shared c.args.bounds.now c.loop-number.number b c.requires (omega arith) c.index-bounds-number.is)

pub returns-in-Err : goal.returns-in-Err
returns-in-Err c =
    let b = c.index-bounds-number.result in
    let shared = c.args.shared.now in
    stopped_all shared.profile shared.tables c.args.bounds.now c.loop-number.plans c.loop-number.number b c.in-Err.why c.loop-number.invariant
    (stands_here c.args.bounds.now c.loop-number.number b (omega arith) c.index-bounds-number.is) c.in-Err.ensures

pub loop-number-preserved : goal.loop-number-preserved
loop-number-preserved c =
    let b = c.index-bounds-number.result in
    let p = c.in-Ok.planned in
    let k = c.loop-number.number in
    let shared = c.args.shared.now in
    let next : suc k ≡ k + 1 = omega arith in
    let asked = asked_here shared c.args.bounds.now k b c.requires (omega arith) c.index-bounds-number.is in
    let more = plans_more shared.profile shared.tables c.args.bounds.now c.loop-number.plans k b p c.loop-number.invariant (stands_here c.args.bounds.now k b (omega arith) c.index-bounds-number.is) (record { asked = asked; plan = c.in-Ok.ensures }) in
    subst (λ (plans : List Planned). AreAskedPlans shared.profile shared.tables (take (k + 1) c.args.bounds.now) plans) (sym c.in_ok-push-in-Ok.ensures.ok)
    (subst (λ m. AreAskedPlans shared.profile shared.tables (take m c.args.bounds.now) (c.loop-number.plans ++ p ∷ [])) next more)
