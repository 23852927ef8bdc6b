use Rattle.std.proofs.Common.{◌<◌, ◌^◌, ◌∷◌, [], arith, length, refl, subst}
use Rattle.ch_audit_laws.specs.Own.{cut}
use Rattle.ch_audit_laws.specs.Said.{state_after}
use Rattle.ch_audit_runs.proofs.Walks.{one_more_line, refused_there, sendable_after, whole_there}
use Rattle.ch_audit_runs.specs.Walking.{Comes}
use Rattle.ch_audit_runs.specs.declared.walking.Found.{Found}
use Rattle.ch_audit_runs.proofs.walking.go_through.Goals as goal

pub returns-in-Over : goal.returns-in-Over
returns-in-Over g c d h are =
    let inv = c.loop-line.invariant in
    let old = g.R.Noting.stands c.loop-line.run d in
    let line = c.in-Some.line.now in
    let rest = cut c.in-Some.behind.now in
    let w = inv.walks d h are in
    let few : length w.steps < 2 ^ 32 = omega (arith, w.count, inv.short, c.requires.epochs) in
    let f = c.in_ok-check_line.ensures.comes in
    let comes = subst (λ (x : Found). Comes d (state_after d w.steps) (g.R.Noting.stands c.check_line.new.run d) c.check_line.new.rows.items line rest x) c.in-Over.is
    (f d (state_after d w.steps) w.stands.run (sendable_after d w.steps are few) w.stands.kept) in
    (w.steps, whole_there d old c.loop-line.rows.items c.args.text.now c.loop-line.rest.now (line ∷ rest) c.loop-line.lines w c.in-Some.ensures.parts comes.1, w.count, comes.0)

pub returns-in-Behind : goal.returns-in-Behind
returns-in-Behind g c d h are =
    let inv = c.loop-line.invariant in
    let old = g.R.Noting.stands c.loop-line.run d in
    let line = c.in-Some.line.now in
    let rest = cut c.in-Some.behind.now in
    let w = inv.walks d h are in
    let few : length w.steps < 2 ^ 32 = omega (arith, w.count, inv.short, c.requires.epochs) in
    let f = c.in_ok-check_line.ensures.comes in
    let comes = subst (λ (x : Found). Comes d (state_after d w.steps) (g.R.Noting.stands c.check_line.new.run d) c.check_line.new.rows.items line rest x) c.in-Behind.is
    (f d (state_after d w.steps) w.stands.run (sendable_after d w.steps are few) w.stands.kept) in
    refused_there d old c.loop-line.rows.items c.args.text.now c.loop-line.rest.now (line ∷ rest) c.loop-line.lines 2 w c.in-Some.ensures.parts comes

pub returns-in-Wrong : goal.returns-in-Wrong
returns-in-Wrong g c d h are =
    let inv = c.loop-line.invariant in
    let old = g.R.Noting.stands c.loop-line.run d in
    let line = c.in-Some.line.now in
    let rest = cut c.in-Some.behind.now in
    let w = inv.walks d h are in
    let few : length w.steps < 2 ^ 32 = omega (arith, w.count, inv.short, c.requires.epochs) in
    let f = c.in_ok-check_line.ensures.comes in
    let comes = subst (λ (x : Found). Comes d (state_after d w.steps) (g.R.Noting.stands c.check_line.new.run d) c.check_line.new.rows.items line rest x) c.in-Wrong.is
    (f d (state_after d w.steps) w.stands.run (sendable_after d w.steps are few) w.stands.kept) in
    refused_there d old c.loop-line.rows.items c.args.text.now c.loop-line.rest.now (line ∷ rest) c.loop-line.lines 1 w c.in-Some.ensures.parts comes

pub loop-line-preserved : goal.loop-line-preserved
loop-line-preserved g c =
    let inv = c.loop-line.invariant in
    let made = c.in_ok-check_line.ensures in
    let parts = c.in-Some.ensures in
    record {
      valid = made.valid;
      epoch = omega (arith, inv.epoch, made.epoch);
      short = omega (arith, inv.short, parts.shorter);
      walks = λ d h are.
          let line = c.in-Some.line.now in
          let rest = cut c.in-Some.behind.now in
          let w = inv.walks d h are in
          let few : length w.steps < 2 ^ 32 = omega (arith, w.count, inv.short, c.requires.epochs) in
          let comes = subst (λ (x : Found). Comes d (state_after d w.steps) (g.R.Noting.stands c.check_line.new.run d) c.check_line.new.rows.items line rest x) c.in-Next.is
          (made.comes d (state_after d w.steps) w.stands.run (sendable_after d w.steps are few) w.stands.kept) in
          one_more_line d (g.R.Noting.stands c.loop-line.run d) (g.R.Noting.stands c.check_line.new.run d) c.loop-line.rows.items c.check_line.new.rows.items c.args.text.now c.loop-line.rest.now line c.in-Some.behind.now c.loop-line.lines w parts.parts comes;
    }

pub returns : goal.returns
returns g c d h are =
    let inv = c.loop-line.invariant in
    let old = g.R.Noting.stands c.loop-line.run d in
    let w = inv.walks d h are in
    refused_there d old c.loop-line.rows.items c.args.text.now c.loop-line.rest.now (c.loop-line.rest.now ∷ []) c.loop-line.lines 1 w c.in_default.ensures.parts refl
