use Rattle.std.proofs.Common.{ℕ, ◌+◌, ◌<◌, ◌^◌, List, length, refl, ap, sym, arith, subst}
use Rattle.std.specs.Prelude.{slice_index, ◌==◌}
use Rattle.ch_protocol.specs.Packets.{Part}
use Rattle.ch_protocol.specs.Machine.{start}
use Rattle.ch_stands.specs.Team.{sizes_of}
use Rattle.ch_run.specs.Asked.{begun_over}
use Rattle.ch_run.proofs.Asking.{begins_over, over_is}
use Rattle.ch_run.proofs.run.Run.start_over.Goals as goal

pub begin-requires-clause-many : goal.begin-requires-clause-many
begin-requires-clause-many c = omega (arith, ap (λ (ps : List Part). length ps) c.in_ok-parts.ensures, c.requires.few.many)

pub begin-requires-clause-sizes : goal.begin-requires-clause-sizes
begin-requires-clause-sizes c = subst (λ (ps : List Part). (w : ℕ) → w < length ps → slice_index (sizes_of ps) w + 1 < 2 ^ 32) (sym c.in_ok-parts.ensures) c.requires.few.sizes

pub invariant_of-result : goal.invariant_of-result
invariant_of-result c =
    let texts = c.args.ranks.now in
    let b = c.args.bound.now in
    let tables = c.args.tables.now in
    let k = c.args.plan.now.kind in
    let q = begun_over texts b tables k c.args.window c.args.switch in
    let f = c.in_ok-engine.ensures.stands in
    record {
      begun = q;
      state = start q.given.config;
      is = begins_over texts b tables k c.requires.plan.0 c.args.window c.args.switch c.in_ok-engine.engine c.requires.tables c.requires.plan.1 c.requires.carried c.requires.few c.requires.window c.ranges.window.fits c.requires.switch
          (λ folded. f q.given (sym c.in_ok-parts.ensures) (ap (λ n. n == 2) c.args.plan.now.times) refl (over_is texts b tables k c.args.window c.args.switch c.requires.switch) folded)
          c.in_ok-engine.ensures.query.1 c.in_ok-engine.ensures.query.0;
    }

pub returns : goal.returns
returns c =
    let texts = c.args.ranks.now in
    let b = c.args.bound.now in
    let tables = c.args.tables.now in
    let k = c.args.plan.now.kind in
    let q = begun_over texts b tables k c.args.window c.args.switch in
    let f = c.in_ok-engine.ensures.stands in
    begins_over texts b tables k c.requires.plan.0 c.args.window c.args.switch c.in_ok-engine.engine c.requires.tables c.requires.plan.1 c.requires.carried c.requires.few c.requires.window c.ranges.window.fits c.requires.switch
    (λ folded. f q.given (sym c.in_ok-parts.ensures) (ap (λ n. n == 2) c.args.plan.now.times) refl (over_is texts b tables k c.args.window c.args.switch c.requires.switch) folded)
    c.in_ok-engine.ensures.query.1 c.in_ok-engine.ensures.query.0
