use Rattle.std.proofs.Common.{rules, arith, ◌≡◌, ◌≤◌, ◌-◌, ◌∙◌, ◌∷◌, [], ap, length, length-append, min, refl}
use Rattle.ch_command.specs.Reading.{limit_after}
use Rattle.ch_command.proofs.Readings.{goes_on, named, next_name, small_and, stops, taken_and}
use Rattle.ch_command.proofs.reading.read_files.Goals as goal

pub returns-in-Err-clause-reads : goal.returns-in-Err-clause-reads
returns-in-Err-clause-reads g c =
    stops _ _ _ _ _ _ _ _ _ _ _ _ c.loop-name.invariant.told c.loop-name.invariant.later (c.limit_after.ensures ∙ ap limit_after c.loop-name.invariant.count)
    (next_name (λ s. s.now) c.args.names.now c.loop-name.name-index _ c.loop-name-test.true)
    (named (λ s. s.now) c.args.names.now c.loop-name.name-index _ c.loop-name-test.true) c.loop-name.invariant.left c.in-Err.ensures.reads

pub loop-name-preserved : goal.loop-name-preserved
loop-name-preserved g c =
    let inv = c.loop-name.invariant in
    let pushed = c.in_ok-push-in-Ok.ensures.ok in
    let limit = c.limit_after.ensures ∙ ap limit_after inv.count in
    let most : c.limit_after.result ≡ min 67108864 (536870912 - c.loop-name.taken) = c.limit_after.ensures in
    let within : length c.in-Ok.bytes ≤ c.limit_after.result = c.in-Ok.ensures.reads.0 in
    record {
      told = c.in-Ok.ensures.same ∙ inv.told;
      later = omega (arith, inv.later, c.in-Ok.ensures.later);
      steady = search rules;
      many = rw (pushed, length-append c.loop-name.contents (c.in-Ok.bytes ∷ []), inv.many) refl;
      small = rw pushed (small_and _ _ _ _ limit inv.small within);
      count = rw (pushed, taken_and c.loop-name.contents c.in-Ok.bytes, inv.count, c.len-taken.ensures) refl;
      room = omega (arith, most, within, c.len-taken.ensures, inv.room);
      left = rw pushed (goes_on _ _ _ _ _ _ _ _ _ inv.told limit (next_name (λ s. s.now) c.args.names.now c.loop-name.name-index _ c.loop-name-test.true) inv.left c.in-Ok.ensures.reads.1);
    }
