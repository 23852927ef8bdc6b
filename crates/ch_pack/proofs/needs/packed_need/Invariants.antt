use Rattle.std.proofs.Common.{◌≡◌, ◌+◌, drop, max}
use Rattle.ch_pack_laws.specs.Needs.{greatest, total}
use Rattle.ch_pack.specs.Plans.{needs_of}
use Rattle.ch_pack.proofs.needs.packed_need.Given as goal

abbrev pub invariant-loop-plan : goal.invariant-loop-plan
invariant-loop-plan l = record {
  width : max l.width (greatest (λ n. n.width) (needs_of (drop l.plan-index l.plans))) ≡ greatest (λ n. n.width) (needs_of l.plans);
  cells : max l.cells (greatest (λ n. n.cells) (needs_of (drop l.plan-index l.plans))) ≡ greatest (λ n. n.cells) (needs_of l.plans);
  words : l.words + total (λ n. n.words + n.stages) (needs_of (drop l.plan-index l.plans)) ≡ total (λ n. n.words + n.stages) (needs_of l.plans);
  stages : l.stages + total (λ n. n.stages) (needs_of (drop l.plan-index l.plans)) ≡ total (λ n. n.stages) (needs_of l.plans);
}
