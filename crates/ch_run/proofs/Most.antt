-- How many rounds a drain makes at most.
use Rattle.std.proofs.Common.{◌≡◌, ℕ, ◌+◌, ◌*◌, ◌≤◌, length, ap, ◌∙◌, arith}
use Rattle.std.specs.Prelude.{if◌then◌else◌, Bool}
use Rattle.ch_protocol.specs.Machine.{passes, total, workers}
use Rattle.ch_protocol.specs.Drain.{most_rounds}
use Rattle.ch_protocol.specs.Machine.{State}
use Rattle.ch_engine.specs.declared.engine.Engine.{Engine}
use Rattle.ch_run.specs.Runs.{Begun, IsRunOf, IsRunning}

pub rounds_are : (q : Begun) (x : Engine) (s : State) (rows n most : ℕ) → IsRunOf q x s → rows ≡ total q.given.config → n ≡ length x.workers.items → most ≡ (if x.two_passes then 2 else 1) * (rows + n + 1)
    → most ≡ passes q.given.config * most_rounds q.given.config
rounds_are q x s rows n most r t l e =
    let c = q.given.config in
    let many : n ≡ workers c = l ∙ r.stands.workers_are.many in
    e ∙ (ap (λ (two : Bool). (if two then 2 else 1) * (rows + n + 1)) r.stands.kind ∙ (ap (λ k. passes c * (k + n + 1)) t ∙ ap (λ k. passes c * (total c + k + 1)) many))

pub workers_small : (x : Engine) → IsRunning x → length x.workers.items ≤ 65536
workers_small x r = omega (arith, r.is.planned.parts.many, r.is.stands.workers_are.many)
