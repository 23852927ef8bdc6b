-- The workers of a run, as a drain asks them.
use Rattle.std.proofs.Common.{◌≡◌, ℕ, suc, ◌+◌, ◌<◌, ◌^◌, true, false, List, length, ap, sym, ◌∙◌, arith, subst}
use Rattle.std.specs.Prelude.{slice_index_or, Bool, Option, Some, None, OnOk, OnErr, Result, Ok, Err}
use Rattle.ch_ends.specs.Worker.{Progress, acked_of}
use Rattle.ch_protocol.specs.Sender.{next_number, open_numbers}
use Rattle.ch_protocol.specs.Machine.{Config, State, Event, can_send, run, size, step}
use Rattle.ch_ends.specs.Packets.{no_part}
use Rattle.ch_stands.proofs.Progressing.{acked_same, may_same, number_is, no_number}
use Rattle.ch_engine.proofs.Sending.{many_parts, rows_many, stands_at}
use Rattle.ch_engine.specs.declared.engine.Engine.{Engine}
use Rattle.ch_run.specs.Making.{Makes, Noting}
use Rattle.ch_run.specs.Runs.{Begun, IsRunOf, IsRunning, LeadsOn, LeadsTo}
use Rattle.ch_run.proofs.Going.{same_team}

-- how many numbers of a worker are open
pub count_is : (q : Begun) (e x : Engine) (s : State) (w : ℕ) (p : Progress) → e ≡ x → IsRunOf q x s → w < length x.workers.items → p ≡ slice_index_or e.workers.items w p
    → length (open_numbers p.next (acked_of p)) ≡ length (open_numbers (s.next w) (s.acked w))
count_is q e x s w p v r lt is =
    let at = stands_at q.given x s w p r.stands lt (is ∙ ap (λ (y : Engine). slice_index_or y.workers.items w p) v) in
    ap (λ (n : ℕ). length (open_numbers n (acked_of p))) at.next_is ∙ ap (λ (a : ℕ → Bool). length (open_numbers (s.next w) a)) (acked_same p _ _ _ _ _ _ at)

-- whether a worker may send
pub may_is : (q : Begun) (y : Engine) (t : State) (w k : ℕ) (p : Progress) → IsRunOf q y t → w < length y.workers.items → p ≡ slice_index_or y.workers.items w p → Some k ≡ next_number p.rows p.window p.next (acked_of p)
    → can_send q.given.config t w ≡ true
may_is q y t w k p r lt is n =
    let at = stands_at q.given y t w p r.stands lt is in
    sym (may_same p _ _ _ _ _ _ at) ∙ (number_is p.rows p.window p.next k (acked_of p) n).0

pub may_not : (q : Begun) (y : Engine) (t : State) (w : ℕ) (p : Progress) → IsRunOf q y t → w < length y.workers.items → p ≡ slice_index_or y.workers.items w p → ◌≡◌ {A = Option ℕ} None (next_number p.rows p.window p.next (acked_of p))
    → can_send q.given.config t w ≡ false
may_not q y t w p r lt is n =
    let at = stands_at q.given y t w p r.stands lt is in
    sym (may_same p _ _ _ _ _ _ at) ∙ no_number p.rows p.window p.next (acked_of p) n

-- the most that a worker sends in its turn
pub most_is : (q : Begun) (e x : Engine) (s : State) (w rows : ℕ) → e ≡ x → IsRunOf q x s → rows ≡ length (slice_index_or e.parts w no_part).tuples → rows + 1 ≡ suc (size q.given.config w)
most_is q e x s w rows v r is =
    let n = rows_many q.given x s w r.stands in
    let same = ap (λ (y : Engine). length (slice_index_or y.parts w no_part).tuples) v in
    omega (arith, n, same, is)

pub most_small : (e x : Engine) (w rows : ℕ) → IsRunning e → e ≡ x → w < length x.workers.items → rows ≡ length (slice_index_or e.parts w no_part).tuples → rows + 1 < 2 ^ 32
most_small e x w rows r v lt is =
    let g = r.begun.given in
    let n = rows_many g e r.state w r.is.stands in
    let same = ap (λ (y : Engine). length y.workers.items) v in
    let small = r.is.planned.parts.sizes w (omega (arith, lt, same, r.is.stands.workers_are.many)) in
    omega (arith, n, is, small)

-- no worker comes or goes
pub team_made : (e : Engine) (x y : Noting) (f : Config → State → List Event) → IsRunning e → e ≡ x.0 → Makes x y f → length y.0.workers.items ≡ length x.0.workers.items
team_made e x y f r v a =
    let x_runs = subst IsRunning v r in
    same_team x_runs.begun x.0 y.0 x_runs.state (run x_runs.begun.given.config (f x_runs.begun.given.config x_runs.state) x_runs.state) x_runs.is (a x_runs.begun x_runs.state x_runs.is).0

pub team_lead : (e x y : Engine) → IsRunning e → e ≡ x → LeadsOn x y → length y.workers.items ≡ length x.workers.items
team_lead e x y r v a =
    let x_runs = subst IsRunning v r in
    let o = a x_runs.begun x_runs.state x_runs.is in
    same_team x_runs.begun x y x_runs.state (run x_runs.begun.given.config o.0 x_runs.state) x_runs.is o.1

-- a worker has a part
pub part_there : (e x : Engine) (w : ℕ) → IsRunning e → e ≡ x → w < length x.workers.items → w < length e.parts
part_there e x w r v lt =
    let n = many_parts r.begun.given e r.state r.is.stands in
    let same = ap (λ (y : Engine). length y.workers.items) v in
    omega (arith, n, lt, same)

pub team_step : {A E : Type 0} (e x y : Engine) (r : Result A E) (ev : Event) → IsRunning e → e ≡ x → OnOk r (LeadsTo x y (λ c s. step c s ev)) → OnErr r (LeadsTo x y (λ c s. s)) → length y.workers.items ≡ length x.workers.items
team_step e x y (Ok a) ev r v ok err = let k = subst IsRunning v r in same_team k.begun x y k.state (step k.begun.given.config k.state ev) k.is (ok k.begun k.state k.is)
team_step e x y (Err a) ev r v ok err = let k = subst IsRunning v r in same_team k.begun x y k.state k.state k.is (err k.begun k.state k.is)
