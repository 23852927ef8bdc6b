-- The open flows of a run, worker after worker.
use Rattle.std.proofs.Common.{◌≡◌, ℕ, zero, suc, ◌+◌, ◌<◌, ◌^◌, Bool, true, false, List, [], ◌∷◌, ◌++◌, length, map, filter, take, refl, ap, sym, ◌∙◌, arith}
use Rattle.std.specs.Prelude.{not, slice_get, slice_index_or, Option, Some, None}
use Rattle.std.proofs.lemmas.List.{map-append}
use Rattle.std.proofs.lemmas.List.Elements.{filter-append}
use Rattle.ch_cells.specs.declared.outcome.OpenFlow.{OpenFlow as RustFlow}
use Rattle.ch_ends.specs.Worker.{Progress, acked_of}
use Rattle.ch_protocol.specs.Sets.{numbers_from}
use Rattle.ch_protocol.specs.Sender.{acknowledged, is_done, open_numbers}
use Rattle.ch_protocol.specs.Machine.{Config, State, size, stopped}
use Rattle.ch_protocol.specs.Outcome.{open_flow, outcome, report}
use Rattle.ch_stands.proofs.Progressing.{acked_same}
use Rattle.ch_ends.specs.Packets.{no_part}
use Rattle.ch_engine.proofs.Sending.{rows_many, stands_at}
use Rattle.ch_engine.specs.declared.engine.Engine.{Engine}
use Rattle.ch_run.specs.Outcomes.{counts_seen, flow_seen, outcome_seen}
use Rattle.ch_run.specs.declared.outcome.Outcome.TheVariants as seen
use Rattle.ch_run.specs.Runs.{Begun, IsRunOf, IsRunning}

abbrev pub is_open : Config → State → ℕ → Bool
is_open c s w = not (is_done (size c w) (s.acked w))

-- the flows of the first workers
abbrev pub flows_below : Config → State → ℕ → List RustFlow
flows_below c s n = map flow_seen (map (open_flow c s) (filter (is_open c s) (numbers_from 0 n)))

numbers_push : (from n : ℕ) → numbers_from from (n + 1) ≡ numbers_from from n ++ (from + n) ∷ []
numbers_push from zero = let e : from + 0 ≡ from = omega arith in ap (λ k. k ∷ []) (sym e)
numbers_push from (suc n) =
    let e : suc n + 1 ≡ suc (n + 1) = omega arith in
    let k : suc from + n ≡ from + suc n = omega arith in
    ap (numbers_from from) e ∙ (ap (λ ks. from ∷ ks) (numbers_push (suc from) n) ∙ ap (λ m. from ∷ (numbers_from (suc from) n ++ m ∷ [])) k)

flows_push : (c : Config) (s : State) (n : ℕ) → flows_below c s (n + 1) ≡ flows_below c s n ++ map flow_seen (map (open_flow c s) (filter (is_open c s) (n ∷ [])))
flows_push c s n =
    let e : 0 + n ≡ n = omega arith in
    let p : List ℕ → List RustFlow = λ ks. map flow_seen (map (open_flow c s) ks) in
    ap (λ ks. p (filter (is_open c s) ks)) (numbers_push 0 n ∙ ap (λ m. numbers_from 0 n ++ m ∷ []) e)
    ∙ (ap p (filter-append (is_open c s) (numbers_from 0 n) (n ∷ []))
    ∙ (ap (map flow_seen) (map-append (open_flow c s) (filter (is_open c s) (numbers_from 0 n)) (filter (is_open c s) (n ∷ [])))
    ∙ map-append flow_seen (map (open_flow c s) (filter (is_open c s) (numbers_from 0 n))) (map (open_flow c s) (filter (is_open c s) (n ∷ [])))))

pub flows_more : (c : Config) (s : State) (n : ℕ) → is_done (size c n) (s.acked n) ≡ false → flows_below c s (n + 1) ≡ flows_below c s n ++ flow_seen (open_flow c s n) ∷ []
flows_more c s n f =
    let open' : filter (is_open c s) (n ∷ []) ≡ n ∷ [] = rw f refl in
    flows_push c s n ∙ ap (λ ks. flows_below c s n ++ map flow_seen (map (open_flow c s) ks)) open'

append_none : {X : Type 0} (xs : List X) → xs ++ [] ≡ xs
append_none [] = refl
append_none (x ∷ xs) = ap (λ ys. x ∷ ys) (append_none xs)

pub flows_skip : (c : Config) (s : State) (n : ℕ) → is_done (size c n) (s.acked n) ≡ true → flows_below c s (n + 1) ≡ flows_below c s n
flows_skip c s n f =
    let none : filter (is_open c s) (n ∷ []) ≡ [] = rw f refl in
    flows_push c s n ∙ (ap (λ ks. flows_below c s n ++ map flow_seen (map (open_flow c s) ks)) none ∙ append_none (flows_below c s n))

-- whether a worker's end is acknowledged
pub done_is : (q : Begun) (x : Engine) (s : State) (w : ℕ) (p : Progress) → IsRunOf q x s → w < length x.workers.items → p ≡ slice_index_or x.workers.items w p
    → is_done p.rows (acked_of p) ≡ is_done (size q.given.config w) (s.acked w)
done_is q x s w p r lt is =
    let at = stands_at q.given x s w p r.stands lt is in
    ap (λ n. is_done n (acked_of p)) at.rows_is ∙ at.acked_is (size q.given.config w)

-- a worker's flow
pub flow_is : (q : Begun) (x : Engine) (s : State) (w : ℕ) (p : Progress) (acked of : ℕ) (numbers : List ℕ) → IsRunOf q x s → w < length x.workers.items → p ≡ slice_index_or x.workers.items w p
    → acked ≡ acknowledged p.rows (acked_of p) → of ≡ length (slice_index_or x.parts w no_part).tuples + 1 → numbers ≡ open_numbers p.next (acked_of p)
    → let f : RustFlow = record { pass = x.pass; worker = w; acknowledged = acked; of = of; unacknowledged = numbers } in f ≡ flow_seen (open_flow q.given.config s w)
flow_is q x s w p acked of numbers r lt is acks rows open' =
    let c = q.given.config in
    let at = stands_at q.given x s w p r.stands lt is in
    let same = acked_same p _ _ _ _ _ _ at in
    let a : acked ≡ acknowledged (size c w) (s.acked w) = acks ∙ (ap (λ n. acknowledged n (acked_of p)) at.rows_is ∙ ap (λ (b : ℕ → Bool). acknowledged (size c w) b) same) in
    let n : of ≡ suc (size c w) = omega (arith, rows, rows_many q.given x s w r.stands) in
    let o : numbers ≡ open_numbers (s.next w) (s.acked w) = open' ∙ (ap (λ k. open_numbers k (acked_of p)) at.next_is ∙ ap (λ (b : ℕ → Bool). open_numbers (s.next w) b) same) in
    rw (a, n, o, r.stands.pass) refl

-- a worker's number is a small one, and so is how many numbers it has
pub worker_small : (x : Engine) (w : ℕ) → IsRunning x → w < length x.workers.items → w < 2 ^ 16
worker_small x w r lt = omega (arith, r.is.planned.parts.many, r.is.stands.workers_are.many, lt)

pub rows_small : (x : Engine) (w : ℕ) → IsRunning x → w < length x.workers.items → length (slice_index_or x.parts w no_part).tuples + 1 < 2 ^ 32
rows_small x w r lt =
    let g = r.begun.given in
    omega (arith, rows_many g x r.state w r.is.stands, r.is.planned.parts.sizes w (omega (arith, lt, r.is.stands.workers_are.many)))

-- what a run has come to that has stopped, and one that hasn't
pub done_seen : (q : Begun) (x : Engine) (s : State) → IsRunOf q x s → stopped q.given.config s ≡ true → seen.Done x.counts ≡ outcome_seen (outcome q.given.config s)
done_seen q x s r e = rw e (ap seen.Done (ap counts_seen r.stands.counts))

pub open_seen : (c : Config) (s : State) (flows : List RustFlow) → stopped c s ≡ false → flows ≡ map flow_seen (report c s) → seen.Open flows ≡ outcome_seen (outcome c s)
open_seen c s flows e h = rw e (ap seen.Open h)

-- the first elements of a list, one more
pub take_more : {X : Type 0} (xs : List X) (k : ℕ) (x : X) → Some x ≡ slice_get xs k → take (k + 1) xs ≡ take k xs ++ x ∷ []
take_more [] k x e = absurd (cc)
take_more (y ∷ ys) zero x e = let same : x ≡ y = cc in ap (λ z. z ∷ []) (sym same)
take_more (y ∷ ys) (suc k) x e = let n : suc k + 1 ≡ suc (k + 1) = omega arith in rw n (ap (λ zs. y ∷ zs) (take_more ys k x e))

pub take_there : {X : Type 0} (xs : List X) (k : ℕ) → k < length xs → ◌≡◌ {A = Option X} None (slice_get xs k) → ⊥
take_there [] k lt e = omega (arith, lt)
take_there (x ∷ xs) zero lt e = cc
take_there (x ∷ xs) (suc k) lt e = take_there xs k (omega (arith, lt)) e
