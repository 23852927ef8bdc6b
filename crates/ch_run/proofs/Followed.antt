-- A run follows steps, one after the other.
use Rattle.std.proofs.Common.{◌≡◌, ℕ, zero, suc, ◌+◌, ◌<◌, ◌≤◌, Bool, true, false, List, [], ◌∷◌, ◌++◌, length, take, refl, ap, sym, ◌∙◌, arith, subst}
use Rattle.std.specs.Prelude.{if◌then◌else◌, slice_index_or}
use Rattle.std.proofs.lemmas.List.{map_more}
use Rattle.ch_protocol.specs.Machine.{Config, State, run, step}
use Rattle.ch_protocol.specs.Drain.{drain}
use Rattle.ch_protocol_laws.proofs.DrainEvents.{run_append}
use Rattle.ch_schedule.specs.Event.{event_of, events_of}
use Rattle.ch_schedule.specs.declared.step.Step.{Step}
use Rattle.ch_engine.specs.declared.engine.Engine.{Engine}
use Rattle.ch_run.specs.Runs.{IsRunOf, IsRunning, LeadsOn, LeadsTo}
use Rattle.ch_run.proofs.Epochs.{step_epoch}

pub take_all : {X : Type 0} (xs : List X) (n : ℕ) → length xs ≤ n → take n xs ≡ xs
take_all [] zero le = refl
take_all [] (suc n) le = refl
take_all (x ∷ xs) zero le = absurd (omega (arith, le))
take_all (x ∷ xs) (suc n) le = ap (λ ys. x ∷ ys) (take_all xs n (omega (arith, le)))

run_next : (c : Config) (steps : List Step) (n : ℕ) (d : Step) (s : State) → n < length steps
    → step c (run c (events_of (take n steps)) s) (event_of (slice_index_or steps n d)) ≡ run c (events_of (take (n + 1) steps)) s
run_next c steps n d s lt =
    sym (run_append c (events_of (take n steps)) (event_of (slice_index_or steps n d) ∷ []) s) ∙ ap (λ es. run c es s) (sym (map_more event_of steps n d lt))

-- the run before the first step
pub none_followed : (x : Engine) (steps : List Step) → LeadsTo x x (λ c s. run c (events_of (take 0 steps)) s)
none_followed x [] q s r = r
none_followed x (y ∷ steps) q s r = r

-- one step more
pub more_followed : (x y z : Engine) (steps : List Step) (n : ℕ) (d : Step) → n < length steps → LeadsTo x y (λ c s. run c (events_of (take n steps)) s)
    → LeadsTo y z (λ c s. step c s (event_of (slice_index_or steps n d))) → LeadsTo x z (λ c s. run c (events_of (take (n + 1) steps)) s)
more_followed x y z steps n d lt a b q s r =
    let c = q.given.config in subst (λ (t : State). IsRunOf q z t) (run_next c steps n d s lt) (b q (run c (events_of (take n steps)) s) (a q s r))

-- all steps
pub all_followed : (x y : Engine) (steps : List Step) (n : ℕ) → length steps ≤ n → LeadsTo x y (λ c s. run c (events_of (take n steps)) s) → LeadsTo x y (λ c s. run c (events_of steps) s)
all_followed x y steps n le a q s r = subst (λ (xs : List Step). IsRunOf q y (run q.given.config (events_of xs) s)) (take_all steps n le) (a q s r)

-- a step fails, or the drain does
pub followed_on : (x y z : Engine) (steps : List Step) → LeadsTo x y (λ c s. run c (events_of steps) s) → LeadsOn y z → LeadsOn x z
followed_on x y z steps a b q s r =
    let c = q.given.config in
    let o = b q (run c (events_of steps) s) (a q s r) in
    (events_of steps ++ o.0, subst (λ (t : State). IsRunOf q z t) (sym (run_append c (events_of steps) o.0 s)) o.1)

pub stays_on : (x y : Engine) → LeadsTo x y (λ c s. s) → LeadsOn x y
stays_on x y a q s r = ([], a q s r)

-- the steps and the drain
pub drained_after : (x y z : Engine) (steps : List Step) (drains : Bool) → drains ≡ true → LeadsTo x y (λ c s. run c (events_of steps) s) → LeadsTo y z (λ c s. drain c s)
    → LeadsTo x z (λ c s. let t = run c (events_of steps) s in if drains then drain c t else t)
drained_after x y z steps drains e a b q s r =
    let c = q.given.config in
    let t = run c (events_of steps) s in
    subst (λ (v : Bool). IsRunOf q z (if v then drain c t else t)) (sym e) (b q t (a q s r))

pub open_after : (x y : Engine) (steps : List Step) (drains : Bool) → drains ≡ false → LeadsTo x y (λ c s. run c (events_of steps) s)
    → LeadsTo x y (λ c s. let t = run c (events_of steps) s in if drains then drain c t else t)
open_after x y steps drains e a q s r =
    let c = q.given.config in
    let t = run c (events_of steps) s in
    subst (λ (v : Bool). IsRunOf q y (if v then drain c t else t)) (sym e) (a q s r)

-- a run that made a step is one epoch further at most
pub epoch_after : (e x y : Engine) (s : Step) → IsRunning e → e ≡ x → LeadsTo e y (λ c t. step c t (event_of s)) → y.switch.epoch ≤ x.switch.epoch + 1
epoch_after e x y s r v leads =
    let c = r.begun.given.config in
    let after = leads r.begun r.state r.is in
    let same = ap (λ (z : Engine). z.switch.epoch) v in
    omega (arith, same, r.is.stands.switch.epoch_is, after.stands.switch.epoch_is, step_epoch c r.state (event_of s))

pub epoch_stays : (e x y : Engine) → IsRunning e → e ≡ x → LeadsTo e y (λ c t. t) → y.switch.epoch ≤ x.switch.epoch + 1
epoch_stays e x y r v leads =
    let after = leads r.begun r.state r.is in
    let same = ap (λ (z : Engine). z.switch.epoch) v in
    omega (arith, same, r.is.stands.switch.epoch_is, after.stands.switch.epoch_is)
