-- Events one after the other, and their notes.
use Rattle.std.proofs.Common.{◌≡◌, ℕ, zero, suc, ◌+◌, true, false, List, [], ◌∷◌, ◌++◌, map, replicate, refl, ap, sym, ◌∙◌, arith, subst}
use Rattle.std.specs.Prelude.{OnErr, Result, Ok, Err, Option, Some, None}
use Rattle.std.proofs.lemmas.List.{append-nil}
use Rattle.ch_protocol.specs.Sets.{numbers_from}
use Rattle.ch_protocol.specs.Machine.{Config, State, Event, can_send, step, run, stopped}
use Rattle.ch_protocol.specs.Machine.How.{Take}
use Rattle.ch_protocol.specs.Machine.Event.{Send, Resend, Back}
use Rattle.ch_protocol.specs.Drain.{drain, round}
use Rattle.ch_protocol.specs.DrainEvents.{back_events, drain_events, round_events, rounds_events, send_events, turn_events, turns_events}
use Rattle.ch_protocol_laws.proofs.DrainEvents.{run_append, run_drain, run_turn, run_round}
use Rattle.ch_protocol_laws.proofs.Fuel.{round_stopped}
use Rattle.ch_trace_lines.specs.declared.line.Noted.{Noted}
use Rattle.ch_engine.specs.declared.engine.Engine.{Engine}
use Rattle.ch_trace_lines.specs.Trace.{step_of}
use Rattle.ch_run.specs.Making.{Makes, Noting, more_notes, note_of, notes_of, round_of}
use Rattle.ch_run.specs.Runs.{Begun, IsRunOf, LeadsOn, LeadsTo}

appended : {X : Type 0} (xs ys zs : List X) → (xs ++ ys) ++ zs ≡ xs ++ (ys ++ zs)
appended [] ys zs = refl
appended (x ∷ xs) ys zs = ap (λ us. x ∷ us) (appended xs ys zs)

-- the notes of events and of more events
notes_append : (c : Config) (es fs : List Event) (s : State) → notes_of c (es ++ fs) s ≡ notes_of c es s ++ notes_of c fs (run c es s)
notes_append c [] fs s = refl
notes_append c (e ∷ es) fs s = ap (λ ns. note_of c s (step_of e) ∷ ns) (notes_append c es fs (step c s e))

none_more : (c : Config) (s : State) (notes : Option (List Noted)) → notes ≡ more_notes c [] s notes
none_more c s None = refl
none_more c s (Some ns) = ap (λ (ms : List Noted). Some ms) (sym (append-nil ns))

more_more : (c : Config) (es fs : List Event) (s : State) (notes : Option (List Noted)) → more_notes c fs (run c es s) (more_notes c es s notes) ≡ more_notes c (es ++ fs) s notes
more_more c es fs s None = refl
more_more c es fs s (Some ns) = ap (λ (ms : List Noted). Some ms) (appended ns (notes_of c es s) (notes_of c fs (run c es s)) ∙ ap (λ (ms : List Noted). ns ++ ms) (sym (notes_append c es fs s)))

-- some events were made, and then others
then_made : (q : Begun) (x y z : Noting) (es fs : List Event) (s : State) → (y.1 ≡ more_notes q.given.config es s x.1)
    → IsRunOf q z.0 (run q.given.config fs (run q.given.config es s)) × (z.1 ≡ more_notes q.given.config fs (run q.given.config es s) y.1)
    → IsRunOf q z.0 (run q.given.config (es ++ fs) s) × (z.1 ≡ more_notes q.given.config (es ++ fs) s x.1)
then_made q x y z es fs s a b =
    let c = q.given.config in (
      subst (λ (t : State). IsRunOf q z.0 t) (sym (run_append c es fs s)) b.0,
      b.1 ∙ (ap (more_notes c fs (run c es s)) a ∙ more_more c es fs s x.1),
    )

-- the same of the same events
same_made : (q : Begun) (x y : Noting) (es fs : List Event) (s : State) → es ≡ fs → IsRunOf q y.0 (run q.given.config es s) × (y.1 ≡ more_notes q.given.config es s x.1)
    → IsRunOf q y.0 (run q.given.config fs s) × (y.1 ≡ more_notes q.given.config fs s x.1)
same_made q x y es fs s e a = subst (λ (gs : List Event). IsRunOf q y.0 (run q.given.config gs s) × (y.1 ≡ more_notes q.given.config gs s x.1)) e a

-- one after the other
pub then_makes : (x y z : Noting) (f k h : Config → State → List Event) → Makes x y f → Makes y z k → ((c : Config) (s : State) → f c s ++ k c (run c (f c s) s) ≡ h c s) → Makes x z h
then_makes x y z f k h a b e q s r =
    let c = q.given.config in
    let one = a q s r in
    let t = run c (f c s) s in
    same_made q x z (f c s ++ k c t) (h c s) s (e c s) (then_made q x y z (f c s) (k c t) s one.1 (b q t one.0))

pub then_leads : (x y z : Noting) (f : Config → State → List Event) → Makes x y f → LeadsOn y.0 z.0 → LeadsOn x.0 z.0
then_leads x y z f a b q s r =
    let c = q.given.config in
    let o = b q (run c (f c s) s) (a q s r).0 in
    (f c s ++ o.0, subst (λ (t : State). IsRunOf q z.0 t) (sym (run_append c (f c s) o.0 s)) o.1)

-- The run has made some events, which with the rest are the whole
pub record IsBetween (q : Begun) (x y : Noting) (s : State) (rest whole : Config → State → List Event) : Type 0 where
  pub events : List Event
  pub made : IsRunOf q y.0 (run q.given.config events s) × (y.1 ≡ more_notes q.given.config events s x.1)
  pub is : events ++ rest q.given.config (run q.given.config events s) ≡ whole q.given.config s

abbrev pub IsOnTheWay : Noting → Noting → (Config → State → List Event) → (Config → State → List Event) → Type 0
IsOnTheWay x y rest whole = (q : Begun) (s : State) → IsRunOf q x.0 s → IsBetween q x y s rest whole

pub way_init : (x : Noting) (rest whole : Config → State → List Event) → ((c : Config) (s : State) → rest c s ≡ whole c s) → IsOnTheWay x x rest whole
way_init x rest whole e q s r = record { events = []; made = (r, none_more q.given.config s x.1); is = e q.given.config s }

pub way_more : (x y z : Noting) (f rest rest' whole : Config → State → List Event) → IsOnTheWay x y rest whole → Makes y z f
    → ((q : Begun) (t : State) → IsRunOf q y.0 t → rest q.given.config t ≡ f q.given.config t ++ rest' q.given.config (run q.given.config (f q.given.config t) t)) → IsOnTheWay x z rest' whole
way_more x y z f rest rest' whole a b one q s r =
    let c = q.given.config in
    let w = a q s r in
    let t = run c w.events s in
    let fs = f c t in
    record {
      events = w.events ++ fs;
      made = then_made q x y z w.events fs s w.made.1 (b q t w.made.0);
      is = ap (λ (u : State). (w.events ++ fs) ++ rest' c u) (run_append c w.events fs s) ∙ (appended w.events fs (rest' c (run c fs t)) ∙ (ap (λ (es : List Event). w.events ++ es) (sym (one q t w.made.0)) ∙ w.is));
    }

pub way_end : (x y : Noting) (rest whole : Config → State → List Event) → IsOnTheWay x y rest whole → ((q : Begun) (t : State) → IsRunOf q y.0 t → rest q.given.config t ≡ []) → Makes x y whole
way_end x y rest whole a done q s r =
    let w = a q s r in
    let e : w.events ≡ whole q.given.config s = sym (append-nil w.events) ∙ (ap (λ (es : List Event). w.events ++ es) (sym (done q (run q.given.config w.events s) w.made.0)) ∙ w.is) in
    same_made q x y w.events (whole q.given.config s) s e w.made

pub way_fails : (x y z : Noting) (rest whole : Config → State → List Event) → IsOnTheWay x y rest whole → LeadsOn y.0 z.0 → LeadsOn x.0 z.0
way_fails x y z rest whole a b q s r =
    let c = q.given.config in
    let w = a q s r in
    let o = b q (run c w.events s) w.made.0 in
    (w.events ++ o.0, subst (λ (t : State). IsRunOf q z.0 t) (sym (run_append c w.events o.0 s)) o.1)

-- the whole is said otherwise
pub makes_same : (x y : Noting) (f k : Config → State → List Event) → Makes x y f → ((q : Begun) (s : State) → IsRunOf q x.0 s → f q.given.config s ≡ k q.given.config s) → Makes x y k
makes_same x y f k a e q s r = same_made q x y (f q.given.config s) (k q.given.config s) s (e q s r) (a q s r)

pub one_leads : (x y : Engine) (e : Event) → LeadsTo x y (λ c s. step c s e) → LeadsOn x y
one_leads x y e a q s r = (e ∷ [], a q s r)

pub none_leads : (x y : Engine) → LeadsTo x y (λ c s. s) → LeadsOn x y
none_leads x y a q s r = ([], a q s r)

pub drained : (y : Engine) (q : Begun) (s : State) → IsRunOf q y (run q.given.config (drain_events q.given.config s) s) → IsRunOf q y (drain q.given.config s)
drained y q s r = subst (λ (t : State). IsRunOf q y t) (run_drain q.given.config s) r

pub on_err : {A E : Type 0} {P : Type 0} (r : Result A E) → P → OnErr r P
on_err (Ok a) p = tt
on_err (Err a) p = p

-- the rests of the loops
pub replicate_more : (k a b : ℕ) (e : Event) → a ≡ suc b → replicate a e ≡ e ∷ replicate b e
replicate_more k a b e q = ap (λ (n : ℕ). replicate n e) q

pub replicate_none : (a : ℕ) (e : Event) → a ≡ 0 → replicate a e ≡ []
replicate_none a e q = ap (λ (n : ℕ). replicate n e) q

pub resends_more : (w from a b : ℕ) → a ≡ suc b → map (λ place. Resend w place) (numbers_from from a) ≡ Resend w from ∷ map (λ place. Resend w place) (numbers_from (from + 1) b)
resends_more w from a b q =
    let e : from + 1 ≡ suc from = omega arith in
    rw (q, e) refl

pub resends_none : (w from a : ℕ) → a ≡ 0 → map (λ place. Resend w place) (numbers_from from a) ≡ []
resends_none w from a q = rw q refl

pub sends_more : (c : Config) (w a b : ℕ) (t : State) → a ≡ suc b → can_send c t w ≡ true → send_events c w a t ≡ Send w ∷ send_events c w b (step c t (Send w))
unfolding send_events
sends_more c w a b t e m = rw (e, m) refl

pub sends_stop : (c : Config) (w a : ℕ) (t : State) → can_send c t w ≡ false → send_events c w a t ≡ []
unfolding send_events
sends_stop c w zero t f = refl
sends_stop c w (suc a) t f = rw f refl

pub sends_over : (c : Config) (w a : ℕ) (t : State) → a ≡ 0 → send_events c w a t ≡ []
unfolding send_events
sends_over c w a t e = rw e refl

pub backs_more : (c : Config) (a b : ℕ) (t : State) → a ≡ suc b → stopped c t ≡ false → back_events c a t ≡ Back 0 Take ∷ back_events c b (step c t (Back 0 Take))
unfolding back_events
backs_more c a b t e f = rw (e, f) refl

pub backs_stop : (c : Config) (a : ℕ) (t : State) → stopped c t ≡ true → back_events c a t ≡ []
unfolding back_events
backs_stop c zero t s = refl
backs_stop c (suc a) t s = rw s refl

pub backs_over : (c : Config) (a : ℕ) (t : State) → a ≡ 0 → back_events c a t ≡ []
unfolding back_events
backs_over c a t e = rw e refl

pub turns_more : (c : Config) (w a b : ℕ) (t : State) → a ≡ suc b → turns_events c w a t ≡ turn_events c w t ++ turns_events c (w + 1) b (run c (turn_events c w t) t)
unfolding turns_events
turns_more c w a b t e =
    let q : w + 1 ≡ suc w = omega arith in
    rw (e, q) (ap (λ (u : State). turn_events c w t ++ turns_events c (suc w) b u) (sym (run_turn c w t)))

pub turns_over : (c : Config) (w a : ℕ) (t : State) → a ≡ 0 → turns_events c w a t ≡ []
unfolding turns_events
turns_over c w a t e = rw e refl

pub rounds_more : (c : Config) (a b : ℕ) (t : State) → a ≡ suc b → stopped c t ≡ false → rounds_events c a t ≡ round_of c t ++ rounds_events c b (run c (round_of c t) t)
unfolding rounds_events
rounds_more c a b t e f =
    let same : round_events c t ≡ round_of c t = rw f refl in
    let after : round c t ≡ run c (round_of c t) t = sym (run_round c t) ∙ ap (λ (es : List Event). run c es t) same in
    rw e (ap (λ (es : List Event). es ++ rounds_events c b (round c t)) same ∙ ap (λ (u : State). round_of c t ++ rounds_events c b u) after)

pub rounds_stop : (c : Config) (a : ℕ) (t : State) → stopped c t ≡ true → rounds_events c a t ≡ []
unfolding rounds_events
rounds_stop c zero t s = refl
rounds_stop c (suc a) t s =
    let none : round_events c t ≡ [] = rw s refl in
    ap (λ (es : List Event). es ++ rounds_events c a (round c t)) none ∙ (ap (rounds_events c a) (round_stopped c t s) ∙ rounds_stop c a t s)

pub rounds_over : (c : Config) (a : ℕ) (t : State) → a ≡ 0 → rounds_events c a t ≡ []
unfolding rounds_events
rounds_over c a t e = rw e refl
