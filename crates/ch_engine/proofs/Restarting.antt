-- The switch restarts, a pass begins, and a run stops.
use Rattle.std.proofs.Common.{◌≡◌, ℕ, zero, suc, ◌+◌, ◌<◌, ◌≤◌, Bool, true, false, ◌&&◌, List, [], ◌∷◌, length, refl, ap, sym, ◌∙◌, arith, inl, inr, subst, Vec, Global, eqb}
use Rattle.std.specs.Prelude.{if◌then◌else◌, slice_index_or}
use Rattle.std.proofs.lemmas.Bool.{cases_eq, lt-ltb, le-ltb, ne_eqb, eq-eqb}
use Rattle.ch_ends.specs.Worker.{Progress}
use Rattle.ch_protocol.specs.Sender.{cut_to_least, is_done, first_number, none_acked}
use Rattle.ch_protocol.specs.Machine.{Config, State, size, workers, passes, confirmed, stopped, restart, begin_pass, change_pass, count_step, one_more}
use Rattle.ch_protocol.specs.Invariant.{IsSound}
use Rattle.ch_switch.specs.Switching.{Switching}
use Rattle.ch_survival.specs.Given.{Given}
use Rattle.ch_stands.specs.Team.{HasBegun}
use Rattle.ch_stands.specs.Parties.{SwitchStands, WorkersStand}
use Rattle.ch_stands.proofs.Restarting.{done_cut, least_same, least_none, workers_begun, all_done, not_all_done}
use Rattle.ch_engine.specs.declared.engine.Engine.{Engine}
use Rattle.ch_engine.specs.Stands.{Stands, counts_of}
use Rattle.ch_engine.proofs.Meeting.{grown}
use Rattle.ch_engine.proofs.Receiving.{last_is}

-- the run after a restart
pub restarted_stands : (g : Given) (x : Engine) (s : State) (ws : Vec Progress Global) (sw : Switching) (told : List ℕ) → IsSound g.config s → Stands g x s
    → WorkersStand g.config ws.items s.pass (suc s.epoch) s.next (λ w. cut_to_least (size g.config w) (s.acked w))
    → SwitchStands g sw (suc s.epoch) (restart g.config s).expected s.processed
    → Stands g (record x { workers = ws; switch = sw }) (restart g.config s)
restarted_stands g x s ws sw told i h new switch = record {
  parts = h.parts;
  kind = h.kind;
  folded = h.folded;
  pass = h.pass;
  workers_are = new;
  first = h.first ∙ least_same (λ w. is_done (size g.config w) (s.acked w)) (λ w. is_done (size g.config w) (cut_to_least (size g.config w) (s.acked w))) _ (λ w lt. sym (done_cut g.config s w i lt));
  switch = switch;
  master = h.master;
  up = h.up;
  down = h.down;
  back = h.back;
  fold = h.fold;
  counts = h.counts;
  room = h.room;
}

-- the first open worker is past the last where the pass is confirmed
pub confirmed_is : (g : Given) (x : Engine) (s : State) → Stands g x s → (x.first_open ≡ length x.workers.items) → confirmed g.config s ≡ true
confirmed_is g x s h e = all_done g.config s (omega (arith, h.first, e, h.workers_are.many))

pub unconfirmed_is : (g : Given) (x : Engine) (s : State) → Stands g x s → (x.first_open ≡ length x.workers.items → ⊥) → confirmed g.config s ≡ false
unconfirmed_is g x s h ne = not_all_done g.config s (λ e. ne (omega (arith, h.first, e, h.workers_are.many)))

-- the run after a pass began
pub begun_stands : (g : Given) (x : Engine) (s : State) (ws : Vec Progress Global) (pass : ℕ) → Stands g x s → pass ≡ suc x.pass → length ws.items ≡ length x.workers.items
    → ((w : ℕ) (d : Progress) → w < length x.workers.items → HasBegun pass (slice_index_or x.workers.items w d) (slice_index_or ws.items w d))
    → Stands g (record x { pass = pass; workers = ws; first_open = 0 }) (begin_pass s)
begun_stands g x s ws pass h e n t = record {
  parts = h.parts;
  kind = h.kind;
  folded = h.folded;
  pass = e ∙ ap suc h.pass;
  workers_are = subst (λ (q : ℕ). WorkersStand g.config ws.items q s.epoch (λ w. first_number) (λ w. none_acked)) (e ∙ ap suc h.pass) (workers_begun g.config x.workers.items ws.items s.pass s.epoch pass s.next s.acked h.workers_are n t);
  first = least_none _;
  switch = h.switch;
  master = h.master;
  up = h.up;
  down = h.down;
  back = h.back;
  fold = h.fold;
  counts = h.counts;
  room = h.room;
}

pub changes : (g : Given) (x : Engine) (s : State) (y : Engine) (last : ℕ) → Stands g x s → last ≡ (if x.two_passes then 2 else 1) → x.first_open ≡ length x.workers.items → x.pass < last → Stands g y (begin_pass s) → Stands g y (change_pass g.config s)
changes g x s y last h l e lt t = rw (confirmed_is g x s h e, lt-ltb s.pass (passes g.config) (omega (arith, lt, h.pass, last_is g x s last h l))) t

pub stays_open : (g : Given) (x : Engine) (s : State) → Stands g x s → (x.first_open ≡ length x.workers.items → ⊥) → Stands g x (change_pass g.config s)
stays_open g x s h ne = rw (unconfirmed_is g x s h ne) h

pub stays_last : (g : Given) (x : Engine) (s : State) (last : ℕ) → Stands g x s → last ≡ (if x.two_passes then 2 else 1) → last ≤ x.pass → Stands g x (change_pass g.config s)
stays_last g x s last h l le = rw (le-ltb s.pass (passes g.config) (omega (arith, le, h.pass, last_is g x s last h l))) (go (confirmed g.config s))
  where
    go : (b : Bool) → Stands g x (if b && false then begin_pass s else s)
    go true = h
    go false = h

pub stopped_is : (g : Given) (x : Engine) (s : State) (last len : ℕ) → Stands g x s → last ≡ (if x.two_passes then 2 else 1) → len ≡ length x.workers.items → x.pass ≡ last → eqb x.first_open len ≡ stopped g.config s
stopped_is g x s last len h l n e =
    let p : eqb s.pass (passes g.config) ≡ true = eq-eqb s.pass (passes g.config) (omega (arith, e, h.pass, last_is g x s last h l)) in
    rw p (elim (cases_eq x.first_open (length x.workers.items)) [
      | inl q ↦ eq-eqb x.first_open len (omega (arith, q, n)) ∙ sym (confirmed_is g x s h q)
      | inr nq ↦ ne_eqb x.first_open len (λ b. nq (omega (arith, b, n))) ∙ sym (unconfirmed_is g x s h nq)
    ])

steps_more : (g : Given) (x : Engine) (s : State) (n : ℕ) → Stands g x s → n ≡ grown x.counts.steps → counts_of (record x.counts { steps = n }) ≡ record s.counts { steps = one_more s.counts.steps }
steps_more g x s n h e = rw (e, ← h.counts) refl

-- one more step is counted
pub counted : (g : Given) (x : Engine) (s : State) (n : ℕ) → Stands g x s → n ≡ grown x.counts.steps → Stands g (record x { counts = record x.counts { steps = n } }) (count_step s)
counted g x s n h e = record {
  parts = h.parts;
  kind = h.kind;
  folded = h.folded;
  pass = h.pass;
  workers_are = h.workers_are;
  first = h.first;
  switch = h.switch;
  master = h.master;
  up = h.up;
  down = h.down;
  back = h.back;
  fold = h.fold;
  counts = steps_more g x s n h e;
  room = h.room;
}
