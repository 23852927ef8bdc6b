-- How far the numbers of a pass have come, as the events of a round keep it.
use Rattle.std.proofs.Common.{◌≡◌, ℕ, ◌<◌, ◌≤◌, Bool, true, false, ◌&&◌, eqb, nat_lt, List, [], ◌∷◌, ◌++◌, remove, slice_get, Option, Some, None, refl, ap, sym, ◌∙◌, subst, arith, inl, inr, ◌⊎◌, eq-eqb, ltb-true, lt-ltb}
use Rattle.std.proofs.lemmas.Bool.{cases_lt, and_parts, and_from}
use Rattle.ch_lists.specs.Members.{In}
use Rattle.ch_lists.proofs.Members.{In-left}
use Rattle.ch_protocol.specs.Sets.{set_at}
use Rattle.ch_protocol.specs.Packets.{Origin, Name, Packet, Ack}
use Rattle.ch_protocol.specs.Packets.Origin.{Switch, Master}
use Rattle.ch_protocol.specs.Sender.{open_numbers}
use Rattle.ch_protocol.specs.Machine.{can_send, Config, State, Event, size, workers, passes, confirmed, stopped, go_up, send_next, send, resend, resend_this, go_down, prune, Entry, meet, receive, learn, meet_at, receive_at, learn_at, effect, step, count_step, begin_pass}
use Rattle.ch_protocol.specs.Machine.How.{Take}
use Rattle.ch_protocol.specs.Drain.{IsPast}
use Rattle.ch_protocol.specs.Invariant.{IsSound}
use Rattle.ch_protocol.proofs.Lists.{In-last}
use Rattle.ch_protocol.proofs.Tests.{either_way, all_below-at, set_at-same}
use Rattle.ch_protocol_laws.proofs.Sound.{step_sound}
use Rattle.ch_protocol_laws.proofs.Acks.{still}
use Rattle.ch_protocol_laws.proofs.Links.{without_back}
use Rattle.ch_protocol_laws.proofs.Meets.{meet_cases}

-- nothing is taken back, and nothing leaves a link
pub record Grows (s t : State) : Type 0 where
  pub pass : t.pass ≡ s.pass
  pub epoch : t.epoch ≡ s.epoch
  pub acked : (w k : ℕ) → s.acked w k ≡ true → t.acked w k ≡ true
  pub up : (m : Packet) → In m s.up → In m t.up
  pub down : (m : Packet) → In m s.down → In m t.down
  pub back : (a : Ack) → In a s.back → In a t.back

pub grows_same : (s : State) → Grows s s
grows_same s = record { pass = refl; epoch = refl; acked = λ w k h. h; up = λ m h. h; down = λ m h. h; back = λ a h. h }

pub grows_up : (s : State) (w k : ℕ) → Grows s (go_up s w k)
grows_up s w k = record { pass = refl; epoch = refl; acked = λ w k h. h; up = λ m h. In-left m s.up _ h; down = λ m h. h; back = λ a h. h }

pub grows_send : (c : Config) (s : State) (w : ℕ) → Grows s (send c s w)
grows_send c s w = either_way (Grows s) (nat_lt w (workers c) && can_send c s w) _ _
    (λ t. next)
    (λ f. grows_same s)
  where
    next : Grows s (send_next s w)
    next = record { pass = refl; epoch = refl; acked = λ w k h. h; up = λ m h. In-left m s.up _ h; down = λ m h. h; back = λ a h. h }

pub grows_resend_this : (s : State) (w : ℕ) (o : Option ℕ) → Grows s (resend_this s w o)
grows_resend_this s w None = grows_same s
grows_resend_this s w (Some k) = grows_up s w k

pub grows_resend : (c : Config) (s : State) (w i : ℕ) → Grows s (resend c s w i)
grows_resend c s w i = either_way (Grows s) (nat_lt w (workers c)) _ _ (λ t. grows_resend_this s w (slice_get (open_numbers (s.next w) (s.acked w)) i)) (λ f. grows_same s)

pub grows_down : (s : State) (x : Name) → Grows s (go_down s x)
grows_down s x = record { pass = refl; epoch = refl; acked = λ w k h. h; up = λ m h. h; down = λ m h. In-left m s.down _ h; back = λ a h. h }

pub grows_meet : (c : Config) (s : State) (x : Name) → Grows s (meet c s x)
grows_meet c s x = meet_cases c (Grows s) s x (λ above. grows_same s) (λ below. grows_down s x) (λ is end. down) (λ is row v. back) (λ is row v. down)
  where
    -- what is expected and processed is no part of it
    down : {e : ℕ → ℕ → ℕ} {ps : List Entry} → Grows s (go_down (record s { expected = e; processed = ps }) x)
    down = record { pass = refl; epoch = refl; acked = λ w k h. h; up = λ m h. h; down = λ m h. In-left m s.down _ h; back = λ a h. h }

    back : {e : ℕ → ℕ → ℕ} {ps : List Entry} → Grows s (prune (record s { expected = e; processed = ps }) x)
    back = record { pass = refl; epoch = refl; acked = λ w k h. h; up = λ m h. h; down = λ m h. h; back = λ a h. In-left a s.back _ h }

pub grows_receive : (s : State) (m : Packet) → Grows s (receive s m)
grows_receive s m = record { pass = refl; epoch = refl; acked = λ w k h. h; up = λ m h. h; down = λ m h. h; back = λ a h. In-left a s.back _ h }

abbrev pub is_at : ℕ → ℕ → ℕ → Name
is_at p w k = record { pass = p; worker = w; number = k }

-- the number is acknowledged, or a packet or an acknowledgement of it is on its way
pub data IsOnWay (s : State) (w k : ℕ) : Type 0 where
  Acked : s.acked w k ≡ true → IsOnWay s w k
  OnUp : (epoch : ℕ) → In (record { name = is_at s.pass w k; epoch = epoch }) s.up → IsOnWay s w k
  OnDown : In (record { name = is_at s.pass w k; epoch = s.epoch }) s.down → IsOnWay s w k
  OnBack : (b : Origin) → In (record { origin = b; name = is_at s.pass w k; epoch = s.epoch }) s.back → IsOnWay s w k

pub grows_learn : (c : Config) (s : State) (i : IsSound c s) (a : Ack) → Grows s (learn s a)
grows_learn c s i a = either_way (Grows s) (eqb a.name.pass s.pass && eqb a.epoch s.epoch) _ _
    (λ t. record { pass = refl; epoch = refl; acked = λ w k h. still c s i a.name.worker a.name.number w k h; up = λ m h. h; down = λ m h. h; back = λ b h. h })
    (λ f. grows_same s)

pub way_grows : (s t : State) (w k : ℕ) → Grows s t → IsOnWay s w k → IsOnWay t w k
way_grows s t w k g (Acked h) = Acked (g.acked w k h)
way_grows s t w k g (OnUp e h) = OnUp e (subst (λ (p : ℕ). In (record { name = is_at p w k; epoch = e }) t.up) (sym g.pass) (g.up _ h))
way_grows s t w k g (OnDown h) = OnDown (subst (λ (p : ℕ). In (record { name = is_at p w k; epoch = t.epoch }) t.down) (sym g.pass) (subst (λ (e : ℕ). In (record { name = is_at s.pass w k; epoch = e }) t.down) (sym g.epoch) (g.down _ h)))
way_grows s t w k g (OnBack b h) = OnBack b (subst (λ (p : ℕ). In (record { origin = b; name = is_at p w k; epoch = t.epoch }) t.back) (sym g.pass) (subst (λ (e : ℕ). In (record { origin = b; name = is_at s.pass w k; epoch = e }) t.back) (sym g.epoch) (g.back _ h)))

-- a packet that isn't above the expected number goes down, or an acknowledgement goes back
pub meet_way : (c : Config) (s : State) (w k : ℕ) → k ≤ s.expected s.pass w → IsOnWay (meet c s (is_at s.pass w k)) w k
meet_way c s w k le = meet_cases c (λ t. IsOnWay t w k) s (is_at s.pass w k)
    (λ above. absurd (omega (arith, above)))
    (λ below. OnDown (In-last _ s.down))
    (λ is end. OnDown (In-last _ s.down))
    (λ is row v. OnBack Switch (In-last _ s.back))
    (λ is row v. OnDown (In-last _ s.down))

pub learn_way : (s : State) (w k : ℕ) (b : Origin) → IsOnWay (learn s (record { origin = b; name = is_at s.pass w k; epoch = s.epoch })) w k
learn_way s w k b = either_way (λ t. IsOnWay t w k) (eqb s.pass s.pass && eqb s.epoch s.epoch) _ _
    (λ t. Acked (ap (λ (f : ℕ → Bool). f k) (set_at-same w w (set_at k true (s.acked w)) s.acked refl) ∙ set_at-same k k true (s.acked w) refl))
    (λ f. absurd (cc (f, and_from (eqb s.pass s.pass) (eqb s.epoch s.epoch) (eq-eqb s.pass s.pass refl) (eq-eqb s.epoch s.epoch refl))))

-- the first of a list, or one of the others
pub first_or_rest : {X : Type 0} (x : X) (xs : List X) → In x xs → (slice_get xs 0 ≡ Some x) ⊎ In x (remove xs 0)
first_or_rest x [] h = absurd h
first_or_rest x (y ∷ xs) (inl e) = inl (ap Some (sym e))
first_or_rest x (y ∷ xs) (inr h) = inr h

-- The present pass and epoch are p and e. Of each worker each number below its k is acknowledged, and k itself is on its way for
-- each worker below b
pub record IsTracked (c : Config) (p e : ℕ) (k : ℕ → ℕ) (b : ℕ) (s : State) : Type 0 where
  pub pass : s.pass ≡ p
  pub epoch : s.epoch ≡ e
  pub below : (w j : ℕ) → w < workers c → j < k w → j ≤ size c w → s.acked w j ≡ true
  pub way : (w : ℕ) → w < b → w < workers c → k w ≤ size c w → IsOnWay s w (k w)

pub tracked_grows : (c : Config) (p e : ℕ) (k : ℕ → ℕ) (b : ℕ) (s t : State) → Grows s t → IsTracked c p e k b s → IsTracked c p e k b t
tracked_grows c p e k b s t g r = record {
  pass = g.pass ∙ r.pass;
  epoch = g.epoch ∙ r.epoch;
  below = λ w j h lt le. g.acked w j (r.below w j h lt le);
  way = λ w lt h le. way_grows s t w (k w) g (r.way w lt h le);
}

-- what is expected is at least the first number that isn't acknowledged
pub at_least : (c : Config) (s : State) (i : IsSound c s) (w k : ℕ) → w < workers c → k ≤ size c w → ((j : ℕ) → j < k → j ≤ size c w → s.acked w j ≡ true) → k ≤ s.expected s.pass w
at_least c s i w k h le below = elim (cases_lt (s.expected s.pass w) k) [
  | inl lt ↦ absurd (omega (arith, i.numbered.below w (s.expected s.pass w) h (below (s.expected s.pass w) lt (omega arith))))
  | inr ge ↦ ge
]

pub count_grows : (s : State) → Grows s (count_step s)
count_grows s = record { pass = refl; epoch = refl; acked = λ w k h. h; up = λ m h. h; down = λ m h. h; back = λ a h. h }

-- what holds where the run has stopped, where a pass begins, and after an event else
pub step_cases : (c : Config) (P : State → Type 0) (s : State) (ev : Event) → (stopped c s ≡ true → P s)
    → (stopped c s ≡ false → confirmed c (count_step (effect c s ev)) ≡ true → (effect c s ev).pass < passes c → P (begin_pass (count_step (effect c s ev))))
    → (stopped c s ≡ false → (confirmed c (count_step (effect c s ev)) ≡ true → passes c ≤ (effect c s ev).pass) → P (count_step (effect c s ev)))
    → P (step c s ev)
unfolding step
step_cases c P s ev stop begin else' = either_way P (stopped c s) _ _ stop
    (λ f. either_way P (confirmed c (count_step (effect c s ev)) && nat_lt (effect c s ev).pass (passes c)) _ _
    (λ t. let q = and_parts (confirmed c (count_step (effect c s ev))) (nat_lt (effect c s ev).pass (passes c)) t in begin f q.0 (ltb-true (effect c s ev).pass (passes c) q.1))
    (λ g. else' f (λ t. elim (cases_lt (effect c s ev).pass (passes c)) [
      | inl lt ↦ absurd (cc (g, and_from (confirmed c (count_step (effect c s ev))) (nat_lt (effect c s ev).pass (passes c)) t (lt-ltb (effect c s ev).pass (passes c) lt)))
      | inr le ↦ le
    ])))

-- What an event of a round keeps, unless the pass is over
pub step_keeps : (c : Config) (p : ℕ) (Q R : State → Type 0) (s : State) (ev : Event) → ((t : State) → R t → R (count_step t)) → ((t : State) → R t → t.pass ≡ p)
    → (effect c s ev).pass ≡ s.pass → (Q s → R (effect c s ev)) → IsPast c p s ⊎ Q s → IsPast c p (step c s ev) ⊎ R (step c s ev)
step_keeps c p Q R s ev counts at same keeps (inl (inl lt)) = step_cases c (λ t. IsPast c p t ⊎ R t) s ev (λ t. inl (inr t)) (λ f t l. inl (inl (omega (arith, same)))) (λ f g. inl (inl (omega (arith, same))))
step_keeps c p Q R s ev counts at same keeps (inl (inr st)) = step_cases c (λ t. IsPast c p t ⊎ R t) s ev (λ t. inl (inr t)) (λ f t l. absurd (cc (st, f))) (λ f g. absurd (cc (st, f)))
step_keeps c p Q R s ev counts at same keeps (inr q) = step_cases c (λ t. IsPast c p t ⊎ R t) s ev (λ t. inl (inr t)) (λ f t l. inl (inl (omega (arith, at (effect c s ev) (keeps q))))) (λ f g. inr (counts (effect c s ev) (keeps q)))

pub tracked_counts : (c : Config) (p e : ℕ) (k : ℕ → ℕ) (b : ℕ) (t : State) → IsTracked c p e k b t → IsTracked c p e k b (count_step t)
tracked_counts c p e k b t r = tracked_grows c p e k b t (count_step t) (count_grows t) r

-- where a pass is confirmed it is the last
abbrev pub IsTurned : Config → State → Type 0
IsTurned c s = confirmed c s ≡ true → passes c ≤ s.pass

pub record IsReady (c : Config) (s : State) : Type 0 where
  pub sound : IsSound c s
  pub turned : IsTurned c s

pub step_ready : (c : Config) (s : State) (ev : Event) → 0 < workers c → IsReady c s → IsReady c (step c s ev)
step_ready c s ev some r = record {
  sound = step_sound c s r.sound ev;
  turned = step_cases c (IsTurned c) s ev (λ t. r.turned)
      (λ f t l u. absurd (cc (all_below-at (λ w. false) (workers c) 0 u some)))
      (λ f g. g);
}

-- each event that takes the first of a link, on the numbers that are on their way
module _ (c : Config) (p e : ℕ) (k : ℕ → ℕ) (b : ℕ) (s : State) (i : IsSound c s) where
  pub up_pass : (o : Option Packet) → (meet_at c s 0 Take o).pass ≡ s.pass
  up_pass None = refl
  up_pass (Some m) = (grows_meet c (record s { up = remove s.up 0 }) m.name).pass

  pub up_tracked : (o : Option Packet) → slice_get s.up 0 ≡ o → IsTracked c p e k b s → IsTracked c p e k b (meet_at c s 0 Take o)
  up_tracked None q r = r
  up_tracked (Some m) q r = record {
    pass = g.pass ∙ r.pass;
    epoch = g.epoch ∙ r.epoch;
    below = λ w j h lt le. g.acked w j (r.below w j h lt le);
    way = λ w lt h le. way w h le (r.way w lt h le);
  }
    where
      g : Grows (record s { up = remove s.up 0 }) (meet c (record s { up = remove s.up 0 }) m.name)
      g = grows_meet c (record s { up = remove s.up 0 }) m.name

      rest : (w : ℕ) → IsOnWay (record s { up = remove s.up 0 }) w (k w) → IsOnWay (meet c (record s { up = remove s.up 0 }) m.name) w (k w)
      rest w h = way_grows (record s { up = remove s.up 0 }) (meet c (record s { up = remove s.up 0 }) m.name) w (k w) g h

      way : (w : ℕ) → w < workers c → (k w) ≤ size c w → IsOnWay s w (k w) → IsOnWay (meet c (record s { up = remove s.up 0 }) m.name) w (k w)
      way w h le (Acked a) = rest w (Acked a)
      way w h le (OnDown a) = rest w (OnDown a)
      way w h le (OnBack x a) = rest w (OnBack x a)
      way w h le (OnUp x a) = elim (first_or_rest (record { name = is_at s.pass w (k w); epoch = x }) s.up a) [
        | inl f ↦ let same : record { name = is_at s.pass w (k w); epoch = x } ≡ m = cc (f, q) in
            subst (λ (n : Name). IsOnWay (meet c (record s { up = remove s.up 0 }) n) w (k w)) (ap (λ (y : Packet). y.name) same)
            (meet_way c (record s { up = remove s.up 0 }) w (k w) (at_least c s i w (k w) h le (λ j lt l. r.below w j h lt l)))
        | inr j ↦ rest w (OnUp x j)
      ]

  pub down_pass : (o : Option Packet) → (receive_at s 0 Take o).pass ≡ s.pass
  down_pass None = refl
  down_pass (Some m) = refl

  pub down_tracked : (o : Option Packet) → slice_get s.down 0 ≡ o → IsTracked c p e k b s → IsTracked c p e k b (receive_at s 0 Take o)
  down_tracked None q r = r
  down_tracked (Some m) q r = record {
    pass = r.pass;
    epoch = r.epoch;
    below = r.below;
    way = λ w lt h le. way w h le (r.way w lt h le);
  }
    where
      rest : (w : ℕ) → IsOnWay (record s { down = remove s.down 0 }) w (k w) → IsOnWay (receive (record s { down = remove s.down 0 }) m) w (k w)
      rest w h = way_grows (record s { down = remove s.down 0 }) (receive (record s { down = remove s.down 0 }) m) w (k w) (grows_receive (record s { down = remove s.down 0 }) m) h

      way : (w : ℕ) → w < workers c → (k w) ≤ size c w → IsOnWay s w (k w) → IsOnWay (receive (record s { down = remove s.down 0 }) m) w (k w)
      way w h le (Acked a) = rest w (Acked a)
      way w h le (OnUp x a) = rest w (OnUp x a)
      way w h le (OnBack x a) = rest w (OnBack x a)
      way w h le (OnDown a) = elim (first_or_rest (record { name = is_at s.pass w (k w); epoch = s.epoch }) s.down a) [
        | inl f ↦ let same : record { name = is_at s.pass w (k w); epoch = s.epoch } ≡ m = cc (f, q) in
            OnBack Master (subst (λ (y : Packet). In (record { origin = Master; name = is_at s.pass w (k w); epoch = s.epoch }) (s.back ++ record { origin = Master; name = y.name; epoch = y.epoch } ∷ [])) same (In-last (record { origin = Master; name = is_at s.pass w (k w); epoch = s.epoch }) s.back))
        | inr j ↦ rest w (OnDown j)
      ]

  pub back_pass : (o : Option Ack) → (learn_at s 0 Take o).pass ≡ s.pass
  back_pass None = refl
  back_pass (Some a) = (grows_learn c (record s { back = remove s.back 0 }) (without_back c s i 0) a).pass

  pub back_tracked : (o : Option Ack) → slice_get s.back 0 ≡ o → IsTracked c p e k b s → IsTracked c p e k b (learn_at s 0 Take o)
  back_tracked None q r = r
  back_tracked (Some a) q r = record {
    pass = g.pass ∙ r.pass;
    epoch = g.epoch ∙ r.epoch;
    below = λ w j h lt le. g.acked w j (r.below w j h lt le);
    way = λ w lt h le. way w h le (r.way w lt h le);
  }
    where
      g : Grows (record s { back = remove s.back 0 }) (learn (record s { back = remove s.back 0 }) a)
      g = grows_learn c (record s { back = remove s.back 0 }) (without_back c s i 0) a

      rest : (w : ℕ) → IsOnWay (record s { back = remove s.back 0 }) w (k w) → IsOnWay (learn (record s { back = remove s.back 0 }) a) w (k w)
      rest w h = way_grows (record s { back = remove s.back 0 }) (learn (record s { back = remove s.back 0 }) a) w (k w) g h

      way : (w : ℕ) → w < workers c → (k w) ≤ size c w → IsOnWay s w (k w) → IsOnWay (learn (record s { back = remove s.back 0 }) a) w (k w)
      way w h le (Acked x) = rest w (Acked x)
      way w h le (OnUp x y) = rest w (OnUp x y)
      way w h le (OnDown y) = rest w (OnDown y)
      way w h le (OnBack x y) = elim (first_or_rest (record { origin = x; name = is_at s.pass w (k w); epoch = s.epoch }) s.back y) [
        | inl f ↦ let same : record { origin = x; name = is_at s.pass w (k w); epoch = s.epoch } ≡ a = cc (f, q) in
            subst (λ (z : Ack). IsOnWay (learn (record s { back = remove s.back 0 }) z) w (k w)) same (learn_way (record s { back = remove s.back 0 }) w (k w) x)
        | inr j ↦ rest w (OnBack x j)
      ]
