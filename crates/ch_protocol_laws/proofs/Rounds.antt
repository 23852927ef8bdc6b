-- Each round acknowledges one more number of each worker, so the rounds confirm each pass.
use Rattle.std.proofs.Common.{◌≡◌, ℕ, zero, suc, ◌+◌, ◌-◌, ◌<◌, ◌≤◌, Bool, true, not, ◌&&◌, eqb, nat_lt, List, [], ◌∷◌, ◌++◌, length, map, sum, filter, remove, slice_get, Option, Some, None, refl, ap, sym, ◌∙◌, subst, arith, inl, inr, ◌⊎◌, eq-eqb, lt-ltb}
use Rattle.std.proofs.lemmas.Bool.{cases_Bool, cases_eq, cases_lt, and_from, or_left, or_right, cond-true}
use Rattle.ch_lists.specs.Members.{In}
use Rattle.ch_lists.proofs.Members.{In-left, In-filter_from}
use Rattle.ch_protocol.specs.Sets.{all_below, numbers_from}
use Rattle.ch_protocol.specs.Packets.{Name, Packet, Ack}
use Rattle.ch_protocol.specs.Sender.{open_numbers, least_open, has_room, may_end}
use Rattle.ch_protocol.specs.Machine.{Config, State, Event, size, workers, go_up, send_next, send, resend, resend_this, meet, learn, meet_at, receive_at, learn_at, step, run, can_send}
use Rattle.ch_protocol.specs.Machine.How.{Take}
use Rattle.ch_protocol.specs.Machine.Event.{Send, Resend, Up, Down, Back}
use Rattle.ch_protocol.specs.Drain.{IsPast, repeat, resends, sends, take_turn, turns, empty_up, empty_down, empty_back, round}
use Rattle.ch_protocol.proofs.Lists.{In-last, In-numbers_from}
use Rattle.ch_protocol.proofs.Tests.{either_way, all_below-from, least-at}
use Rattle.ch_protocol_laws.proofs.Meets.{meet_cases}
use Rattle.ch_protocol_laws.proofs.Ways.{grows_up, grows_send, grows_resend, is_at, IsOnWay, IsTracked, IsReady, tracked_grows, tracked_counts, at_least, step_keeps, step_ready, up_pass, up_tracked, down_pass, down_tracked, back_pass, back_tracked}
use Rattle.ch_protocol_laws.proofs.Ways.IsOnWay.{Acked, OnUp, OnDown, OnBack}

length-rest : {X : Type 0} (xs : List X) (n : ℕ) → length xs ≡ suc n → length (remove xs 0) ≡ n
length-rest [] n e = absurd (omega (arith, e))
length-rest (x ∷ xs) n e = omega (arith, e)

no_first : {X : Type 0} (xs : List X) (n : ℕ) → length xs ≡ suc n → slice_get xs 0 ≡ None → ⊥
no_first [] n e f = omega (arith, e)
no_first (x ∷ xs) n e f = cc

none_left : {X : Type 0} (xs : List X) → length xs ≡ 0 → xs ≡ []
none_left [] e = refl
none_left (x ∷ xs) e = absurd (omega (arith, e))

In-place : {X : Type 0} (x : X) (xs : List X) → In x xs → (i : ℕ) × (slice_get xs i ≡ Some x) × (i < length xs)
In-place x [] h = absurd h
In-place x (y ∷ xs) (inl e) = (0, ap Some (sym e), omega arith)
In-place x (y ∷ xs) (inr h) = let r = In-place x xs h in (suc r.0, r.1, omega (arith, r.2))

-- what a list's events keep is kept by as many of them
repeat_keeps : (c : Config) (P : State → Type 0) (Q : ℕ → State → Type 0) (f : State → State) → ((s : State) → P s → P (f s)) → ((n : ℕ) (s : State) → P s → Q (suc n) s → Q n (f s)) → (n : ℕ) (s : State) → P s → Q n s → P (repeat f n s) × Q 0 (repeat f n s)
unfolding repeat
repeat_keeps c P Q f ready step zero s r q = (r, q)
repeat_keeps c P Q f ready step (suc n) s r q = repeat_keeps c P Q f ready step n (f s) (ready s r) (step n s r q)

-- a packet that meets the switch leaves the link upward as it is
pub meet_up : (c : Config) (s : State) (x : Name) → (meet c s x).up ≡ s.up
meet_up c s x = meet_cases c (λ t. t.up ≡ s.up) s x (λ above. refl) (λ below. refl) (λ is end. refl) (λ is row v. refl) (λ is row v. refl)

learn_links : (s : State) (a : Ack) → ((learn s a).up ≡ s.up) × ((learn s a).down ≡ s.down) × ((learn s a).back ≡ s.back)
learn_links s a = either_way (λ (t : State). (t.up ≡ s.up) × (t.down ≡ s.down) × (t.back ≡ s.back)) (eqb a.name.pass s.pass && eqb a.epoch s.epoch) _ _ (λ t. (refl, refl, refl)) (λ f. (refl, refl, refl))

module _ (c : Config) (some : 0 < workers c) (room : 1 ≤ c.window) (p e : ℕ) (k : ℕ → ℕ) where
  abbrev Tracked : ℕ → State → Type 0
  Tracked b s = IsTracked c p e k b s

  abbrev Live : ℕ → State → Type 0
  Live b s = IsPast c p s ⊎ IsTracked c p e k b s

  ready : (ev : Event) (s : State) → IsReady c s → IsReady c (step c s ev)
  ready ev s r = step_ready c s ev some r

  -- the links become empty, one after another
  abbrev UpLeft : ℕ → State → Type 0
  UpLeft n s = IsPast c p s ⊎ (IsTracked c p e k (workers c) s × (length s.up ≡ n))

  up_step : (n : ℕ) (s : State) → IsReady c s → UpLeft (suc n) s → UpLeft n (step c s (Up 0 Take))
  up_step n s r u = step_keeps c p (λ t. IsTracked c p e k (workers c) t × (length t.up ≡ suc n)) (λ t. IsTracked c p e k (workers c) t × (length t.up ≡ n)) s (Up 0 Take)
      (λ t h. (tracked_counts c p e k (workers c) t h.0, h.1)) (λ t h. h.0.pass) (up_pass c p e k (workers c) s r.sound (slice_get s.up 0))
      (λ h. (up_tracked c p e k (workers c) s r.sound (slice_get s.up 0) refl h.0, shorter (slice_get s.up 0) refl h.1)) u
    where
      shorter : (o : Option Packet) → slice_get s.up 0 ≡ o → length s.up ≡ suc n → length (meet_at c s 0 Take o).up ≡ n
      shorter None q l = absurd (no_first s.up n l q)
      shorter (Some m) q l = ap (λ xs. length xs) (meet_up c (record s { up = remove s.up 0 }) m.name) ∙ length-rest s.up n l

  abbrev DownLeft : ℕ → State → Type 0
  DownLeft n s = IsPast c p s ⊎ (IsTracked c p e k (workers c) s × (s.up ≡ []) × (length s.down ≡ n))

  down_step : (n : ℕ) (s : State) → IsReady c s → DownLeft (suc n) s → DownLeft n (step c s (Down 0 Take))
  down_step n s r u = step_keeps c p (λ t. IsTracked c p e k (workers c) t × (t.up ≡ []) × (length t.down ≡ suc n)) (λ t. IsTracked c p e k (workers c) t × (t.up ≡ []) × (length t.down ≡ n)) s (Down 0 Take)
      (λ t h. (tracked_counts c p e k (workers c) t h.0, h.1, h.2)) (λ t h. h.0.pass) (down_pass c p e k (workers c) s r.sound (slice_get s.down 0))
      (λ h. let q = links (slice_get s.down 0) refl h.2 in (down_tracked c p e k (workers c) s r.sound (slice_get s.down 0) refl h.0, q.0 ∙ h.1, q.1)) u
    where
      links : (o : Option Packet) → slice_get s.down 0 ≡ o → length s.down ≡ suc n → ((receive_at s 0 Take o).up ≡ s.up) × (length (receive_at s 0 Take o).down ≡ n)
      links None q l = absurd (no_first s.down n l q)
      links (Some m) q l = (refl, length-rest s.down n l)

  abbrev BackLeft : ℕ → State → Type 0
  BackLeft n s = IsPast c p s ⊎ (IsTracked c p e k (workers c) s × (s.up ≡ []) × (s.down ≡ []) × (length s.back ≡ n))

  back_step : (n : ℕ) (s : State) → IsReady c s → BackLeft (suc n) s → BackLeft n (step c s (Back 0 Take))
  back_step n s r u = step_keeps c p (λ t. IsTracked c p e k (workers c) t × (t.up ≡ []) × (t.down ≡ []) × (length t.back ≡ suc n)) (λ t. IsTracked c p e k (workers c) t × (t.up ≡ []) × (t.down ≡ []) × (length t.back ≡ n)) s (Back 0 Take)
      (λ t h. (tracked_counts c p e k (workers c) t h.0, h.1, h.2, h.3)) (λ t h. h.0.pass) (back_pass c p e k (workers c) s r.sound (slice_get s.back 0))
      (λ h. let q = links (slice_get s.back 0) refl h.3 in (back_tracked c p e k (workers c) s r.sound (slice_get s.back 0) refl h.0, q.0 ∙ h.1, q.1 ∙ h.2, q.2)) u
    where
      links : (o : Option Ack) → slice_get s.back 0 ≡ o → length s.back ≡ suc n → ((learn_at s 0 Take o).up ≡ s.up) × ((learn_at s 0 Take o).down ≡ s.down) × (length (learn_at s 0 Take o).back ≡ n)
      links None q l = absurd (no_first s.back n l q)
      links (Some a) q l = let g = learn_links (record s { back = remove s.back 0 }) a in (g.0, g.1, ap (λ xs. length xs) g.2 ∙ length-rest s.back n l)

  -- the emptying of all three
  emptied : (s : State) → IsReady c s → Live (workers c) s
      → IsReady c (empty_back c (empty_down c (empty_up c s))) × BackLeft 0 (empty_back c (empty_down c (empty_up c s)))
  emptied s r live =
      let s1 = empty_up c s in
      let s2 = empty_down c s1 in
      let one = repeat_keeps c (IsReady c) UpLeft (λ t. step c t (Up 0 Take)) (ready (Up 0 Take)) up_step (length s.up) s r (elim live [ inl x ↦ inl x | inr x ↦ inr (x, refl) ]) in
      let two = repeat_keeps c (IsReady c) DownLeft (λ t. step c t (Down 0 Take)) (ready (Down 0 Take)) down_step (length s1.down) s1 one.0 (elim one.1 [ inl x ↦ inl x | inr x ↦ inr (x.0, none_left s1.up x.1, refl) ]) in
      repeat_keeps c (IsReady c) BackLeft (λ t. step c t (Back 0 Take)) (ready (Back 0 Take)) back_step (length s2.back) s2 two.0 (elim two.1 [ inl x ↦ inl x | inr x ↦ inr (x.0, x.1, none_left s2.down x.2, refl) ])

  -- where nothing is on a link any more, what was on its way is acknowledged
  arrived : (s : State) (w : ℕ) → s.up ≡ [] → s.down ≡ [] → s.back ≡ [] → IsOnWay s w (k w) → s.acked w (k w) ≡ true
  arrived s w u d b (Acked h) = h
  arrived s w u d b (OnUp x h) = absurd (subst (λ (l : List Packet). In (record { name = is_at s.pass w (k w); epoch = x }) l) u h)
  arrived s w u d b (OnDown h) = absurd (subst (λ (l : List Packet). In (record { name = is_at s.pass w (k w); epoch = s.epoch }) l) d h)
  arrived s w u d b (OnBack x h) = absurd (subst (λ (l : List Ack). In (record { origin = x; name = is_at s.pass w (k w); epoch = s.epoch }) l) b h)

  -- the turns

  resend_keeps : (b w place : ℕ) (s : State) → Live b s → Live b (step c s (Resend w place))
  resend_keeps b w place s live = step_keeps c p (Tracked b) (Tracked b) s (Resend w place) (tracked_counts c p e k b) (λ t h. h.pass) (grows_resend c s w place).pass (tracked_grows c p e k b s (resend c s w place) (grows_resend c s w place)) live

  send_keeps : (b w : ℕ) (s : State) → Live b s → Live b (step c s (Send w))
  send_keeps b w s live = step_keeps c p (Tracked b) (Tracked b) s (Send w) (tracked_counts c p e k b) (λ t h. h.pass) (grows_send c s w).pass (tracked_grows c p e k b s (send c s w) (grows_send c s w)) live

  pub run_ready : (evs : List Event) (s : State) → IsReady c s → IsReady c (run c evs s)
  run_ready [] s r = r
  run_ready (ev ∷ evs) s r = run_ready evs (step c s ev) (ready ev s r)

  resends_keep : (b w : ℕ) (places : List ℕ) (s : State) → Live b s → Live b (run c (map (λ place. Resend w place) places) s)
  resends_keep b w [] s live = live
  resends_keep b w (place ∷ places) s live = resends_keep b w places (step c s (Resend w place)) (resend_keeps b w place s live)

  sends_ready : (w fuel : ℕ) (s : State) → IsReady c s → IsReady c (sends c w fuel s)
  unfolding sends
  sends_ready w zero s r = r
  sends_ready w (suc fuel) s r = either_way (IsReady c) (can_send c s w) _ _ (λ t. sends_ready w fuel (step c s (Send w)) (ready (Send w) s r)) (λ f. r)

  sends_keep : (b w fuel : ℕ) (s : State) → Live b s → Live b (sends c w fuel s)
  unfolding sends
  sends_keep b w zero s live = live
  sends_keep b w (suc fuel) s live = either_way (Live b) (can_send c s w) _ _ (λ t. sends_keep b w fuel (step c s (Send w)) (send_keeps b w s live)) (λ f. live)

  turn_ready : (w : ℕ) (s : State) → IsReady c s → IsReady c (take_turn c w s)
  turn_ready w s r = sends_ready w (suc (size c w)) (resends c s w) (run_ready (map (λ place. Resend w place) (numbers_from 0 (length (open_numbers (s.next w) (s.acked w))))) s r)

  turn_keeps : (b w : ℕ) (s : State) → Live b s → Live b (take_turn c w s)
  turn_keeps b w s live = sends_keep b w (suc (size c w)) (resends c s w) (resends_keep b w (numbers_from 0 (length (open_numbers (s.next w) (s.acked w)))) s live)

  -- one more worker whose number is on its way
  tracked_more : (b : ℕ) (s : State) → Tracked b s → (b < workers c → (k b) ≤ size c b → IsOnWay s b (k b)) → Tracked (suc b) s
  tracked_more b s r h = record {
    pass = r.pass;
    epoch = r.epoch;
    below = r.below;
    way = λ w lt in' le. elim (cases_eq w b) [
      | inl q ↦ subst (λ (v : ℕ). IsOnWay s v (k v)) (sym q) (h (omega (arith, q)) (omega (arith, ap (size c) q, ap k q)))
      | inr ne ↦ r.way w (omega arith) in' le
    ];
  }

  module _ (b : ℕ) (in' : b < workers c) (le : (k b) ≤ size c b) (next : ℕ → ℕ) (acked : ℕ → ℕ → Bool) where
    -- nothing but the links upward has changed
    abbrev Quiet : State → Type 0
    Quiet s = Tracked b s × (s.next ≡ next) × (s.acked ≡ acked)

    resend_quiet : (place : ℕ) (s : State) → Quiet s → Quiet (resend c s b place)
    resend_quiet place s q =
        let same = either_way (λ (t : State). (t.next ≡ s.next) × (t.acked ≡ s.acked)) (nat_lt b (workers c)) _ _ (λ t. go (slice_get (open_numbers (s.next b) (s.acked b)) place)) (λ f. (refl, refl)) in
        (tracked_grows c p e k b s (resend c s b place) (grows_resend c s b place) q.0, same.0 ∙ q.1, same.1 ∙ q.2)
      where
        go : (o : Option ℕ) → ((resend_this s b o).next ≡ s.next) × ((resend_this s b o).acked ≡ s.acked)
        go None = (refl, refl)
        go (Some n) = (refl, refl)

    resends_quiet : (places : List ℕ) (s : State) → IsPast c p s ⊎ Quiet s → IsPast c p (run c (map (λ place. Resend b place) places) s) ⊎ Quiet (run c (map (λ place. Resend b place) places) s)
    resends_quiet [] s q = q
    resends_quiet (place ∷ places) s q = resends_quiet places (step c s (Resend b place))
        (step_keeps c p Quiet Quiet s (Resend b place) (λ t h. (tracked_counts c p e k b t h.0, h.1, h.2)) (λ t h. h.0.pass) (grows_resend c s b place).pass (resend_quiet place s) q)

    resends_put : (at : ℕ) (places : List ℕ) (s : State) → slice_get (filter (λ j. not (acked b j)) (numbers_from 0 (next b))) at ≡ Some (k b) → In at places → IsPast c p s ⊎ Quiet s → Live (suc b) (run c (map (λ place. Resend b place) places) s)
    resends_put at [] s g h q = absurd h
    resends_put at (place ∷ places) s g (inr h) q = resends_put at places (step c s (Resend b place)) g h
        (step_keeps c p Quiet Quiet s (Resend b place) (λ t h. (tracked_counts c p e k b t h.0, h.1, h.2)) (λ t h. h.0.pass) (grows_resend c s b place).pass (resend_quiet place s) q)
    resends_put at (place ∷ places) s g (inl same) q = resends_keep (suc b) b places (step c s (Resend b place))
        (step_keeps c p Quiet (Tracked (suc b)) s (Resend b place) (tracked_counts c p e k (suc b)) (λ t h. h.pass) (grows_resend c s b place).pass put q)
      where
        put : Quiet s → Tracked (suc b) (resend c s b place)
        put q =
            let found : slice_get (open_numbers (s.next b) (s.acked b)) place ≡ Some (k b) = (λ j. slice_get (filter (λ n. not (q.2 j b n)) (numbers_from 0 (q.1 j b))) ((sym same) j)) ∙ g in
            let is : resend c s b place ≡ go_up s b (k b) = cond-true (nat_lt b (workers c)) (resend_this s b (slice_get (open_numbers (s.next b) (s.acked b)) place)) s (lt-ltb b (workers c) in') ∙ ap (resend_this s b) found in
            subst (Tracked (suc b)) (sym is) (tracked_more b (go_up s b (k b)) (tracked_grows c p e k b s (go_up s b (k b)) (grows_up s b (k b)) q.0) (λ _ _. OnUp s.epoch (In-last (record { name = is_at s.pass b (k b); epoch = s.epoch }) s.up)))

    -- a number that was never sent is sent now
    send_puts : (fuel : ℕ) (s : State) → next b ≡ (k b) → IsPast c p s ⊎ Quiet s → Live (suc b) (sends c b (suc fuel) s)
    unfolding sends
    send_puts fuel s first (inl past) = sends_keep (suc b) b (suc fuel) s (inl past)
    send_puts fuel s first (inr q) =
        let now : s.next b ≡ (k b) = (λ j. q.1 j b) ∙ first in
        subst (Live (suc b)) (sym (cond-true (can_send c s b) (sends c b fuel (step c s (Send b))) s (may now)))
        (sends_keep (suc b) b fuel (step c s (Send b))
        (step_keeps c p Quiet (Tracked (suc b)) s (Send b) (tracked_counts c p e k (suc b)) (λ t h. h.pass) (grows_send c s b).pass (put now) (inr q)))
      where
        gap : s.next b ≡ (k b) → s.next b ≤ least_open (size c b) (s.acked b)
        gap now = elim (cases_lt (least_open (size c b) (s.acked b)) (k b)) [
          | inl lt ↦ absurd (cc (least-at (s.acked b) (suc (size c b)) (omega arith), q.0.below b (least_open (size c b) (s.acked b)) in' lt (omega arith)))
          | inr ge ↦ omega (arith, now)
        ]

        full : s.next b ≡ (k b) → (k b) ≡ size c b → may_end (size c b) (s.next b) (s.acked b) ≡ true
        full now end = and_from (eqb (s.next b) (size c b)) (all_below (s.acked b) (size c b)) (eq-eqb (s.next b) (size c b) (now ∙ end)) (all_below-from (s.acked b) (size c b) (λ j lt. q.0.below b j in' (omega (arith, end)) (omega arith)))

        has : s.next b ≡ (k b) → ((k b) ≡ size c b → ⊥) → has_room (size c b) c.window (s.next b) (s.acked b) ≡ true
        has now ne = and_from (nat_lt (s.next b) (size c b)) (nat_lt (s.next b - least_open (size c b) (s.acked b)) c.window) (lt-ltb (s.next b) (size c b) (omega (arith, now))) (lt-ltb (s.next b - least_open (size c b) (s.acked b)) c.window (omega (arith, gap now)))

        may : s.next b ≡ (k b) → can_send c s b ≡ true
        may now = elim (cases_eq (k b) (size c b)) [
          | inl end ↦ or_right (has_room (size c b) c.window (s.next b) (s.acked b)) (may_end (size c b) (s.next b) (s.acked b)) (full now end)
          | inr ne ↦ or_left (has_room (size c b) c.window (s.next b) (s.acked b)) (may_end (size c b) (s.next b) (s.acked b)) (has now ne)
        ]

        sent : s.next b ≡ (k b) → Quiet s → Tracked (suc b) (send_next s b)
        sent now q = tracked_more b (send_next s b)
            (tracked_grows c p e k b s (send_next s b) (record { pass = refl; epoch = refl; acked = λ w k h. h; up = λ m h. In-left m s.up _ h; down = λ m h. h; back = λ a h. h }) q.0)
            (λ _ _. OnUp s.epoch (subst (λ (n : ℕ). In (record { name = is_at s.pass b (k b); epoch = s.epoch }) (s.up ++ record { name = is_at s.pass b n; epoch = s.epoch } ∷ [])) (sym now) (In-last (record { name = is_at s.pass b (k b); epoch = s.epoch }) s.up)))

        put : s.next b ≡ (k b) → Quiet s → Tracked (suc b) (send c s b)
        put now q = subst (Tracked (suc b)) (sym (cond-true (nat_lt b (workers c) && can_send c s b) (send_next s b) s (and_from (nat_lt b (workers c)) (can_send c s b) (lt-ltb b (workers c) in') (may now)))) (sent now q)

  -- a worker's turn puts its least open number on its way
  turn_adds : (b : ℕ) (s : State) → IsReady c s → b < workers c → Live b s → Live (suc b) (take_turn c b s)
  turn_adds b s r in' (inl past) = turn_keeps (suc b) b s (inl past)
  turn_adds b s r in' (inr t) = elim (cases_lt (size c b) (k b)) [
    | inl lt ↦ turn_keeps (suc b) b s (inr (tracked_more b s t (λ _ le. absurd (omega arith))))
    | inr le ↦ elim (cases_Bool (s.acked b (k b))) [
      | inl a ↦ turn_keeps (suc b) b s (inr (tracked_more b s t (λ _ _. Acked a)))
      | inr open' ↦
          let high : (k b) ≤ s.next b = omega (arith, at_least c s r.sound b (k b) in' le (λ j lt l. t.below b j in' lt l), r.sound.numbered.sent b in') in
          elim (cases_eq (s.next b) (k b)) [
            | inl now ↦ send_puts b in' le s.next s.acked (size c b) (resends c s b) now (resends_quiet b in' le s.next s.acked (numbers_from 0 (length (open_numbers (s.next b) (s.acked b)))) s (inr (t, refl, refl)))
            | inr ne ↦
                let at = In-place (k b) (open_numbers (s.next b) (s.acked b)) (In-filter_from (λ j. not (s.acked b j)) (k b) (numbers_from 0 (s.next b)) (In-numbers_from (k b) 0 (s.next b) (omega arith) (omega arith)) (ap not open')) in
                sends_keep (suc b) b (suc (size c b)) (resends c s b)
                (resends_put b in' le s.next s.acked at.0 (numbers_from 0 (length (open_numbers (s.next b) (s.acked b)))) s at.1 (In-numbers_from at.0 0 (length (open_numbers (s.next b) (s.acked b))) (omega arith) (omega (arith, at.2))) (inr (t, refl, refl)))
          ]
    ]
  ]

  turns_all : (count b : ℕ) (s : State) → IsReady c s → b + count ≡ workers c → Live b s → IsReady c (turns c b count s) × Live (workers c) (turns c b count s)
  unfolding turns
  turns_all zero b s r sum live = (r, subst (λ (n : ℕ). Live n s) (omega (arith, sum)) live)
  turns_all (suc count) b s r sum live = turns_all count (suc b) (take_turn c b s) (turn_ready b s r) (omega (arith, sum)) (turn_adds b s r (omega (arith, sum)) live)

  -- a round acknowledges k of each worker, where each smaller number is acknowledged
  pub round_adds : (s : State) → IsReady c s → Live 0 s → IsReady c (round c s) × (IsPast c p (round c s) ⊎ IsTracked c p e (λ w. suc (k w)) 0 (round c s))
  unfolding round
  round_adds s r live =
      let a = turns_all (workers c) 0 s r (omega arith) live in
      let z = emptied (turns c 0 (workers c) s) a.0 a.1 in (
        z.0,
        elim z.1 [
          | inl past ↦ inl past
          | inr q ↦ inr (record {
            pass = q.0.pass;
            epoch = q.0.epoch;
            below = λ w j h lt le. elim (cases_eq j (k w)) [
              | inl same ↦ subst (λ (n : ℕ). (empty_back c (empty_down c (empty_up c (turns c 0 (workers c) s)))).acked w n ≡ true) (sym same)
                  (arrived _ w q.1 q.2 (none_left _ q.3) (q.0.way w h h (omega (arith, same))))
              | inr ne ↦ q.0.below w j h (omega arith) le
            ];
            way = λ w lt h le. absurd (omega arith);
          })
        ],
      )
