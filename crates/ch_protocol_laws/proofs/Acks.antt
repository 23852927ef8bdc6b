-- The invariant as the master receives, a worker learns of an acknowledgement, a pass begins and the switch restarts.
use Rattle.std.proofs.Common.{◌≡◌, ℕ, suc, ◌<◌, ◌≤◌, min, Bool, true, false, cond, ◌&&◌, eqb, nat_lt, List, [], ◌∷◌, ◌++◌, Option, Some, None, refl, ap, sym, ◌∙◌, subst, arith, inl, inr, ◌⊎◌, eqb-true, ltb-true, lt-ltb}
use Rattle.std.specs.List.{list_any}
use Rattle.std.proofs.lemmas.Bool.{cases_Bool, cases_eq, cases_lt, cases_cond, and_parts, and_from, false_from_ne_true, cond-true}
use Rattle.ch_lists.specs.Members.{In, Each, AreDifferent}
use Rattle.ch_protocol.specs.Sets.{set_at}
use Rattle.ch_protocol.specs.Packets.{Name, Packet, Ack, same_name}
use Rattle.ch_protocol.specs.Packets.Origin.{Master}
use Rattle.ch_protocol.specs.Sender.{least_open}
use Rattle.ch_protocol.specs.Receiver.{has}
use Rattle.ch_protocol.specs.Machine.{Entry, Config, State, size, workers, passes, confirmed, receive, learn, restart, begin_pass}
use Rattle.ch_protocol.specs.Invariant.{IsKnown, IsSettled, IsOnDown, IsOnBack, IsSound, IsNext, newest_number}
use Rattle.ch_protocol.proofs.Lists.{Each-push}
use Rattle.ch_protocol.proofs.Tests.{set_at-same, set_at-other, either_way, any_same-true, any_same-from, least-below, least-at, all_below-at}

module _ (c : Config) (s : State) (i : IsSound c s) where
  -- the list of received names, once more with n at its front or as it was, where it has n
  receive_list : (m : Packet) (received' : List Name) → IsOnDown c s.pass s.epoch s.next s.expected m → ((x : Name) → In x s.received → In x received') → In m.name received' → Each (IsKnown c s.pass s.next) received' → AreDifferent received'
      → IsSound c (record s { received = received'; back = s.back ++ record { origin = Master; name = m.name; epoch = m.epoch } ∷ [] })
  receive_list m received' here more has taken once = record {
    in_range = i.in_range;
    numbered = i.numbered;
    up = i.up;
    down = i.down;
    lawful = i.lawful;
    entries = i.entries;
    latest = i.latest;
    complete = i.complete;
    taken = taken;
    once = once;
    settled = λ w k h t. elim (i.settled w k h t) [ inl j ↦ inl (more _ j) | inr e ↦ inr e ];
    back = Each-push (IsOnBack c s.pass s.epoch s.next s.expected received' s.processed) s.back (record { origin = Master; name = m.name; epoch = m.epoch })
        (λ a h. let g = i.back a h in record {
          known = g.known;
          past = g.past;
          below = g.below;
          master = λ e. more _ (g.master e);
          switch = g.switch;
          settled = λ e f. elim (g.settled e f) [ inl j ↦ inl (more _ j) | inr q ↦ inr q ];
        })
        (record { known = here.known; past = here.past; below = here.below; master = λ e. has; switch = λ e. absurd cc; settled = λ e f. inl has });
  }

  pub receive_sound : (m : Packet) → IsOnDown c s.pass s.epoch s.next s.expected m → IsSound c (receive s m)
  receive_sound m here = elim (cases_Bool (list_any (same_name m.name) s.received)) [
    | inl t ↦ let e = cond-true (list_any (same_name m.name) s.received) s.received (m.name ∷ s.received) t in
        subst (λ (r : List Name). IsSound c (record s { received = r; back = s.back ++ record { origin = Master; name = m.name; epoch = m.epoch } ∷ [] })) (sym e)
        (receive_list m s.received here (λ x h. h) (any_same-true m.name s.received t) i.taken i.once)
    | inr f ↦ let e = Rattle.std.proofs.lemmas.Bool.cond-false (list_any (same_name m.name) s.received) s.received (m.name ∷ s.received) f in
        subst (λ (r : List Name). IsSound c (record s { received = r; back = s.back ++ record { origin = Master; name = m.name; epoch = m.epoch } ∷ [] })) (sym e)
        (receive_list m (m.name ∷ s.received) here (λ x h. inr h) (inl refl) new (λ j. absurd (cc (any_same-from m.name s.received j, f)), i.once))
  ]
    where
      new : Each (IsKnown c s.pass s.next) (m.name ∷ s.received)
      new x (inl e) = subst (IsKnown c s.pass s.next) (sym e) here.known
      new x (inr h) = i.taken x h

  -- what is acknowledged after one more number is
  learned : (w n v k : ℕ) → set_at w (set_at n true (s.acked w)) s.acked v k ≡ true → (s.acked v k ≡ true) ⊎ ((v ≡ w) × (k ≡ n))
  learned w n v k t = elim (cases_eq v w) [
    | inl e ↦ let row = ap (λ (f : ℕ → Bool). f k) (set_at-same w v (set_at n true (s.acked w)) s.acked e) in
        elim (cases_eq k n) [
          | inl f ↦ inr (e, f)
          | inr ne ↦ inl (ap (λ u. s.acked u k) e ∙ (sym (set_at-other n k true (s.acked w) ne) ∙ (sym row ∙ t)))
        ]
    | inr ne ↦ inl (sym (ap (λ (f : ℕ → Bool). f k) (set_at-other w v (set_at n true (s.acked w)) s.acked ne)) ∙ t)
  ]

  pub still : (w n v k : ℕ) → s.acked v k ≡ true → set_at w (set_at n true (s.acked w)) s.acked v k ≡ true
  still w n v k t = elim (cases_eq v w) [
    | inl e ↦ ap (λ (f : ℕ → Bool). f k) (set_at-same w v (set_at n true (s.acked w)) s.acked e) ∙ elim (cases_eq k n) [
      | inl f ↦ set_at-same n k true (s.acked w) f
      | inr ne ↦ set_at-other n k true (s.acked w) ne ∙ (ap (λ u. s.acked u k) (sym e) ∙ t)
    ]
    | inr ne ↦ ap (λ (f : ℕ → Bool). f k) (set_at-other w v (set_at n true (s.acked w)) s.acked ne) ∙ t
  ]

  learn_this : (a : Ack) → IsOnBack c s.pass s.epoch s.next s.expected s.received s.processed a → a.name.pass ≡ s.pass → a.epoch ≡ s.epoch → IsSound c (record s { acked = set_at a.name.worker (set_at a.name.number true (s.acked a.name.worker)) s.acked })
  learn_this a here p e = record {
    in_range = i.in_range;
    up = i.up;
    down = i.down;
    back = i.back;
    lawful = i.lawful;
    entries = i.entries;
    latest = i.latest;
    complete = i.complete;
    taken = i.taken;
    once = i.once;
    numbered = record {
      within = i.numbered.within;
      sent = i.numbered.sent;
      earlier = i.numbered.earlier;
      later = i.numbered.later;
      below = λ v k h t. elim (learned a.name.worker a.name.number v k t) [
        | inl old ↦ i.numbered.below v k h old
        | inr new ↦ omega (arith, here.below p e, new.1, ap (s.expected s.pass) new.0)
      ];
      ends = λ v k h full lt. still a.name.worker a.name.number v k (i.numbered.ends v k h full lt);
    };
    settled = λ v k h t. elim (learned a.name.worker a.name.number v k t) [
      | inl old ↦ i.settled v k h old
      | inr new ↦ subst (IsSettled s.received s.processed) (λ j. record { pass = p j; worker = (sym new.0) j; number = (sym new.1) j }) (here.settled p e)
    ];
  }

  pub learn_sound : (a : Ack) → IsOnBack c s.pass s.epoch s.next s.expected s.received s.processed a → IsSound c (learn s a)
  learn_sound a here = either_way (IsSound c) (eqb a.name.pass s.pass && eqb a.epoch s.epoch) _ _
      (λ t. let p = and_parts (eqb a.name.pass s.pass) (eqb a.epoch s.epoch) t in learn_this a here (eqb-true a.name.pass s.pass p.0) (eqb-true a.epoch s.epoch p.1))
      (λ f. i)

  -- no entry of a later pass or epoch
  none_later : (ys : List Entry) (p w e : ℕ) → Each (λ y. (y.name.pass < p) ⊎ (y.epoch < e)) ys → newest_number ys p w e ≡ None
  none_later [] p w e h = refl
  none_later (y ∷ ys) p w e h = go (eqb y.name.pass p && (eqb y.name.worker w && eqb y.epoch e)) refl (none_later ys p w e (λ z j. h z (inr j)))
    where
      go : (b : Bool) → (eqb y.name.pass p && (eqb y.name.worker w && eqb y.epoch e)) ≡ b → newest_number ys p w e ≡ None → cond b (Some y.name.number) (newest_number ys p w e) ≡ None
      go true t ih =
          let q = and_parts (eqb y.name.pass p) (eqb y.name.worker w && eqb y.epoch e) t in
          let r = and_parts (eqb y.name.worker w) (eqb y.epoch e) q.1 in
          elim (h y (inl refl)) [
            | inl lt ↦ absurd (omega (arith, eqb-true y.name.pass p q.0))
            | inr lt ↦ absurd (omega (arith, eqb-true y.epoch e r.1))
          ]
      go false t ih = ih

  known_turn : (x : Name) → IsKnown c s.pass s.next x → IsKnown c (suc s.pass) (λ w. 0) x
  known_turn x k = record { worker = k.worker; first = k.first; begun = omega (arith, k.begun); number = k.number; sent = λ e. absurd (omega (arith, k.begun)) }

  -- the Fin of each worker is acknowledged, so the switch expects nothing more of the pass
  pub begin_sound : confirmed c s ≡ true → s.pass < passes c → IsSound c (begin_pass s)
  begin_sound all more = record {
    in_range = omega (arith, i.in_range);
    numbered = record {
      within = λ w h. omega arith;
      sent = λ w h. omega (arith, i.numbered.later (suc s.pass) w (omega arith));
      earlier = λ q w first lt h. elim (cases_eq q s.pass) [
        | inl e ↦ omega (arith, ap (λ p. s.expected p w) e, i.numbered.below w (size c w) h (all_below-at (λ w. s.acked w (size c w)) (workers c) w all h), i.numbered.sent w h, i.numbered.within w h)
        | inr ne ↦ i.numbered.earlier q w first (omega arith) h
      ];
      later = λ q w lt. i.numbered.later q w (omega arith);
      below = λ w k h t. absurd cc;
      ends = λ w k h e lt. absurd (omega arith);
    };
    settled = λ w k h t. absurd cc;
    up = λ m h. let g = i.up m h in record { known = known_turn m.name g.known; past = g.past };
    down = λ m h. let g = i.down m h in record { known = known_turn m.name g.known; past = g.past; below = λ e f. absurd (omega (arith, g.known.begun)) };
    back = λ m h. let g = i.back m h in record { known = known_turn m.name g.known; past = g.past; below = λ e f. absurd (omega (arith, g.known.begun)); master = g.master; switch = g.switch; settled = λ e f. absurd (omega (arith, g.known.begun)) };
    lawful = i.lawful;
    entries = λ m h. let g = i.entries m h in record { known = known_turn m.name g.known; past = g.past; below = λ e f. absurd (omega (arith, g.known.begun)) };
    latest = λ w h. subst (λ (o : Option ℕ). IsNext o (min (s.expected (suc s.pass) w) (size c w))) (sym (none_later s.processed (suc s.pass) w s.epoch (λ y j. inl (omega (arith, (i.entries y j).known.begun))))) tt;
    complete = i.complete;
    taken = λ x h. known_turn x (i.taken x h);
    once = i.once;
  }

  cut : (w k : ℕ) → (s.acked w k && nat_lt k (least_open (size c w) (s.acked w))) ≡ true → (s.acked w k ≡ true) × (k < least_open (size c w) (s.acked w))
  cut w k t = let p = and_parts (s.acked w k) (nat_lt k (least_open (size c w) (s.acked w))) t in (p.0, ltb-true k (least_open (size c w) (s.acked w)) p.1)

  abbrev expected' : ℕ → ℕ → ℕ
  expected' = set_at s.pass (λ w. cond (nat_lt w (workers c)) (least_open (size c w) (s.acked w)) (s.expected s.pass w)) s.expected

  now' : (w : ℕ) → w < workers c → expected' s.pass w ≡ least_open (size c w) (s.acked w)
  now' w h = ap (λ (f : ℕ → ℕ). f w) (set_at-same s.pass s.pass (λ w. cond (nat_lt w (workers c)) (least_open (size c w) (s.acked w)) (s.expected s.pass w)) s.expected refl) ∙ cond-true (nat_lt w (workers c)) (least_open (size c w) (s.acked w)) (s.expected s.pass w) (lt-ltb w (workers c) h)

  other' : (q w : ℕ) → (q ≡ s.pass → ⊥) → expected' q w ≡ s.expected q w
  other' q w ne = ap (λ (f : ℕ → ℕ). f w) (set_at-other s.pass q (λ w. cond (nat_lt w (workers c)) (least_open (size c w) (s.acked w)) (s.expected s.pass w)) s.expected ne)

  -- what is acknowledged without a gap is below the expected number
  pub least_expected : (w : ℕ) → w < workers c → least_open (size c w) (s.acked w) ≤ s.expected s.pass w
  least_expected w h = elim (cases_lt (s.expected s.pass w) (least_open (size c w) (s.acked w))) [
    | inl lt ↦ absurd (omega (arith, i.numbered.below w (s.expected s.pass w) h (least-below (s.acked w) (suc (size c w)) (s.expected s.pass w) lt)))
    | inr le ↦ le
  ]

  all_least : (w : ℕ) → ((k : ℕ) → k < size c w → s.acked w k ≡ true) → size c w ≤ least_open (size c w) (s.acked w)
  all_least w all = elim (cases_lt (least_open (size c w) (s.acked w)) (size c w)) [
    | inl lt ↦ absurd (cc (all (least_open (size c w) (s.acked w)) lt, least-at (s.acked w) (suc (size c w)) (omega arith)))
    | inr le ↦ le
  ]

  pub restart_sound : IsSound c (restart c s)
  restart_sound = record {
    in_range = i.in_range;
    numbered = record {
      within = i.numbered.within;
      sent = λ w h. omega (arith, now' w h, least_expected w h, i.numbered.sent w h);
      earlier = λ q w first lt h. other' q w (omega arith) ∙ i.numbered.earlier q w first lt h;
      later = λ q w lt. other' q w (omega arith) ∙ i.numbered.later q w lt;
      below = λ w k h t. omega (arith, now' w h, (cut w k t).1);
      ends = λ w k h full lt. and_from (s.acked w k) (nat_lt k (least_open (size c w) (s.acked w))) (i.numbered.ends w k h full lt) (lt-ltb k (least_open (size c w) (s.acked w)) (omega (arith, all_least w (λ j l. i.numbered.ends w j h full l))));
    };
    settled = λ w k h t. i.settled w k h (cut w k t).0;
    up = λ m h. let g = i.up m h in record { known = g.known; past = omega (arith, g.past) };
    down = λ m h. let g = i.down m h in record { known = g.known; past = omega (arith, g.past); below = λ e f. absurd (omega (arith, g.past)) };
    back = λ m h. let g = i.back m h in record { known = g.known; past = omega (arith, g.past); below = λ e f. absurd (omega (arith, g.past)); master = g.master; switch = g.switch; settled = λ e f. absurd (omega (arith, g.past)) };
    lawful = i.lawful;
    entries = λ m h. let g = i.entries m h in record { known = g.known; past = omega (arith, g.past); below = λ e f. absurd (omega (arith, g.past)) };
    latest = λ w h. subst (λ (o : Option ℕ). IsNext o (min (expected' s.pass w) (size c w))) (sym (none_later s.processed s.pass w (suc s.epoch) (λ y j. inr (omega (arith, (i.entries y j).past))))) tt;
    complete = λ e q w k lt h. absurd (omega arith);
    taken = i.taken;
    once = i.once;
  }
