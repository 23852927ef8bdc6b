-- The invariant at the start, and as the links and the workers' numbers change.
use Rattle.std.proofs.Common.{◌≡◌, ℕ, suc, ◌<◌, ◌≤◌, true, List, remove, refl, ap, sym, ◌∙◌, arith, inl, inr}
use Rattle.std.proofs.lemmas.Bool.{cases_eq}
use Rattle.ch_lists.specs.Members.{Each}
use Rattle.ch_protocol.specs.Sets.{set_at}
use Rattle.ch_protocol.specs.Packets.{Name, Packet, Ack}
use Rattle.ch_protocol.specs.Machine.{Config, State, Counts, size, workers, start, go_up, go_down}
use Rattle.ch_protocol.specs.Invariant.{IsKnown, IsOnUp, IsOnDown, IsOnBack, IsSound}
use Rattle.ch_protocol.proofs.Lists.{In-remove, Each-push}
use Rattle.ch_protocol.proofs.Tests.{set_at-same, set_at-other, either_way}

pub start_sound : (c : Config) → IsSound c (start c)
start_sound c = record {
  in_range = (omega arith, either_way (λ n. 1 ≤ n) c.two_passes 2 1 (λ e. omega arith) (λ e. omega arith));
  numbered = record {
    within = λ w h. omega arith;
    sent = λ w h. omega arith;
    earlier = λ q w a b h. absurd (omega arith);
    later = λ q w h. refl;
    below = λ w k h t. absurd cc;
    ends = λ w k h e lt. absurd (omega arith);
  };
  settled = λ w k h t. absurd cc;
  up = λ m h. absurd h;
  down = λ m h. absurd h;
  back = λ m h. absurd h;
  lawful = tt;
  entries = λ m h. absurd h;
  latest = λ w h. tt;
  complete = λ e q w k lt h. absurd (omega arith);
  taken = λ m h. absurd h;
  once = tt;
}

pub known_sent : (c : Config) (p : ℕ) (next next' : ℕ → ℕ) (x : Name) → ((w : ℕ) → next w ≤ next' w) → IsKnown c p next x → IsKnown c p next' x
known_sent c p next next' x more k = record {
  worker = k.worker;
  first = k.first;
  begun = k.begun;
  number = k.number;
  sent = λ e. omega (arith, k.sent e, more x.worker);
}

module _ (c : Config) (s : State) (i : IsSound c s) where
  -- other links and counts, where each of their packets is as those of a sound state
  with_links : (up' down' : List Packet) (back' : List Ack) (n : Counts) → Each (IsOnUp c s.pass s.epoch s.next) up' → Each (IsOnDown c s.pass s.epoch s.next s.expected) down'
      → Each (IsOnBack c s.pass s.epoch s.next s.expected s.received s.processed) back' → IsSound c (record s { up = up'; down = down'; back = back'; counts = n })
  with_links up' down' back' n u d b = record {
    in_range = i.in_range;
    numbered = i.numbered;
    settled = i.settled;
    up = u;
    down = d;
    back = b;
    lawful = i.lawful;
    entries = i.entries;
    latest = i.latest;
    complete = i.complete;
    taken = i.taken;
    once = i.once;
  }

  pub with_up : (up' : List Packet) (n : Counts) → Each (IsOnUp c s.pass s.epoch s.next) up' → IsSound c (record s { up = up'; counts = n })
  with_up up' n h = with_links up' s.down s.back n h i.down i.back

  pub with_down : (down' : List Packet) (n : Counts) → Each (IsOnDown c s.pass s.epoch s.next s.expected) down' → IsSound c (record s { down = down'; counts = n })
  with_down down' n h = with_links s.up down' s.back n i.up h i.back

  pub with_back : (back' : List Ack) (n : Counts) → Each (IsOnBack c s.pass s.epoch s.next s.expected s.received s.processed) back' → IsSound c (record s { back = back'; counts = n })
  with_back back' n h = with_links s.up s.down back' n i.up i.down h

  pub with_counts : (n : Counts) → IsSound c (record s { counts = n })
  with_counts n = with_up s.up n i.up

  pub without_up : (k : ℕ) → IsSound c (record s { up = remove s.up k })
  without_up k = with_up (remove s.up k) s.counts (λ m h. i.up m (In-remove m s.up k h))

  pub without_down : (k : ℕ) → IsSound c (record s { down = remove s.down k })
  without_down k = with_down (remove s.down k) s.counts (λ m h. i.down m (In-remove m s.down k h))

  pub without_back : (k : ℕ) → IsSound c (record s { back = remove s.back k })
  without_back k = with_back (remove s.back k) s.counts (λ m h. i.back m (In-remove m s.back k h))

  pub go_up_sound : (w k : ℕ) → IsKnown c s.pass s.next (record { pass = s.pass; worker = w; number = k }) → IsSound c (go_up s w k)
  go_up_sound w k known = with_up _ _ (Each-push (IsOnUp c s.pass s.epoch s.next) s.up (record { name = record { pass = s.pass; worker = w; number = k }; epoch = s.epoch }) i.up (record { known = known; past = omega arith }))

  pub go_down_sound : (x : Name) → IsKnown c s.pass s.next x → (x.pass ≡ s.pass → x.number < s.expected s.pass x.worker) → IsSound c (go_down s x)
  go_down_sound x known below = with_down _ _ (Each-push (IsOnDown c s.pass s.epoch s.next s.expected) s.down (record { name = x; epoch = s.epoch }) i.down (record { known = known; past = omega arith; below = λ e f. below e }))

  -- one more number of the worker is sent
  pub grow_sound : (w : ℕ) → w < workers c → s.next w ≤ size c w → (s.next w ≡ size c w → (k : ℕ) → k < size c w → s.acked w k ≡ true) → IsSound c (record s { next = set_at w (suc (s.next w)) s.next })
  grow_sound w in' room all = record {
    in_range = i.in_range;
    numbered = record {
      within = λ v h. elim (cases_eq v w) [
        | inl e ↦ omega (arith, set_at-same w v (suc (s.next w)) s.next e, ap (size c) e)
        | inr ne ↦ omega (arith, set_at-other w v (suc (s.next w)) s.next ne, i.numbered.within v h)
      ];
      sent = λ v h. omega (arith, more v, i.numbered.sent v h);
      earlier = i.numbered.earlier;
      later = i.numbered.later;
      below = i.numbered.below;
      ends = λ v k h full lt. elim (cases_eq v w) [
        | inl e ↦ ap (λ u. s.acked u k) e ∙ all (omega (arith, set_at-same w v (suc (s.next w)) s.next e, ap (size c) e)) k (omega (arith, ap (size c) e))
        | inr ne ↦ i.numbered.ends v k h (sym (set_at-other w v (suc (s.next w)) s.next ne) ∙ full) lt
      ];
    };
    settled = i.settled;
    up = λ m h. let g = i.up m h in record { known = known m.name g.known; past = g.past };
    down = λ m h. let g = i.down m h in record { known = known m.name g.known; past = g.past; below = g.below };
    back = λ m h. let g = i.back m h in record { known = known m.name g.known; past = g.past; below = g.below; master = g.master; switch = g.switch; settled = g.settled };
    lawful = i.lawful;
    entries = λ m h. let g = i.entries m h in record { known = known m.name g.known; past = g.past; below = g.below };
    latest = i.latest;
    complete = i.complete;
    taken = λ x h. known x (i.taken x h);
    once = i.once;
  }
    where
      more : (v : ℕ) → s.next v ≤ set_at w (suc (s.next w)) s.next v
      more v = elim (cases_eq v w) [
        | inl e ↦ omega (arith, set_at-same w v (suc (s.next w)) s.next e, ap s.next e)
        | inr ne ↦ omega (arith, set_at-other w v (suc (s.next w)) s.next ne)
      ]

      known : (x : Name) → IsKnown c s.pass s.next x → IsKnown c s.pass (set_at w (suc (s.next w)) s.next) x
      known x k = known_sent c s.pass s.next (set_at w (suc (s.next w)) s.next) x more k
