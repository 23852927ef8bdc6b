-- Each event of drain does something.
use Rattle.std.proofs.Common.{◌≡◌, ℕ, zero, suc, ◌+◌, ◌*◌, ◌<◌, ◌≤◌, Bool, true, false, ◌&&◌, eqb, List, [], ◌∷◌, ◌++◌, length, map, replicate, remove, refl, ap, sym, ◌∙◌, arith, inl, inr, subst, rules}
use Rattle.std.specs.Prelude.{slice_get, is_some, Option, Some, None}
use Rattle.std.proofs.lemmas.Bool.{cases_Bool, lt-ltb, and_from, eq-eqb, false_from_ne_true}
use Rattle.ch_protocol.specs.Sets.{numbers_from, all_below}
use Rattle.ch_protocol.specs.Sender.{open_numbers, open_at, is_current, is_done}
use Rattle.ch_protocol.specs.Packets.{Name, Packet, Ack}
use Rattle.ch_protocol.specs.Receiver.{has}
use Rattle.ch_protocol.specs.Machine.{Config, State, Event, size, workers, passes, can_send, count_step, effect, step, run, confirmed, stopped, fate_at, meet, meet_at, receive_at, learn, learn_at, send, send_next, resend, resend_this}
use Rattle.ch_protocol.specs.Machine.How.{Take}
use Rattle.ch_protocol.specs.Machine.Event.{Send, Resend, Up, Down, Back}
use Rattle.ch_protocol.specs.Drain.{resend_events, most_rounds, resends, take_turn, turns, round, empty_up, empty_down}
use Rattle.ch_protocol.proofs.Tests.{either_way}
use Rattle.ch_protocol_laws.proofs.Ways.{IsReady, step_cases, step_ready}
use Rattle.ch_protocol.specs.Fates.{event_fate, switch_fate, resend_fate, up_fate, down_fate, back_fate, is_made}
use Rattle.ch_protocol.specs.declared.fate.Fate.{Fate}
use Rattle.ch_protocol.specs.declared.fate.Fate.TheVariants.{Dropped, Pruned, Forwarded, Passed}
use Rattle.ch_protocol.specs.declared.fate.NoteFate.{NoteFate}
use Rattle.ch_protocol.specs.declared.fate.NoteFate.TheVariants.{New, Old, Taken, Ignored}
use Rattle.ch_protocol.specs.DrainEvents.{send_events, turn_events, turns_events, back_events, links_events, round_events, rounds_events, drain_events, AreMade}
use Rattle.ch_protocol_laws.proofs.Meets.{meet_cases}
use Rattle.ch_protocol_laws.proofs.Rounds.{meet_up}
use Rattle.ch_protocol_laws.proofs.DrainEvents.{run_replicate, run_turn, run_turns, run_sends, run_round}

made_append : (c : Config) (xs ys : List Event) (s : State) → AreMade c xs s → AreMade c ys (run c xs s) → AreMade c (xs ++ ys) s
made_append c [] ys s a b = b
made_append c (x ∷ xs) ys s a b = (a.0, a.1, made_append c xs ys (step c s x) a.2 b)

-- the pass is not confirmed
abbrev pub IsOpen : Config → State → Type 0
IsOpen c s = confirmed c s ≡ false

not_stopped : (c : Config) (s : State) → IsOpen c s → stopped c s ≡ false
not_stopped c s o = rw o (go (eqb s.pass (passes c)))
  where
    go : (b : Bool) → (b && false) ≡ false
    go true = refl
    go false = refl

-- an event that no worker learns by is done and counted, and no more
quiet : (c : Config) (s : State) (e : Event) → IsOpen c s → (effect c s e).acked ≡ s.acked → step c s e ≡ count_step (effect c s e)
unfolding step
quiet c s e o same =
    let o' : confirmed c (effect c s e) ≡ false = ap (λ (a : ℕ → ℕ → Bool). all_below (λ w. is_done (size c w) (a w)) (workers c)) same ∙ o in
    rw (not_stopped c s o, o') refl

still_open : (c : Config) (s t : State) → t.acked ≡ s.acked → IsOpen c s → IsOpen c t
still_open c s t same o = ap (λ (a : ℕ → ℕ → Bool). all_below (λ w. is_done (size c w) (a w)) (workers c)) same ∙ o

some_at : {A : Type 0} (xs : List A) (i : ℕ) → i < length xs → is_some (slice_get xs i) ≡ true
some_at [] i lt = absurd (omega arith)
some_at (x ∷ xs) zero lt = refl
some_at (x ∷ xs) (suc i) lt = some_at xs i (omega arith)

-- a resend of a number that is there, a send that may send, and a packet that is there do something
resend_made : (c : Config) (s : State) (w k : ℕ) → w < workers c → is_some (open_at (s.next w) (s.acked w) k) ≡ true → is_made (event_fate c s (Resend w k)) ≡ true
resend_made c s w k lt h = rw (lt-ltb w (workers c) lt) (go (open_at (s.next w) (s.acked w) k) h)
  where
    go : (o : Option ℕ) → is_some o ≡ true → is_made (resend_fate o) ≡ true
    go None e = e
    go (Some n) e = refl

send_made : (c : Config) (s : State) (w : ℕ) → w < workers c → can_send c s w ≡ true → is_made (event_fate c s (Send w)) ≡ true
send_made c s w lt t = rw (lt-ltb w (workers c) lt, t) refl

up_made : (c : Config) (s : State) (o : Option Packet) → is_some o ≡ true → is_made (up_fate c s Take o) ≡ true
up_made c s None h = h
up_made c s (Some m) h = go (fate_at c s m.name)
  where
    go : (f : Fate) → is_made (switch_fate f) ≡ true
    go Dropped = refl
    go Pruned = refl
    go Forwarded = refl
    go Passed = refl

down_made : (s : State) (o : Option Packet) → is_some o ≡ true → is_made (down_fate s Take o) ≡ true
down_made s None h = h
down_made s (Some m) h = either_way (λ (f : NoteFate). is_made f ≡ true) (has s.received m.name) Old New (λ t. refl) (λ f. refl)

back_made : (s : State) (o : Option Ack) → is_some o ≡ true → is_made (back_fate s Take o) ≡ true
back_made s None h = h
back_made s (Some a) h = either_way (λ (f : NoteFate). is_made f ≡ true) (is_current s.pass s.epoch a.name.pass a.epoch) Taken Ignored (λ t. refl) (λ f. refl)

-- a resend of a place that is there
resend_effect : (c : Config) (s : State) (w k : ℕ) (o : Option ℕ) → ((resend_this s w o).acked ≡ s.acked) × ((resend_this s w o).next ≡ s.next)
resend_effect c s w k None = (refl, refl)
resend_effect c s w k (Some n) = (refl, refl)

resend_step : (c : Config) (s : State) (w k : ℕ) → w < workers c → IsOpen c s → ((step c s (Resend w k)).acked ≡ s.acked) × ((step c s (Resend w k)).next ≡ s.next)
resend_step c s w k lt o =
    let e : resend c s w k ≡ resend_this s w (open_at (s.next w) (s.acked w) k) = rw (lt-ltb w (workers c) lt) refl in
    let f = resend_effect c s w k (open_at (s.next w) (s.acked w) k) in
    let same : (effect c s (Resend w k)).acked ≡ s.acked = ap (λ (t : State). t.acked) e ∙ f.0 in
    let q = quiet c s (Resend w k) o same in
    (ap (λ (t : State). t.acked) q ∙ same, ap (λ (t : State). t.next) q ∙ (ap (λ (t : State). t.next) e ∙ f.1))

-- the resends of a turn
pub resends_made : (c : Config) (w k n : ℕ) (s : State) → w < workers c → IsOpen c s → k + n ≤ length (open_numbers (s.next w) (s.acked w))
    → AreMade c (map (λ place. Resend w place) (numbers_from k n)) s × ((run c (map (λ place. Resend w place) (numbers_from k n)) s).acked ≡ s.acked)
resends_made c w k zero s lt o le = (tt, refl)
resends_made c w k (suc n) s lt o le =
    let q = resend_step c s w k lt o in
    let same : open_numbers ((step c s (Resend w k)).next w) ((step c s (Resend w k)).acked w) ≡ open_numbers (s.next w) (s.acked w) =
    ap (λ (f : ℕ → ℕ). open_numbers (f w) ((step c s (Resend w k)).acked w)) q.1 ∙ ap (λ (a : ℕ → ℕ → Bool). open_numbers (s.next w) (a w)) q.0 in
    let r = resends_made c w (suc k) n (step c s (Resend w k)) lt (still_open c s (step c s (Resend w k)) q.0 o) (omega (arith, le, ap (λ (l : List ℕ). length l) same)) in
    ((not_stopped c s o, resend_made c s w k lt (some_at (open_numbers (s.next w) (s.acked w)) k (omega (arith, le))), r.0), r.1 ∙ q.0)

send_step : (c : Config) (s : State) (w : ℕ) → w < workers c → IsOpen c s → can_send c s w ≡ true → (step c s (Send w)).acked ≡ s.acked
send_step c s w lt o m =
    let e : send c s w ≡ send_next s w = rw (lt-ltb w (workers c) lt, m) refl in
    let same : (effect c s (Send w)).acked ≡ s.acked = ap (λ (t : State). t.acked) e in
    ap (λ (t : State). t.acked) (quiet c s (Send w) o same) ∙ same

pub sends_made : (c : Config) (w most : ℕ) (s : State) → w < workers c → IsOpen c s → AreMade c (send_events c w most s) s × ((run c (send_events c w most s) s).acked ≡ s.acked)
unfolding send_events
sends_made c w zero s lt o = (tt, refl)
sends_made c w (suc most) s lt o = elim (cases_Bool (can_send c s w)) [
  | inl m ↦
      let same = send_step c s w lt o m in
      let r = sends_made c w most (step c s (Send w)) lt (still_open c s (step c s (Send w)) same o) in
      rw m ((not_stopped c s o, send_made c s w lt m, r.0), r.1 ∙ same)
  | inr f ↦ rw f (tt, refl)
]

pub turn_made : (c : Config) (w : ℕ) (s : State) → w < workers c → IsOpen c s → AreMade c (turn_events c w s) s × ((take_turn c w s).acked ≡ s.acked)
turn_made c w s lt o =
    let a = resends_made c w 0 (length (open_numbers (s.next w) (s.acked w))) s lt o (omega arith) in
    let b = sends_made c w (suc (size c w)) (resends c s w) lt (still_open c s (resends c s w) a.1 o) in
    (made_append c (resend_events s w) (send_events c w (suc (size c w)) (resends c s w)) s a.0 b.0, sym (ap (λ (t : State). t.acked) (run_sends c w (suc (size c w)) (resends c s w))) ∙ (b.1 ∙ a.1))

pub turns_made : (c : Config) (first count : ℕ) (s : State) → first + count ≤ workers c → IsOpen c s → AreMade c (turns_events c first count s) s × ((turns c first count s).acked ≡ s.acked)
unfolding turns turns_events
turns_made c first zero s le o = (tt, refl)
turns_made c first (suc count) s le o =
    let a = turn_made c first s (omega (arith, le)) o in
    let r = turns_made c (suc first) count (take_turn c first s) (omega (arith, le)) (still_open c s (take_turn c first s) a.1 o) in (
      made_append c (turn_events c first s) (turns_events c (suc first) count (take_turn c first s)) s a.0
          (subst (AreMade c (turns_events c (suc first) count (take_turn c first s))) (sym (run_turn c first s)) r.0),
      r.1 ∙ a.1,
    )

meet_acked : (c : Config) (s : State) (x : Name) → (meet c s x).acked ≡ s.acked
meet_acked c s x = meet_cases c (λ t. t.acked ≡ s.acked) s x (λ above. refl) (λ below. refl) (λ is end. refl) (λ is row v. refl) (λ is row v. refl)

removed : {A : Type 0} (xs : List A) (n : ℕ) → length xs ≡ suc n → length (remove xs 0) ≡ n
removed [] n e = absurd (omega (arith, e))
removed (x ∷ xs) n e = omega (arith, e)

up_effect : (c : Config) (s : State) (n : ℕ) (o : Option Packet) → length s.up ≡ suc n → is_some o ≡ true → ((meet_at c s 0 Take o).acked ≡ s.acked) × (length (meet_at c s 0 Take o).up ≡ n)
up_effect c s n None e h = absurd (cc (h))
up_effect c s n (Some m) e h = (meet_acked c (record s { up = remove s.up 0 }) m.name, ap (λ (l : List Packet). length l) (meet_up c (record s { up = remove s.up 0 }) m.name) ∙ removed s.up n e)

pub ups_made : (c : Config) (n : ℕ) (s : State) → length s.up ≡ n → IsOpen c s → AreMade c (replicate n (Up 0 Take)) s × ((run c (replicate n (Up 0 Take)) s).acked ≡ s.acked)
ups_made c zero s e o = (tt, refl)
ups_made c (suc n) s e o =
    let at = some_at s.up 0 (omega (arith, e)) in
    let f = up_effect c s n (slice_get s.up 0) e at in
    let q = quiet c s (Up 0 Take) o f.0 in
    let same = ap (λ (t : State). t.acked) q ∙ f.0 in
    let r = ups_made c n (step c s (Up 0 Take)) (ap (λ (t : State). length t.up) q ∙ f.1) (still_open c s (step c s (Up 0 Take)) same o) in
    ((not_stopped c s o, up_made c s (slice_get s.up 0) at, r.0), r.1 ∙ same)

down_effect : (s : State) (n : ℕ) (o : Option Packet) → length s.down ≡ suc n → is_some o ≡ true → ((receive_at s 0 Take o).acked ≡ s.acked) × (length (receive_at s 0 Take o).down ≡ n)
down_effect s n None e h = absurd (cc (h))
down_effect s n (Some m) e h = (refl, removed s.down n e)

pub downs_made : (c : Config) (n : ℕ) (s : State) → length s.down ≡ n → IsOpen c s → AreMade c (replicate n (Down 0 Take)) s × ((run c (replicate n (Down 0 Take)) s).acked ≡ s.acked)
downs_made c zero s e o = (tt, refl)
downs_made c (suc n) s e o =
    let at = some_at s.down 0 (omega (arith, e)) in
    let f = down_effect s n (slice_get s.down 0) e at in
    let q = quiet c s (Down 0 Take) o f.0 in
    let same = ap (λ (t : State). t.acked) q ∙ f.0 in
    let r = downs_made c n (step c s (Down 0 Take)) (ap (λ (t : State). length t.down) q ∙ f.1) (still_open c s (step c s (Down 0 Take)) same o) in
    ((not_stopped c s o, down_made s (slice_get s.down 0) at, r.0), r.1 ∙ same)

learn_back : (s : State) (a : Ack) → (learn s a).back ≡ s.back
learn_back s a = search rules

back_effect : (s : State) (n : ℕ) (o : Option Ack) → length s.back ≡ suc n → is_some o ≡ true → length (learn_at s 0 Take o).back ≡ n
back_effect s n None e h = absurd (cc (h))
back_effect s n (Some a) e h = ap (λ (l : List Ack). length l) (learn_back (record s { back = remove s.back 0 }) a) ∙ removed s.back n e

back_step : (c : Config) (s : State) (n : ℕ) → stopped c s ≡ false → length s.back ≡ suc n → length (step c s (Back 0 Take)).back ≡ n
back_step c s n f e =
    let k = back_effect s n (slice_get s.back 0) e (some_at s.back 0 (omega (arith, e))) in
    step_cases c (λ t. length t.back ≡ n) s (Back 0 Take) (λ t. absurd (cc (sym t ∙ f))) (λ a b d. k) (λ a b. k)

pub backs_made : (c : Config) (n : ℕ) (s : State) → length s.back ≡ n → AreMade c (back_events c n s) s
unfolding back_events
backs_made c zero s e = tt
backs_made c (suc n) s e = elim (cases_Bool (stopped c s)) [
  | inl t ↦ rw t tt
  | inr f ↦ rw f (f, back_made s (slice_get s.back 0) (some_at s.back 0 (omega (arith, e))), backs_made c n (step c s (Back 0 Take)) (back_step c s n f e))
]

pub links_made : (c : Config) (s : State) → IsOpen c s → AreMade c (links_events c s) s
links_made c s o =
    let a = ups_made c (length s.up) s refl o in
    let u = run_replicate c (length s.up) (Up 0 Take) s in
    let oa = still_open c s (empty_up c s) (sym (ap (λ (t : State). t.acked) u) ∙ a.1) o in
    let b = downs_made c (length (empty_up c s).down) (empty_up c s) refl oa in
    let d = run_replicate c (length (empty_up c s).down) (Down 0 Take) (empty_up c s) in
    let ups = replicate (length s.up) (Up 0 Take) in
    let downs = replicate (length (empty_up c s).down) (Down 0 Take) in
    let backs = back_events c (length (empty_down c (empty_up c s)).back) (empty_down c (empty_up c s)) in
    made_append c ups (downs ++ backs) s a.0
    (subst (AreMade c (downs ++ backs)) (sym u) (made_append c downs backs (empty_up c s) b.0
    (subst (AreMade c backs) (sym d) (backs_made c (length (empty_down c (empty_up c s)).back) (empty_down c (empty_up c s)) refl))))

-- a ready run that has not stopped is open
ready_open : (c : Config) (s : State) → IsReady c s → stopped c s ≡ false → IsOpen c s
ready_open c s r f = false_from_ne_true (confirmed c s) (λ t.
    let e : eqb s.pass (passes c) ≡ true = eq-eqb s.pass (passes c) (omega (arith, r.turned t, r.sound.in_range.1)) in
    cc (sym f, and_from (eqb s.pass (passes c)) (confirmed c s) e t))

pub round_made : (c : Config) (s : State) → IsReady c s → AreMade c (round_events c s) s
round_made c s r = elim (cases_Bool (stopped c s)) [
  | inl t ↦ rw t tt
  | inr f ↦
      let o = ready_open c s r f in
      let a = turns_made c 0 (workers c) s (omega arith) o in
      rw f (made_append c (turns_events c 0 (workers c) s) (links_events c (turns c 0 (workers c) s)) s a.0
      (subst (AreMade c (links_events c (turns c 0 (workers c) s))) (sym (run_turns c 0 (workers c) s)) (links_made c (turns c 0 (workers c) s) (still_open c s (turns c 0 (workers c) s) a.1 o))))
]

run_ready_from : (c : Config) (es : List Event) (s : State) → 0 < workers c → IsReady c s → IsReady c (run c es s)
run_ready_from c [] s some r = r
run_ready_from c (e ∷ es) s some r = run_ready_from c es (step c s e) some (step_ready c s e some r)

pub rounds_made : (c : Config) (n : ℕ) (s : State) → 0 < workers c → IsReady c s → AreMade c (rounds_events c n s) s
unfolding rounds_events
rounds_made c zero s some r = tt
rounds_made c (suc n) s some r =
    let e = run_round c s in
    made_append c (round_events c s) (rounds_events c n (round c s)) s (round_made c s r)
    (subst (AreMade c (rounds_events c n (round c s))) (sym e) (rounds_made c n (round c s) some (subst (IsReady c) e (run_ready_from c (round_events c s) s some r))))

pub drain_made : (c : Config) (s : State) → 0 < workers c → IsReady c s → AreMade c (drain_events c s) s
drain_made c s some r = rounds_made c (passes c * most_rounds c) s some r
