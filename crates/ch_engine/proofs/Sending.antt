-- A worker puts a number on the link up.
use Rattle.std.proofs.Common.{◌≡◌, ℕ, suc, ◌+◌, ◌<◌, ◌≤◌, ◌^◌, Bool, true, false, not, List, [], ◌∷◌, ◌++◌, ℤ, length, map, refl, ap, sym, ◌∙◌, arith, subst, Vec, Global}
use Rattle.std.specs.Prelude.{slice_index_or, slice_set, if◌then◌else◌, Option, Some, None, nat_lt, ◌&&◌}
use Rattle.std.proofs.lemmas.Bool.{lt-ltb, le-ltb}
use Rattle.ch_packet.specs.Packet.{IsPacket}
use Rattle.ch_ends.specs.Worker.{Progress, IsAt}
use Rattle.ch_lists.proofs.Members.{In-filter}
use Rattle.ch_links.specs.Held.{Held}
use Rattle.ch_protocol.specs.Packets.{Part}
use Rattle.ch_protocol.specs.Sets.{set_at, numbers_from}
use Rattle.ch_protocol.specs.Sender.{may_send, open_at, open_numbers}
use Rattle.ch_protocol.specs.Machine.{Config, State, size, workers, one_more, go_up, send, can_send, resend}
use Rattle.ch_protocol.specs.Fates.{send_fate}
use Rattle.ch_protocol.proofs.Lists.{In-get, In-numbers}
use Rattle.ch_protocol.proofs.Tests.{set_at-same, set_at-other}
use Rattle.ch_protocol.specs.declared.fate.NoteFate.TheVariants.{Nothing, Sent}
use Rattle.ch_survival.specs.Given.{Given}
use Rattle.ch_ends.specs.Packets.{no_part, packet_bytes, packet_for, sent}
use Rattle.ch_stands.proofs.Lists.{link_push, length-map}
use Rattle.ch_stands.proofs.Spelled.{spelled_name, is_pass, passes_le, rows_part}
use Rattle.ch_stands.proofs.Progressing.{workers_set}
use Rattle.ch_engine.specs.declared.engine.Engine.{Engine}
use Rattle.ch_engine.specs.Stands.{Stands, IsStanding, counts_of}
use Rattle.ch_engine.proofs.Meeting.{grown}

-- what a worker sends spells a packet
pub sent_spelled : (x : Engine) (q : IsStanding x) (w k epoch : ℕ) (d : Config) → d.parts ≡ x.parts → w < length x.workers.items → k ≤ size q.given.config w → epoch ≡ x.switch.epoch
    → IsPacket (packet_for d (sent x.pass w k epoch))
sent_spelled x q w k epoch d hd lt le e =
    let c = q.given.config in
    let h = q.stands in
    let parts : c.parts ≡ d.parts = h.parts ∙ sym hd in
    let r = q.sound.in_range in
    let small : epoch < 2 ^ 32 = omega (arith, e, h.switch.epoch_is, h.switch.small) in
    let pass : x.pass ≡ q.state.pass = h.pass in
    subst (λ ps. IsPacket (packet_for (record d { parts = ps }) (sent x.pass w k epoch))) parts
    (spelled_name q.given (sent x.pass w k epoch) q.planned (is_pass x.pass (omega (arith, pass, r.0)) (omega (arith, pass, r.1, passes_le c))) (omega (arith, h.workers_are.many, lt)) le small)

-- the workers are as many as the parts, and each has as many rows as its part
pub many_parts : (g : Given) (x : Engine) (s : State) → Stands g x s → length x.parts ≡ length x.workers.items
many_parts g x s h = ap (λ (ps : List Part). length ps) (sym h.parts) ∙ (sym (length-map _ g.config.parts) ∙ sym h.workers_are.many)

pub rows_many : (g : Given) (x : Engine) (s : State) (w : ℕ) → Stands g x s → size g.config w ≡ length (slice_index_or x.parts w no_part).tuples
rows_many g x s w h =
    let part : Part = slice_index_or g.config.parts w no_part in
    ap (λ rows. length rows) (rows_part g.config w) ∙ (length-map _ part.tuples ∙ ap (λ (ps : List Part). length (slice_index_or ps w no_part).tuples) h.parts)

pub sends_more : (g : Given) (x : Engine) (s : State) (n : ℕ) → Stands g x s → n ≡ grown x.counts.sends
    → counts_of (record x.counts { sends = n }) ≡ record s.counts { sends = one_more s.counts.sends }
sends_more g x s n h e = rw (e, ← h.counts) refl

-- the run after a number went up
pub went_up : (g : Given) (x : Engine) (s : State) (w k epoch n : ℕ) (old up : Held) (b : List ℕ) (sending : Vec ℤ Global) → Stands g x s → up.packets ≡ old.packets ++ b ∷ [] → old.packets ≡ x.up.packets
    → b ≡ packet_bytes g.config (sent x.pass w k epoch) → epoch ≡ x.switch.epoch → n ≡ grown x.counts.sends
    → Stands g (record x { up = up; counts = record x.counts { sends = n }; sending = sending }) (go_up s w k)
went_up g x s w k epoch n old up b sending h u o is e grew = record {
  parts = h.parts;
  kind = h.kind;
  folded = h.folded;
  pass = h.pass;
  workers_are = h.workers_are;
  first = h.first;
  switch = h.switch;
  master = h.master;
  up = link_push (packet_bytes g.config) s.up (sent s.pass w k s.epoch) old.packets up.packets b u (o ∙ h.up) (is ∙ (ap (λ (p : ℕ). packet_bytes g.config (sent p w k epoch)) h.pass ∙ ap (λ (p : ℕ). packet_bytes g.config (sent s.pass w k p)) (e ∙ h.switch.epoch_is)));
  down = h.down;
  back = h.back;
  fold = h.fold;
  counts = sends_more g x s n h grew;
  room = h.room;
}

-- the run after a worker sent its next number
pub sent_stands : (g : Given) (x x' : Engine) (s : State) (w k : ℕ) (y : Progress) (ws : Vec Progress Global) → Stands g x s → Stands g x' (go_up s w k) → x'.workers ≡ x.workers
    → w < workers g.config → may_send (size g.config w) g.config.window (s.next w) (s.acked w) ≡ true → k ≡ s.next w
    → ws.items ≡ slice_set x'.workers.items w y
    → IsAt y (size g.config w) g.config.window s.pass s.epoch (suc (s.next w)) (s.acked w)
    → Stands g (record x' { workers = ws }) (send g.config s w)
sent_stands g x x' s w k y ws h h' same lt may e is at =
    let c = g.config in
    let u = subst (λ (n : ℕ). Stands g x' (go_up s w n)) e h' in
    let next : ℕ → ℕ = set_at w (suc (s.next w)) s.next in
    let set = workers_set c x'.workers.items s.pass s.epoch s.next next s.acked s.acked w y u.workers_are lt
    (subst (λ (n : ℕ). IsAt y (size c w) c.window s.pass s.epoch n (s.acked w)) (sym (set_at-same w w (suc (s.next w)) s.next refl)) at)
    (λ v ne. (set_at-other w v (suc (s.next w)) s.next ne, refl)) in
    rw (lt-ltb w (workers c) lt, may) (record {
      parts = u.parts;
      kind = u.kind;
      folded = u.folded;
      pass = u.pass;
      workers_are = rw is set;
      first = u.first;
      switch = u.switch;
      master = u.master;
      up = u.up;
      down = u.down;
      back = u.back;
      fold = u.fold;
      counts = u.counts;
      room = u.room;
    })

-- a worker is where the state has it
pub stands_at : (g : Given) (x : Engine) (s : State) (w : ℕ) (p : Progress) → Stands g x s → w < length x.workers.items → p ≡ slice_index_or x.workers.items w p
    → IsAt p (size g.config w) g.config.window s.pass s.epoch (s.next w) (s.acked w)
stands_at g x s w p h lt e =
    subst (λ (y : Progress). IsAt y (size g.config w) g.config.window s.pass s.epoch (s.next w) (s.acked w)) (sym e) (h.workers_are.each w p (omega (arith, h.workers_are.many, lt)))

-- no worker, or nothing to send
pub send_none : (c : Config) (s : State) (w : ℕ) → workers c ≤ w → s ≡ send c s w
send_none c s w le = rw (le-ltb w (workers c) le) refl

pub send_closed : (c : Config) (s : State) (w : ℕ) → w < workers c → may_send (size c w) c.window (s.next w) (s.acked w) ≡ false → s ≡ send c s w
send_closed c s w lt f = rw (lt-ltb w (workers c) lt, f) refl

pub note_sent : (c : Config) (s : State) (w : ℕ) (b : Bool) → w < workers c → can_send c s w ≡ b → send_fate b ≡ send_fate (nat_lt w (workers c) && can_send c s w)
note_sent c s w b lt f = rw (lt-ltb w (workers c) lt, f) refl

-- an open number is sent
pub open_number : (next : ℕ) (acked : ℕ → Bool) (k n : ℕ) → Some n ≡ open_at next acked k → n < next
open_number next acked k n e =
    let i = In-get n (open_numbers next acked) k (sym e) in
    let f = In-filter (λ m. not (acked m)) n (numbers_from 0 next) i in
    let r = In-numbers n 0 next f.0 in omega arith

pub resent_stands : (g : Given) (x' : Engine) (s : State) (w k n : ℕ) → Stands g x' (go_up s w n) → w < workers g.config → Some n ≡ open_at (s.next w) (s.acked w) k → Stands g x' (resend g.config s w k)
resent_stands g x' s w k n h lt e = rw (lt-ltb w (workers g.config) lt, ← e) h

pub resend_none : (c : Config) (s : State) (w k : ℕ) → w < workers c → ◌≡◌ {A = Option ℕ} None (open_at (s.next w) (s.acked w) k) → s ≡ resend c s w k
resend_none c s w k lt e = rw (lt-ltb w (workers c) lt, ← e) refl

pub resend_past : (c : Config) (s : State) (w k : ℕ) → workers c ≤ w → s ≡ resend c s w k
resend_past c s w k le = rw (le-ltb w (workers c) le) refl
