-- The line of a step can be read.
use Rattle.std.proofs.Common.{◌≡◌, ◌⊎◌, ◌<◌, ◌≤◌, ℕ, Bool, true, false, List, refl, arith, inl, inr, ltb-true}
use Rattle.std.specs.Prelude.{◌&&◌, ◌||◌, not, nat_lt, ◌==◌, is_some, if◌then◌else◌, slice_get, Option, Some, None, option_map}
use Rattle.std.proofs.lemmas.Bool.{and_parts, eqb-true}
use Rattle.ch_lists.specs.Members.{In}
use Rattle.ch_lists.proofs.Members.{In-filter}
use Rattle.ch_packet.specs.Packet.{IsPacket as IsSent}
use Rattle.ch_packet.specs.Spelling.{spelling}
use Rattle.ch_packet.specs.declared.packet.Packet.{Packet as Sent}
use Rattle.ch_protocol.proofs.Lists.{In-get, In-numbers}
use Rattle.ch_protocol.specs.Fates.{back_fate, down_fate, event_fate, resend_fate, send_fate, switch_fate, unless_lost, up_fate}
use Rattle.ch_protocol.specs.Machine.{Config, State, can_send, fate_at, size, workers}
use Rattle.ch_protocol.specs.Machine.Event.{Send, Resend}
use Rattle.ch_protocol.specs.Packets.{Ack, Packet}
use Rattle.ch_protocol.specs.Receiver.{has}
use Rattle.ch_protocol.specs.Sender.{has_room, is_current, may_end, open_at, open_numbers}
use Rattle.ch_protocol.specs.Sets.{numbers_from}
use Rattle.ch_protocol.specs.declared.fate.Fate.{Fate}
use Rattle.ch_protocol.specs.declared.fate.Fate.TheVariants as fate
use Rattle.ch_protocol.specs.declared.fate.NoteFate.TheVariants.{Nothing, New, Old, Taken, Ignored}
use Rattle.ch_schedule.specs.Event.{how_of}
use Rattle.ch_schedule.specs.declared.step.How.{How as SaidHow}
use Rattle.ch_schedule.specs.declared.step.How.TheVariants as how
use Rattle.ch_schedule.specs.declared.step.Link.TheVariants as link
use Rattle.ch_schedule.specs.declared.step.Step.{Step}
use Rattle.ch_schedule.specs.declared.step.Step.TheVariants as step
use Rattle.ch_trace_lines.specs.Fates.{fates_for}
use Rattle.ch_trace_lines.specs.Range.{IsLine, IsPacket, sent_of}
use Rattle.ch_ends.specs.Packets.{ack_bytes, ack_for, packet_bytes, packet_for}
use Rattle.ch_trace_lines.specs.Trace.{bytes_of, noted_at, sent_packet}
use Rattle.ch_trace_lines.specs.declared.line.Line.TheVariants.{Event}
use Rattle.ch_trace_laws.specs.Sendable.{IsReadable, IsSendable}
use Rattle.ch_trace_laws.proofs.Bytes.{spelled_bytes, spelled_sound}
use Rattle.ch_trace_laws.proofs.Packets.{ack_sent, known_name, now_name, row_sent, sound_of}

some_packet : (p : Sent) → IsSent p → IsPacket (Some (spelling p))
some_packet p is = (spelled_sound p is, spelled_bytes p is)

-- what becomes of a packet of a link is one of its fates

switch_said : (f : Fate) (h : SaidHow) → In (unless_lost (how_of h) (switch_fate f)) (fates_for link.Up h true)
switch_said fate.Dropped how.Take = inl refl
switch_said fate.Pruned how.Take = inr (inl refl)
switch_said fate.Forwarded how.Take = inr (inr (inl refl))
switch_said fate.Passed how.Take = inr (inr (inr (inl refl)))
switch_said fate.Dropped how.Keep = inl refl
switch_said fate.Pruned how.Keep = inr (inl refl)
switch_said fate.Forwarded how.Keep = inr (inr (inl refl))
switch_said fate.Passed how.Keep = inr (inr (inr (inl refl)))
switch_said f how.Lose = inl refl

master_said : (b : Bool) (h : SaidHow) → In (unless_lost (how_of h) (if b then Old else New)) (fates_for link.Down h true)
master_said true how.Take = inr (inl refl)
master_said false how.Take = inl refl
master_said true how.Keep = inr (inl refl)
master_said false how.Keep = inl refl
master_said b how.Lose = inl refl

worker_said : (b : Bool) (h : SaidHow) → In (unless_lost (how_of h) (if b then Taken else Ignored)) (fates_for link.Back h true)
worker_said true how.Take = inl refl
worker_said false how.Take = inr (inl refl)
worker_said true how.Keep = inl refl
worker_said false how.Keep = inr (inl refl)
worker_said b how.Lose = inl refl

either_of : (a b : Bool) → (a || b) ≡ true → (a ≡ true) ⊎ (b ≡ true)
either_of true b e = inl refl
either_of false b e = inr e

module _ (c : Config) (s : State) (is : IsSendable c s) where
  up_line : (h : SaidHow) (o : Option Packet) → ((m : Packet) → o ≡ Some m → In m s.up) → IsPacket (option_map (packet_bytes c) o) × In (up_fate c s (how_of h) o) (fates_for link.Up h (is_some (option_map (packet_bytes c) o)))
  up_line h None there = (tt, inl refl)
  up_line h (Some m) there =
      let sound = sound_of c s is in
      let on = sound.up m (there m refl) in
      let small = is.small in
      let past = on.past in
      (some_packet (packet_for c m) (row_sent c m is.config (known_name c s m.name sound on.known) (omega (arith, small, past))), switch_said (fate_at c s m.name) h)

  down_line : (h : SaidHow) (o : Option Packet) → ((m : Packet) → o ≡ Some m → In m s.down) → IsPacket (option_map (packet_bytes c) o) × In (down_fate s (how_of h) o) (fates_for link.Down h (is_some (option_map (packet_bytes c) o)))
  down_line h None there = (tt, inl refl)
  down_line h (Some m) there =
      let sound = sound_of c s is in
      let on = sound.down m (there m refl) in
      let small = is.small in
      let past = on.past in
      (some_packet (packet_for c m) (row_sent c m is.config (known_name c s m.name sound on.known) (omega (arith, small, past))), master_said (has s.received m.name) h)

  back_line : (h : SaidHow) (o : Option Ack) → ((a : Ack) → o ≡ Some a → In a s.back) → IsPacket (option_map ack_bytes o) × In (back_fate s (how_of h) o) (fates_for link.Back h (is_some (option_map ack_bytes o)))
  back_line h None there = (tt, inl refl)
  back_line h (Some a) there =
      let sound = sound_of c s is in
      let on = sound.back a (there a refl) in
      let small = is.small in
      let past = on.past in
      (some_packet (ack_for a) (ack_sent c a is.config (known_name c s a.name sound on.known) (omega (arith, small, past))), worker_said (is_current s.pass s.epoch a.name.pass a.epoch) h)

  -- a number that a worker has goes on the link up as a packet
  number_sent : (w k : ℕ) → w < workers c → k ≤ size c w → IsPacket (Some (packet_bytes c (sent_packet s w k)))
  number_sent w k lt le = let m = sent_packet s w k in some_packet (packet_for c m) (row_sent c m is.config (now_name c s w k (sound_of c s is) lt le) is.small)

  may_number : (w : ℕ) → can_send c s w ≡ true → s.next w ≤ size c w
  may_number w can = elim (either_of (has_room (size c w) c.window (s.next w) (s.acked w)) (may_end (size c w) (s.next w) (s.acked w)) can) [
    | inl room ↦ let lt = ltb-true (s.next w) (size c w) (and_parts (nat_lt (s.next w) (size c w)) _ room).0 in omega (arith, lt)
    | inr end ↦ let e = eqb-true (s.next w) (size c w) (and_parts (s.next w == size c w) _ end).0 in omega (arith, e)
  ]

  send_line : (w : ℕ) → IsPacket (bytes_of c s (Send w)) × (event_fate c s (Send w) ≡ sent_of (bytes_of c s (Send w)))
  send_line w = go (nat_lt w (workers c) && can_send c s w) refl
    where
      go : (b : Bool) → (nat_lt w (workers c) && can_send c s w) ≡ b
          → let bytes : Option (List ℕ) = if b then Some (packet_bytes c (sent_packet s w (s.next w))) else None in IsPacket bytes × (send_fate b ≡ sent_of bytes)
      go true e = let both = and_parts (nat_lt w (workers c)) (can_send c s w) e in (number_sent w (s.next w) (ltb-true w (workers c) both.0) (may_number w both.1), refl)
      go false e = (tt, refl)

  resend_line : (w place : ℕ) → IsPacket (bytes_of c s (Resend w place)) × (event_fate c s (Resend w place) ≡ sent_of (bytes_of c s (Resend w place)))
  resend_line w place = go (nat_lt w (workers c)) refl (open_at (s.next w) (s.acked w) place) refl
    where
      go : (b : Bool) → nat_lt w (workers c) ≡ b → (o : Option ℕ) → open_at (s.next w) (s.acked w) place ≡ o
          → let bytes : Option (List ℕ) = if b then option_map (λ k. packet_bytes c (sent_packet s w k)) o else None in IsPacket bytes × ((if b then resend_fate o else Nothing) ≡ sent_of bytes)
      go true e None at = (tt, refl)
      go true e (Some k) at =
          let lt = ltb-true w (workers c) e in
          let open' = In-filter (λ n. not (s.acked w n)) k (numbers_from 0 (s.next w)) (In-get k (open_numbers (s.next w) (s.acked w)) place at) in
          let below = In-numbers k 0 (s.next w) open'.0 in
          let within = (sound_of c s is).numbered.within w lt in
          (number_sent w k lt (omega (arith, below.1, within)), refl)
      go false e o at = (tt, refl)

  pub step_line : (x : Step) → IsReadable x → IsLine (Event (noted_at c s x))
  step_line (step.Send w) h = let l = send_line w in (h, l.0, l.1)
  step_line (step.Resend w place) h = let l = resend_line w place in (h.0, h.1, l.0, l.1)
  step_line (step.Up at how) h = let l = up_line how (slice_get s.up at) (λ m e. In-get m s.up at e) in (h, l.0, l.1)
  step_line (step.Down at how) h = let l = down_line how (slice_get s.down at) (λ m e. In-get m s.down at e) in (h, l.0, l.1)
  step_line (step.Back at how) h = let l = back_line how (slice_get s.back at) (λ a e. In-get a s.back at e) in (h, l.0, l.1)
  step_line (step.Inject l bytes) h = (h, refl, refl)
  step_line step.Restart h = (refl, refl)
