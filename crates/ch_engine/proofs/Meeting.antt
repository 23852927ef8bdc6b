-- A packet of the link up meets the switch.
use Rattle.std.proofs.Common.{◌≡◌, ℕ, suc, ◌+◌, ◌<◌, ◌≤◌, Bool, true, false, List, [], ◌∷◌, ◌++◌, length, map, remove, refl, ap, sym, ◌∙◌, arith, inl, inr, ◌⊎◌, subst, min}
use Rattle.std.specs.Prelude.{if◌then◌else◌, slice_get, slice_index_or, Option, Some, None}
use Rattle.ch_cells.specs.declared.outcome.Counts.{Counts as RustCounts}
use Rattle.ch_packet.specs.declared.packet.Packet.{Packet as BytePacket}
use Rattle.ch_packet.specs.Packet.{IsPacket}
use Rattle.ch_packet.specs.Spelling.{spelling}
use Rattle.ch_links.specs.Held.{Held}
use Rattle.ch_links.specs.Spelled.{ack_of}
use Rattle.ch_protocol.specs.Packets.{Name, Packet, Ack}
use Rattle.ch_protocol.specs.Packets.Origin.{Switch}
use Rattle.ch_protocol.specs.Machine.{Config, State, Entry, Counts, meet_at, one_more, is_fin, fate_at, follow, noted}
use Rattle.ch_protocol.specs.Machine.How.{Take, Keep, Lose}
use Rattle.ch_protocol.specs.Invariant.{IsSound}
use Rattle.ch_protocol.specs.Forwarder.{fate_of, expect_after}
use Rattle.ch_protocol.specs.Fates.{switch_fate, up_fate}
use Rattle.ch_protocol.specs.declared.fate.Fate.{Fate}
use Rattle.ch_protocol.specs.declared.fate.Fate.TheVariants.{Dropped, Pruned, Forwarded, Passed}
use Rattle.ch_protocol.specs.declared.fate.NoteFate.TheVariants.{Lost}
use Rattle.ch_switch.specs.Switching.{Switching, MayMeet, Expects, Stays, expected_at, is_pruned, registers_after}
use Rattle.ch_survival.specs.Given.{Given, IsPlanned}
use Rattle.ch_ends.specs.Packets.{packet_for, packet_bytes, ack_bytes}
use Rattle.ch_stands.specs.Parties.{SwitchStands}
use Rattle.ch_stands.proofs.Lists.{at_place, link_lift, link_push}
use Rattle.ch_stands.proofs.Places.{SentAt, only_at}
use Rattle.ch_stands.proofs.Spelled.{may_meet}
use Rattle.ch_stands.proofs.Meeting.{Meets, fate_stands, switch_stands}
use Rattle.ch_engine.specs.declared.engine.Engine.{Engine}
use Rattle.ch_engine.specs.Stands.{Stands, counts_of, meet_there, note_there}

pub meets_at : (g : Given) (s : State) (i : ℕ) (bytes : List ℕ) (u : SentAt g s s.up i bytes) (lent : List ℕ) (x : Switching) (sw : Switching) (fate : Fate) → lent ≡ bytes
    → ((p : BytePacket) → IsPacket p → lent ≡ spelling p → fate ≡ fate_of (expected_at x p.pass p.worker) p.number (is_pruned x p))
    → ((p : BytePacket) → IsPacket p → lent ≡ spelling p → (e : ℕ → ℕ → ℕ) → Expects x e → Expects sw (expect_after fate p.pass p.worker e))
    → ((p : BytePacket) → IsPacket p → lent ≡ spelling p → sw.registers ≡ registers_after x fate p)
    → Stays x sw → Meets x sw fate (packet_for g.config u.m)
meets_at g s i bytes u lent x sw fate same a b d e = record {
  fate_is = a (packet_for g.config u.m) u.packet (same ∙ u.bytes_is);
  expects = b (packet_for g.config u.m) u.packet (same ∙ u.bytes_is);
  registers_is = d (packet_for g.config u.m) u.packet (same ∙ u.bytes_is);
  stays = e;
}

-- the state after the packet with this fate
pub there : (g : Given) (x : Engine) (s : State) (i : ℕ) (bytes : List ℕ) (stays : Bool) (u : SentAt g s s.up i bytes) (sw : Switching) (fate : Fate)
    → IsPlanned g → IsSound g.config s → Stands g x s → Meets x.switch sw fate (packet_for g.config u.m)
    → meet_there g.config s i stays (slice_get s.up i) ≡ follow (is_fin g.config u.m.name) fate (record s { up = if stays then s.up else remove s.up i }) u.m.name
there g x s i bytes stays u sw fate p sound h t =
    let c = g.config in
    let s' : State = record s { up = if stays then s.up else remove s.up i } in
    rw u.is (ap (λ (f : Fate). follow (is_fin c u.m.name) f s' u.m.name) (sym (fate_stands g s x.switch sw fate u.m p sound u.known h.switch t)))

-- the note of the fate
pub noted_there : (g : Given) (x : Engine) (s : State) (i : ℕ) (bytes : List ℕ) (u : SentAt g s s.up i bytes) (sw : Switching) (fate : Fate)
    → IsPlanned g → IsSound g.config s → Stands g x s → Meets x.switch sw fate (packet_for g.config u.m)
    → switch_fate fate ≡ note_there g.config s (slice_get s.up i)
noted_there g x s i bytes u sw fate p sound h t = rw u.is (ap switch_fate (fate_stands g s x.switch sw fate u.m p sound u.known h.switch t))

-- the run stands for a state with another switch, other links and other counts
pub built : (g : Given) (x : Engine) (s : State) (sw : Switching) (up down back : Held) (n : RustCounts)
    (expected : ℕ → ℕ → ℕ) (processed : List Entry) (ups downs : List Packet) (backs : List Ack) (counts : Counts)
    → Stands g x s → SwitchStands g sw s.epoch expected processed → up.packets ≡ map (packet_bytes g.config) ups → down.packets ≡ map (packet_bytes g.config) downs → back.packets ≡ map ack_bytes backs
    → counts_of n ≡ counts
    → Stands g (record x { switch = sw; up = up; down = down; back = back; counts = n }) (record s { expected = expected; processed = processed; up = ups; down = downs; back = backs; counts = counts })
built g x s sw up down back n expected processed ups downs backs counts h a b d e f = record {
  parts = h.parts;
  kind = h.kind;
  folded = h.folded;
  pass = h.pass;
  workers_are = h.workers_are;
  first = h.first;
  switch = a;
  master = h.master;
  up = b;
  down = d;
  back = e;
  fold = h.fold;
  counts = f;
  room = h.room;
}

-- the run after a packet that was dropped
pub dropped : (g : Given) (x : Engine) (s : State) (i : ℕ) (bytes : List ℕ) (stays : Bool) (u : SentAt g s s.up i bytes) (sw : Switching) (up down back : Held)
    → IsPlanned g → IsSound g.config s → Stands g x s → Meets x.switch sw Dropped (packet_for g.config u.m)
    → up.packets ≡ (if stays then x.up.packets else remove x.up.packets i) → down.packets ≡ x.down.packets → back.packets ≡ x.back.packets
    → Stands g (record x { switch = sw; up = up; down = down; back = back }) (meet_there g.config s i stays (slice_get s.up i))
dropped g x s i bytes stays u sw up down back p sound h t a b d =
    subst (λ (y : State). Stands g (record x { switch = sw; up = up; down = down; back = back }) y) (sym (there g x s i bytes stays u sw Dropped p sound h t))
    (built g x s sw up down back x.counts _ _ _ _ _ _ h (switch_stands g s x.switch sw Dropped u.m p sound u.known h.switch t)
    (link_lift (packet_bytes g.config) s.up i stays x.up.packets up.packets a h.up) (b ∙ h.down) (d ∙ h.back) h.counts)

-- the run after a packet that went down, because it was accepted or because it came again
pub went_down : (g : Given) (x : Engine) (s : State) (i : ℕ) (bytes : List ℕ) (stays : Bool) (u : SentAt g s s.up i bytes) (sw : Switching) (fate : Fate) (up down back : Held) (n : RustCounts)
    → (fate ≡ Forwarded) ⊎ (fate ≡ Passed)
    → IsPlanned g → IsSound g.config s → Stands g x s → Meets x.switch sw fate (packet_for g.config u.m)
    → up.packets ≡ (if stays then x.up.packets else remove x.up.packets i)
    → down.packets ≡ map (packet_bytes g.config) (s.down ++ record { name = u.m.name; epoch = s.epoch } ∷ [])
    → back.packets ≡ x.back.packets
    → counts_of n ≡ record s.counts { forwarded = one_more s.counts.forwarded }
    → Stands g (record x { switch = sw; up = up; down = down; back = back; counts = n }) (meet_there g.config s i stays (slice_get s.up i))
went_down g x s i bytes stays u sw fate up down back n which p sound h t a b d e =
    subst (λ (y : State). Stands g (record x { switch = sw; up = up; down = down; back = back; counts = n }) y) (sym (there g x s i bytes stays u sw fate p sound h t)) (go which)
  where
    c : Config
    c = g.config

    y : Engine
    y = record x { switch = sw; up = up; down = down; back = back; counts = n }

    s' : State
    s' = record s { up = if stays then s.up else remove s.up i }

    at : (f : Fate) → fate ≡ f → SwitchStands g sw s.epoch (expect_after f u.m.name.pass u.m.name.worker s.expected) (noted (is_fin c u.m.name) f s.epoch u.m.name s.processed)
    at f q = subst (λ (k : Fate). SwitchStands g sw s.epoch (expect_after k u.m.name.pass u.m.name.worker s.expected) (noted (is_fin c u.m.name) k s.epoch u.m.name s.processed)) q
        (switch_stands g s x.switch sw fate u.m p sound u.known h.switch t)

    go : (fate ≡ Forwarded) ⊎ (fate ≡ Passed) → Stands g y (follow (is_fin c u.m.name) fate s' u.m.name)
    go (inl q) = subst (λ (k : Fate). Stands g y (follow (is_fin c u.m.name) k s' u.m.name)) (sym q)
        (built g x s sw up down back n _ _ _ _ _ _ h (at Forwarded q) (link_lift (packet_bytes c) s.up i stays x.up.packets up.packets a h.up) b (d ∙ h.back) e)
    go (inr q) = subst (λ (k : Fate). Stands g y (follow (is_fin c u.m.name) k s' u.m.name)) (sym q)
        (built g x s sw up down back n _ _ _ _ _ _ h (at Passed q) (link_lift (packet_bytes c) s.up i stays x.up.packets up.packets a h.up) b (d ∙ h.back) e)

-- the run after a row that was pruned
pub pruned : (g : Given) (x : Engine) (s : State) (i : ℕ) (bytes : List ℕ) (stays : Bool) (u : SentAt g s s.up i bytes) (sw : Switching) (up down back : Held) (n : RustCounts)
    → IsPlanned g → IsSound g.config s → Stands g x s → Meets x.switch sw Pruned (packet_for g.config u.m)
    → up.packets ≡ (if stays then x.up.packets else remove x.up.packets i) → down.packets ≡ x.down.packets
    → back.packets ≡ map ack_bytes (s.back ++ record { origin = Switch; name = u.m.name; epoch = s.epoch } ∷ [])
    → counts_of n ≡ record s.counts { pruned = one_more s.counts.pruned }
    → Stands g (record x { switch = sw; up = up; down = down; back = back; counts = n }) (meet_there g.config s i stays (slice_get s.up i))
pruned g x s i bytes stays u sw up down back n p sound h t a b d e =
    subst (λ (y : State). Stands g (record x { switch = sw; up = up; down = down; back = back; counts = n }) y) (sym (there g x s i bytes stays u sw Pruned p sound h t))
    (built g x s sw up down back n _ _ _ _ _ _ h (switch_stands g s x.switch sw Pruned u.m p sound u.known h.switch t)
    (link_lift (packet_bytes g.config) s.up i stays x.up.packets up.packets a h.up) (b ∙ h.down) d e)

pub may_meet_at : (g : Given) (x : Engine) (s : State) (i : ℕ) (bytes : List ℕ) (u : SentAt g s s.up i bytes) → IsPlanned g → IsSound g.config s → Stands g x s
    → (b : BytePacket) → IsPacket b → bytes ≡ spelling b → MayMeet x.switch b
may_meet_at g x s i bytes u p sound h b is e =
    subst (MayMeet x.switch) (only_at g s s.up i bytes u b is e)
    (may_meet g x.switch s.pass s.next u.m p sound.in_range.1 u.known h.switch.program_is h.switch.slot_is h.switch.workers_is)

-- the packet went down with the present epoch
pub down_more : (g : Given) (x : Engine) (s : State) (i : ℕ) (bytes : List ℕ) (u : SentAt g s s.up i bytes) → Stands g x s
    → (old new : List (List ℕ)) (b : List ℕ) (epoch : ℕ) → new ≡ old ++ b ∷ [] → old ≡ x.down.packets → epoch ≡ x.switch.epoch
    → b ≡ spelling (record (packet_for g.config u.m) { epoch = epoch })
    → new ≡ map (packet_bytes g.config) (s.down ++ record { name = u.m.name; epoch = s.epoch } ∷ [])
down_more g x s i bytes u h old new b epoch n o e is =
    link_push (packet_bytes g.config) s.down (record { name = u.m.name; epoch = s.epoch }) old new b n (o ∙ h.down)
    (is ∙ ap (λ (k : ℕ). spelling (record (packet_for g.config u.m) { epoch = k })) (e ∙ h.switch.epoch_is))

-- the switch acknowledged the row
pub back_more : (g : Given) (x : Engine) (s : State) (i : ℕ) (bytes : List ℕ) (u : SentAt g s s.up i bytes) → Stands g x s
    → (old new : List (List ℕ)) (b : List ℕ) (epoch : ℕ) → new ≡ old ++ b ∷ [] → old ≡ x.back.packets → epoch ≡ x.switch.epoch
    → b ≡ spelling (ack_of (packet_for g.config u.m) 0 epoch)
    → new ≡ map ack_bytes (s.back ++ record { origin = Switch; name = u.m.name; epoch = s.epoch } ∷ [])
back_more g x s i bytes u h old new b epoch n o e is =
    link_push ack_bytes s.back (record { origin = Switch; name = u.m.name; epoch = s.epoch }) old new b n (o ∙ h.back)
    (is ∙ ap (λ (k : ℕ). spelling (ack_of (packet_for g.config u.m) 0 k)) (e ∙ h.switch.epoch_is))

-- a count that grew
abbrev pub grown : ℕ → ℕ
grown n = min (n + 1) 18446744073709551615

pub forwarded_more : (g : Given) (x : Engine) (s : State) (n : ℕ) → Stands g x s → n ≡ grown x.counts.forwarded
    → counts_of (record x.counts { forwarded = n }) ≡ record s.counts { forwarded = one_more s.counts.forwarded }
forwarded_more g x s n h e = rw (e, ← h.counts) refl

pub pruned_more : (g : Given) (x : Engine) (s : State) (n : ℕ) → Stands g x s → n ≡ grown x.counts.pruned
    → counts_of (record x.counts { pruned = n }) ≡ record s.counts { pruned = one_more s.counts.pruned }
pruned_more g x s n h e = rw (e, ← h.counts) refl

-- taking and keeping a packet
pub takes : (c : Config) (s : State) (i : ℕ) (o : Option Packet) → meet_there c s i false o ≡ meet_at c s i Take o
takes c s i None = refl
takes c s i (Some m) = refl

pub keeps : (c : Config) (s : State) (i : ℕ) (o : Option Packet) → meet_there c s i true o ≡ meet_at c s i Keep o
keeps c s i None = refl
keeps c s i (Some m) = refl

-- the run after a packet of the link up was lost
pub lost_up : (g : Given) (x : Engine) (s : State) (i : ℕ) (up : Held) → Stands g x s → i < length x.up.packets → up.packets ≡ remove x.up.packets i
    → Stands g (record x { up = up }) (meet_at g.config s i Lose (slice_get s.up i))
lost_up g x s i up h lt e =
    let a = at_place (packet_bytes g.config) s.up i (subst (λ (l : List (List ℕ)). i < length l) h.up lt) in
    rw a.is (record {
      parts = h.parts;
      kind = h.kind;
      folded = h.folded;
      pass = h.pass;
      workers_are = h.workers_are;
      first = h.first;
      switch = h.switch;
      master = h.master;
      up = link_lift (packet_bytes g.config) s.up i false x.up.packets up.packets e h.up;
      down = h.down;
      back = h.back;
      fold = h.fold;
      counts = h.counts;
      room = h.room;
    })

pub lost_note : (g : Given) (x : Engine) (s : State) (i : ℕ) → Stands g x s → i < length x.up.packets → Lost ≡ up_fate g.config s Lose (slice_get s.up i)
lost_note g x s i h lt =
    let a = at_place (packet_bytes g.config) s.up i (subst (λ (l : List (List ℕ)). i < length l) h.up lt) in
    rw a.is refl
