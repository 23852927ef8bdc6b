-- The packets on the links, by the places that hold their bytes.
use Rattle.std.proofs.Common.{◌≡◌, ℕ, suc, ◌+◌, ◌<◌, ◌≤◌, ◌^◌, Bool, List, [], length, map, refl, ap, sym, ◌∙◌, arith, subst}
use Rattle.std.specs.Prelude.{slice_get, slice_index_or, Option, Some, FitsSigned}
use Rattle.std.specs.Int.{w64}
use Rattle.std.proofs.lemmas.List.Elements.{All-nil}
use Rattle.ch_packet.specs.declared.packet.Packet.{Packet as BytePacket}
use Rattle.ch_packet.specs.Packet.{IsPacket}
use Rattle.ch_packet.specs.Spelling.{spelling}
use Rattle.ch_packet.proofs.Heads.{spelling-once}
use Rattle.ch_protocol.specs.Packets.{Packet, Ack, Origin}
use Rattle.ch_protocol.specs.Packets.Origin.{Switch, Master}
use Rattle.ch_protocol.specs.Machine.{Config, State, passes}
use Rattle.ch_protocol.specs.Invariant.{IsSound, IsKnown, IsOnBack}
use Rattle.ch_protocol.proofs.Lists.{In-get}
use Rattle.ch_survival.specs.Given.{Given, IsPlanned}
use Rattle.ch_ends.specs.Packets.{packet_for, ack_for, packet_bytes, ack_bytes, origin_code}
use Rattle.ch_stands.proofs.Lists.{at_place}
use Rattle.ch_stands.proofs.Spelled.{spelled, known_pass}

-- the Row or the Fin at a place of a link, whose bytes these are
pub record SentAt (g : Given) (s : State) (link : List Packet) (i : ℕ) (bytes : List ℕ) : Type 0 where
  pub m : Packet
  pub is : slice_get link i ≡ Some m
  pub known : IsKnown g.config s.pass s.next m.name
  pub packet : IsPacket (packet_for g.config m)
  pub bytes_is : bytes ≡ spelling (packet_for g.config m)

pub up_at : (g : Given) (s : State) (held : List (List ℕ)) (i : ℕ) (bytes : List ℕ) → IsPlanned g → IsSound g.config s → s.epoch < 2 ^ 32
    → held ≡ map (packet_bytes g.config) s.up → i < length held → bytes ≡ slice_index_or held i bytes → SentAt g s s.up i bytes
up_at g s held i bytes p sound small h lt e =
    let a = at_place (packet_bytes g.config) s.up i (subst (λ (l : List (List ℕ)). i < length l) h lt) in
    let on = sound.up a.item (In-get a.item s.up i a.is) in
    record {
      m = a.item;
      is = a.is;
      known = on.known;
      packet = spelled g s.pass s.next a.item p sound.in_range.1 on.known (omega (arith, on.past, small));
      bytes_is = e ∙ ap (λ (l : List (List ℕ)). slice_index_or l i bytes) h ∙ a.shown bytes;
    }

pub down_at : (g : Given) (s : State) (held : List (List ℕ)) (i : ℕ) (bytes : List ℕ) → IsPlanned g → IsSound g.config s → s.epoch < 2 ^ 32
    → held ≡ map (packet_bytes g.config) s.down → i < length held → bytes ≡ slice_index_or held i bytes → SentAt g s s.down i bytes
down_at g s held i bytes p sound small h lt e =
    let a = at_place (packet_bytes g.config) s.down i (subst (λ (l : List (List ℕ)). i < length l) h lt) in
    let on = sound.down a.item (In-get a.item s.down i a.is) in
    record {
      m = a.item;
      is = a.is;
      known = on.known;
      packet = spelled g s.pass s.next a.item p sound.in_range.1 on.known (omega (arith, on.past, small));
      bytes_is = e ∙ ap (λ (l : List (List ℕ)). slice_index_or l i bytes) h ∙ a.shown bytes;
    }

-- another loan of the bytes at the place has the same packet
pub same_at : (g : Given) (s : State) (link : List Packet) (held : List (List ℕ)) (i : ℕ) (bytes lent : List ℕ) (u : SentAt g s link i bytes)
    → held ≡ map (packet_bytes g.config) link → i < length held → lent ≡ slice_index_or held i lent → lent ≡ spelling (packet_for g.config u.m)
same_at g s link held i bytes lent u h lt e =
    let a = at_place (packet_bytes g.config) link i (subst (λ (l : List (List ℕ)). i < length l) h lt) in
    let same : a.item ≡ u.m = cc (sym a.is ∙ u.is) in
    e ∙ ap (λ (l : List (List ℕ)). slice_index_or l i lent) h ∙ a.shown lent ∙ ap (packet_bytes g.config) same

-- each packet that these bytes spell is the one at the place
pub only_at : (g : Given) (s : State) (link : List Packet) (i : ℕ) (bytes : List ℕ) (u : SentAt g s link i bytes) (b : BytePacket)
    → IsPacket b → bytes ≡ spelling b → packet_for g.config u.m ≡ b
only_at g s link i bytes u b is e = spelling-once (packet_for g.config u.m) b u.packet is (sym u.bytes_is ∙ e)

origin_le : (o : Origin) → origin_code o ≤ 1
origin_le Switch = omega arith
origin_le Master = omega arith

-- the acknowledgement at a place of the link back, whose bytes these are
pub record AckAt (g : Given) (s : State) (i : ℕ) (bytes : List ℕ) : Type 0 where
  pub a : Ack
  pub is : slice_get s.back i ≡ Some a
  pub on : IsOnBack g.config s.pass s.epoch s.next s.expected s.received s.processed a
  pub packet : IsPacket (ack_for a)
  pub bytes_is : bytes ≡ spelling (ack_for a)

pub back_at : (g : Given) (s : State) (held : List (List ℕ)) (i : ℕ) (bytes : List ℕ) → IsPlanned g → IsSound g.config s → s.epoch < 2 ^ 32
    → held ≡ map ack_bytes s.back → i < length held → bytes ≡ slice_index_or held i bytes → AckAt g s i bytes
back_at g s held i bytes p sound small h lt e =
    let a = at_place ack_bytes s.back i (subst (λ (l : List (List ℕ)). i < length l) h lt) in
    let on = sound.back a.item (In-get a.item s.back i a.is) in
    let k = on.known in
    record {
      a = a.item;
      is = a.is;
      on = on;
      packet = record {
        writable = record { pass = known_pass g.config s.pass s.next a.item.name sound.in_range.1 k; side = origin_le a.item.origin; words = omega arith; bit = omega arith };
        worker = omega (arith, k.worker, p.parts.many);
        number = omega (arith, k.number, p.parts.sizes a.item.name.worker k.worker);
        epoch = omega (arith, on.past, small);
        words = All-nil (FitsSigned w64);
      };
      bytes_is = e ∙ ap (λ (l : List (List ℕ)). slice_index_or l i bytes) h ∙ a.shown bytes;
    }

pub only_ack : (g : Given) (s : State) (i : ℕ) (bytes : List ℕ) (u : AckAt g s i bytes) (b : BytePacket) → IsPacket b → bytes ≡ spelling b → ack_for u.a ≡ b
only_ack g s i bytes u b is e = spelling-once (ack_for u.a) b u.packet is (sym u.bytes_is ∙ e)
