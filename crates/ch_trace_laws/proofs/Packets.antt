-- The packets of a run are packets.
use Rattle.std.proofs.Common.{◌≡◌, ◌⊎◌, ◌<◌, ◌≤◌, ◌^◌, ℕ, zero, suc, arith, refl, inl, inr, Bool, true, false}
use Rattle.std.specs.Prelude.{if◌then◌else◌, FitsSigned}
use Rattle.std.specs.Int.{w64}
use Rattle.std.proofs.lemmas.Bool.{cases_eq, eq-eqb, ne_eqb}
use Rattle.std.proofs.lemmas.List.{get_or_past}
use Rattle.std.proofs.lemmas.List.Elements.{All-nil}
use Rattle.ch_cover.specs.Rows.{Row}
use Rattle.ch_packet.specs.Packet.{IsPacket}
use Rattle.ch_packet.specs.declared.packet.Packet.{Packet as Sent}
use Rattle.ch_packet.specs.declared.packet.PacketKind.TheVariants as kind
use Rattle.ch_protocol.specs.Invariant.{IsKnown, IsSound}
use Rattle.ch_protocol.specs.Machine.{Config, State, is_fin, no_row, passes, row_at, rows_of, size, workers}
use Rattle.ch_protocol.specs.Packets.{Ack, Name, Origin, Packet}
use Rattle.ch_protocol.specs.Packets.Origin.{Switch, Master}
use Rattle.ch_protocol_laws.proofs.Reached.{reached_sound}
use Rattle.ch_ends.specs.Packets.{ack_for, origin_code, packet_for, side_of}
use Rattle.ch_trace_laws.specs.Sendable.{AreSendable, IsSendable}

passes_few : (c : Config) → passes c ≤ 2
passes_few c = go c.two_passes
  where
    go : (b : Bool) → (if b then 2 else 1) ≤ 2
    go true = omega arith
    go false = omega arith

bit_few : (b : Bool) → (if b then 1 else 0) ≤ 1
bit_few true = omega arith
bit_few false = omega arith

-- a packet of a row or of a Fin
abbrev made : Bool → Row → ℕ → Packet → Sent
made fin r side m = record {
  kind = if fin then kind.Fin else kind.Row;
  pass = m.name.pass;
  worker = m.name.worker;
  side = side;
  number = m.name.number;
  epoch = m.epoch;
  bit = r.bit;
  words = r.words;
}

-- a name of these passes, workers and numbers
pub record IsName (c : Config) (x : Name) : Type 0 where
  pub first : 1 ≤ x.pass
  pub last : x.pass ≤ 2
  pub worker : x.worker < workers c
  pub number : x.number ≤ size c x.worker

one_or_two : (p : ℕ) → 1 ≤ p → p ≤ 2 → (p ≡ 1) ⊎ (p ≡ 2)
one_or_two zero a b = absurd (omega (arith, a))
one_or_two (suc zero) a b = inl refl
one_or_two (suc (suc zero)) a b = inr refl
one_or_two (suc (suc (suc p))) a b = absurd (omega (arith, b))

pub row_sent : (c : Config) (m : Packet) → AreSendable c → IsName c m.name → m.epoch < 2 ^ 32 → IsPacket (packet_for c m)
row_sent c m are is small =
    let sizes = are.sizes m.name.worker is.worker in
    let pass = one_or_two m.name.pass is.first is.last in
    let side = are.sides m.name.worker in
    let many = are.many in
    let number = is.number in
    let worker = is.worker in
    elim (cases_eq m.name.number (size c m.name.worker)) [
      | inl e ↦
          let fin : is_fin c m.name ≡ true = eq-eqb m.name.number (size c m.name.worker) e in
          let none : row_at c m.name ≡ no_row = get_or_past (rows_of c m.name.worker) m.name.number no_row (omega (arith, e)) in
          let is_it : IsPacket (made true no_row (side_of c m.name.worker) m) = record {
            writable = record { pass = pass; side = side; words = omega arith; bit = omega arith };
            worker = omega (arith, many, worker);
            number = omega (arith, sizes, number);
            epoch = small;
            words = All-nil (FitsSigned w64);
          } in
          rw (fin, none) is_it
      | inr ne ↦
          let fin : is_fin c m.name ≡ false = ne_eqb m.name.number (size c m.name.worker) ne in
          let less : m.name.number < size c m.name.worker = omega (arith, number, ne) in
          let is_it : IsPacket (made false (row_at c m.name) (side_of c m.name.worker) m) = record {
            writable = record { pass = pass; side = side; words = are.few m.name worker less; bit = bit_few (row_at c m.name).bit };
            worker = omega (arith, many, worker);
            number = omega (arith, sizes, number);
            epoch = small;
            words = are.words m.name worker less;
          } in
          rw fin is_it
    ]

origin_few : (o : Origin) → origin_code o ≤ 1
origin_few Switch = omega arith
origin_few Master = omega arith

pub ack_sent : (c : Config) (a : Ack) → AreSendable c → IsName c a.name → a.epoch < 2 ^ 32 → IsPacket (ack_for a)
ack_sent c a are is small =
    let sizes = are.sizes a.name.worker is.worker in
    let many = are.many in
    let number = is.number in
    let worker = is.worker in
    record {
      writable = record { pass = one_or_two a.name.pass is.first is.last; side = origin_few a.origin; words = omega arith; bit = omega arith };
      worker = omega (arith, many, worker);
      number = omega (arith, sizes, number);
      epoch = small;
      words = All-nil (FitsSigned w64);
    }

-- what the protocol knows of a name
pub known_name : (c : Config) (s : State) (x : Name) → IsSound c s → IsKnown c s.pass s.next x → IsName c x
known_name c s x sound known =
    let most = passes_few c in
    let last = sound.in_range.1 in
    let begun = known.begun in
    record { first = known.first; last = omega (arith, most, last, begun); worker = known.worker; number = known.number }

pub sound_of : (c : Config) (s : State) → IsSendable c s → IsSound c s
sound_of c s is = reached_sound c s is.reached

-- a worker's number in the present pass
pub now_name : (c : Config) (s : State) (w k : ℕ) → IsSound c s → w < workers c → k ≤ size c w → IsName c (record { pass = s.pass; worker = w; number = k })
now_name c s w k sound lt le =
    let most = passes_few c in
    let last = sound.in_range.1 in
    record { first = sound.in_range.0; last = omega (arith, most, last); worker = lt; number = le }
