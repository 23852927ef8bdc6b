-- The packets on the links spell packets, which the switch may meet.
use Rattle.std.proofs.Common.{◌≡◌, ℕ, zero, suc, ◌+◌, ◌<◌, ◌≤◌, ◌^◌, Bool, true, false, eqb, List, [], ◌∷◌, length, map, refl, ap, sym, ◌∙◌, arith, inl, inr, ◌⊎◌, subst}
use Rattle.std.specs.Prelude.{◌≢◌, ◌==◌, ◌&&◌, slice_index_or, if◌then◌else◌, FitsSigned, All, Option, Some, None}
use Rattle.std.specs.Int.{w64}
use Rattle.std.proofs.lemmas.Bool.{cases_Bool, eqb-true, ne_eqb, eq-eqb, cases_eq}
use Rattle.std.proofs.lemmas.List.{get_or_past}
use Rattle.std.proofs.lemmas.List.Elements.{All-nil}
use Rattle.ch_packet.specs.Packet.{IsPacket, IsWritable}
use Rattle.ch_packet.specs.declared.packet.Packet.{Packet as BytePacket}
use Rattle.ch_packet.specs.declared.packet.PacketKind.TheVariants.{Row as RowKind, Fin, Ack as AckKind}
use Rattle.ch_cover.specs.Rows.{Row}
use Rattle.ch_protocol.specs.Packets.{Part, Tuple, Name, Packet, Ack}
use Rattle.ch_protocol.specs.Packets.Origin.{Switch, Master}
use Rattle.ch_protocol.specs.Machine.{Config, size, workers, passes, rows_in, rows_of, row_at, no_row, is_fin, seen}
use Rattle.ch_protocol.specs.Invariant.{IsKnown}
use Rattle.ch_verdicts.specs.declared.Slot.{Slot}
use Rattle.ch_verdicts.specs.Handed.{IsPass, IsSlot, HasPlaces}
use Rattle.ch_switch.specs.Switching.{MayMeet, Switching, row_of, is_row}
use Rattle.ch_survival.specs.Given.{Given, IsPlanned, Fits}
use Rattle.ch_ends.specs.Packets.{ack_for, no_part, packet_for, side_of}
use Rattle.ch_links.specs.Spelled.{is_row_of}
use Rattle.ch_stands.proofs.Lists.{map_at}

-- a worker's rows are those of its part
pub rows_part : (c : Config) (w : ℕ) → rows_of c w ≡ rows_in (slice_index_or c.parts w no_part)
rows_part c w = map_at rows_in c.parts w no_part

row_side : (side : ℕ) (ts : List Tuple) (k : ℕ) → k < length (rows_in (record { side = side; tuples = ts }))
    → (slice_index_or (rows_in (record { side = side; tuples = ts })) k no_row).side ≡ side
row_side side [] k lt = absurd (omega arith)
row_side side (t ∷ ts) zero lt = refl
row_side side (t ∷ ts) (suc k) lt = row_side side ts k (omega arith)

-- a row has the side of its worker's part
pub side_is : (c : Config) (x : Name) → x.number < size c x.worker → (row_at c x).side ≡ side_of c x.worker
side_is c x lt =
    let e = rows_part c x.worker in
    let part : Part = slice_index_or c.parts x.worker no_part in
    ap (λ (rows : List Row). (slice_index_or rows x.number no_row).side) e
    ∙ row_side part.side part.tuples x.number (subst (λ (rows : List Row). x.number < length rows) e lt)

-- a Fin has no row
pub fin_row : (c : Config) (x : Name) → x.number ≡ size c x.worker → row_at c x ≡ no_row
fin_row c x e = get_or_past (rows_of c x.worker) x.number no_row (omega (arith, e))

-- the row of a packet is the row that its name names
pub row_shown : (c : Config) (m : Packet) → m.name.number < size c m.name.worker → row_of (packet_for c m) ≡ row_at c m.name
row_shown c m lt = let e = sym (side_is c m.name lt) in λ i. record { side = e i; bit = (row_at c m.name).bit; words = (row_at c m.name).words }

-- pass 1 or 2
pub is_pass : (p : ℕ) → 1 ≤ p → p ≤ 2 → IsPass p
is_pass zero a b = absurd (omega arith)
is_pass (suc zero) a b = inl refl
is_pass (suc (suc zero)) a b = inr refl
is_pass (suc (suc (suc p))) a b = absurd (omega arith)

pub passes_le : (c : Config) → passes c ≤ 2
passes_le c = go c.two_passes
  where
    go : (b : Bool) → (if b then 2 else 1) ≤ 2
    go true = omega arith
    go false = omega arith

-- the pass of a known name
pub known_pass : (c : Config) (pass : ℕ) (next : ℕ → ℕ) (x : Name) → pass ≤ passes c → IsKnown c pass next x → IsPass x.pass
known_pass c pass next x le k = is_pass x.pass k.first (omega (arith, k.begun, le, passes_le c))

-- a packet of a row or of a Fin
abbrev pub made : Bool → Row → ℕ → Packet → BytePacket
made fin r side m = record {
  kind = if fin then Fin else RowKind;
  pass = m.name.pass;
  worker = m.name.worker;
  side = side;
  number = m.name.number;
  epoch = m.epoch;
  bit = r.bit;
  words = r.words;
}

pub record IsInRange (m : Packet) (side : ℕ) : Type 0 where
  pub pass : IsPass m.name.pass
  pub side_in : side ≤ 1
  pub worker : m.name.worker < 2 ^ 16
  pub number : m.name.number < 2 ^ 32
  pub epoch : m.epoch < 2 ^ 32

fin_spelled : (m : Packet) (side : ℕ) → IsInRange m side → IsPacket (made true no_row side m)
fin_spelled m side r = record {
  writable = record { pass = r.pass; side = r.side_in; words = omega arith; bit = omega arith };
  worker = r.worker;
  number = r.number;
  epoch = r.epoch;
  words = All-nil (FitsSigned w64);
}

bit_le : (b : Bool) → (if b then 1 else 0) ≤ 1
bit_le true = omega arith
bit_le false = omega arith

row_spelled : (m : Packet) (side : ℕ) (r : Row) → IsInRange m side → length r.words ≤ 16 → All (FitsSigned w64) r.words → IsPacket (made false r side m)
row_spelled m side r in' few words = record {
  writable = record { pass = in'.pass; side = in'.side_in; words = few; bit = bit_le r.bit };
  worker = in'.worker;
  number = in'.number;
  epoch = in'.epoch;
  words = words;
}

-- a row that is there fits
pub row_fits : (g : Given) → IsPlanned g → (x : Name) → IsPass x.pass → x.worker < workers g.config → x.number < size g.config x.worker → Fits g (seen g.config x)
row_fits g p x pass w k = p.rows x.pass x.worker x.number pass w k

-- a packet of a row or a Fin that is there, of an epoch that is there, spells a packet
pub spelled_name : (g : Given) (m : Packet) → IsPlanned g → IsPass m.name.pass → m.name.worker < workers g.config → m.name.number ≤ size g.config m.name.worker → m.epoch < 2 ^ 32
    → IsPacket (packet_for g.config m)
spelled_name g m p pass worker number small =
    let c = g.config in
    let in' : IsInRange m (side_of c m.name.worker) = record {
      pass = pass;
      side_in = p.parts.sides m.name.worker;
      worker = omega (arith, worker, p.parts.many);
      number = omega (arith, number, p.parts.sizes m.name.worker worker);
      epoch = small;
    } in
    elim (cases_eq m.name.number (size c m.name.worker)) [
      | inl e ↦
          let fin : is_fin c m.name ≡ true = eq-eqb m.name.number (size c m.name.worker) e in
          rw (fin, fin_row c m.name e) (fin_spelled m (side_of c m.name.worker) in')
      | inr ne ↦
          let fin : is_fin c m.name ≡ false = ne_eqb m.name.number (size c m.name.worker) ne in
          let f = row_fits g p m.name pass worker (omega (arith, number, ne)) in
          rw fin (row_spelled m (side_of c m.name.worker) (row_at c m.name) in' f.few f.words)
    ]

-- a known packet does
pub spelled : (g : Given) (pass : ℕ) (next : ℕ → ℕ) (m : Packet) → IsPlanned g → pass ≤ passes g.config → IsKnown g.config pass next m.name → m.epoch < 2 ^ 32
    → IsPacket (packet_for g.config m)
spelled g pass next m p le k small = spelled_name g m p (known_pass g.config pass next m.name le k) k.worker k.number small

no_words : (slot : Option Slot) (width : ℕ) → IsSlot slot width → HasPlaces slot width 0
no_words None width h = omega (arith, h)
no_words (Some slot) width h = omega (arith, h.0)

pub sent_kind : (b : Bool) → (if b then Fin else RowKind) ≢ AckKind
sent_kind true e = absurd (cc)
sent_kind false e = absurd (cc)

places_for : (g : Given) (pass : ℕ) (next : ℕ → ℕ) (x : Name) → IsPlanned g → pass ≤ passes g.config → IsKnown g.config pass next x
    → HasPlaces g.slot g.program.width (length (row_at g.config x).words)
places_for g pass next x p le k = elim (cases_eq x.number (size g.config x.worker)) [
  | inl e ↦ rw (fin_row g.config x e) (no_words g.slot g.program.width p.slotted)
  | inr ne ↦ (row_fits g p x (known_pass g.config pass next x le k) k.worker (omega (arith, k.number, ne))).places
]

-- the switch may meet it
pub may_meet : (g : Given) (st : Switching) (pass : ℕ) (next : ℕ → ℕ) (m : Packet) → IsPlanned g → pass ≤ passes g.config → IsKnown g.config pass next m.name
    → st.program ≡ g.program → st.slot ≡ g.slot → st.workers ≡ workers g.config → MayMeet st (packet_for g.config m)
may_meet g st pass next m p le k program slot many = record {
  sent = sent_kind (is_fin g.config m.name);
  worker = omega (arith, many, k.worker);
  number = omega (arith, k.number, p.parts.sizes m.name.worker k.worker);
  places = rw (program, slot) (places_for g pass next m.name p le k);
}

-- a packet that is a row's names a row
pub row_is_there : (c : Config) (m : Packet) (last : ℕ) → is_row_of last (packet_for c m) ≡ true → m.name.number ≤ size c m.name.worker → m.name.number < size c m.name.worker
row_is_there c m last t le = elim (cases_eq m.name.number (size c m.name.worker)) [
  | inl e ↦
      let fin : is_fin c m.name ≡ true = eq-eqb m.name.number (size c m.name.worker) e in
      let no : is_row_of last (packet_for c m) ≡ false = ap (λ (b : Bool). is_row (if b then Fin else RowKind) && (m.name.pass == last)) fin in
      absurd (cc (sym no ∙ t))
  | inr ne ↦ omega (arith, le, ne)
]
