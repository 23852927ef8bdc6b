-- The master takes a packet of the link down.
use Rattle.std.proofs.Common.{◌≡◌, ℕ, suc, ◌+◌, ◌<◌, ◌≤◌, ◌==◌, Bool, true, false, not, ◌&&◌, List, [], ◌∷◌, length, refl, ap, sym, ◌∙◌, arith, inl, inr, subst}
use Rattle.std.specs.Prelude.{if◌then◌else◌, nat_lt}
use Rattle.std.proofs.lemmas.Bool.{cases_eq, eq-eqb, ne_eqb, lt-ltb, le-ltb}
use Rattle.ch_packet.specs.declared.packet.Packet.{Packet as BytePacket}
use Rattle.ch_ends.specs.Master.{Receipts, IsThere, HaveSameNumbers, holds}
use Rattle.ch_protocol.specs.Packets.{Name, Packet}
use Rattle.ch_protocol.specs.Receiver.{has, collect}
use Rattle.ch_protocol.specs.Received.{is_row_of as is_row_of_pass}
use Rattle.ch_protocol.specs.Machine.{Config, State, size, workers, passes, is_fin}
use Rattle.ch_protocol.specs.Invariant.{IsSound, IsKnown}
use Rattle.ch_links.specs.Spelled.{MayTake, Collects, name_in, is_row_of}
use Rattle.ch_survival.specs.Given.{Given}
use Rattle.ch_ends.specs.Packets.{packet_for}
use Rattle.ch_stands.specs.Parties.{MasterStands}
use Rattle.ch_stands.proofs.Spelled.{known_pass, sent_kind}

-- a known name has a bit
pub is_there : (g : Given) (s : State) (r : Receipts) (x : Name) → IsSound g.config s → IsKnown g.config s.pass s.next x → MasterStands g.config r s.received → IsThere r x
is_there g s r x i k h =
    let pass = known_pass g.config s.pass s.next x i.in_range.1 k in
    record { pass = pass; worker = omega (arith, k.worker, h.many x.pass pass); number = omega (arith, k.number, h.numbers x.pass x.worker pass k.worker) }

-- the master may take a known packet
pub may_take : (g : Given) (s : State) (r : Receipts) (m : Packet) → IsSound g.config s → IsKnown g.config s.pass s.next m.name → MasterStands g.config r s.received → MayTake r (packet_for g.config m)
may_take g s r m i k h = record { sent = sent_kind (is_fin g.config m.name); there = is_there g s r m.name i k h }

-- whether the master has the name
pub has_is : (g : Given) (s : State) (r : Receipts) (m : Packet) → IsSound g.config s → IsKnown g.config s.pass s.next m.name → MasterStands g.config r s.received → has s.received m.name ≡ holds r (name_in (packet_for g.config m))
has_is g s r m i k h = h.stands m.name (is_there g s r m.name i k h)

-- the receipts have one more name
pub master_more : (c : Config) (old new : Receipts) (x : Name) (received : List Name) → MasterStands c old received → HaveSameNumbers old new → Collects old new x → MasterStands c new (collect received x)
master_more c old new x received h same t = record {
  many = λ pass is. same.workers pass ∙ h.many pass is;
  numbers = λ pass w is lt. same.numbers pass w ∙ h.numbers pass w is lt;
  stands = t received h.stands;
}

-- whether a known packet is of a row of the last pass
pub row_in_pass : (c : Config) (m : Packet) (last : ℕ) → last ≡ passes c → m.name.number ≤ size c m.name.worker → is_row_of last (packet_for c m) ≡ is_row_of_pass c (passes c) m.name
row_in_pass c m last e le = elim (cases_eq m.name.number (size c m.name.worker)) [
  | inl q ↦
      let fin : is_fin c m.name ≡ true = eq-eqb m.name.number (size c m.name.worker) q in
      rw (fin, le-ltb m.name.number (size c m.name.worker) (omega (arith, q))) (go (m.name.pass == passes c))
  | inr ne ↦
      let fin : is_fin c m.name ≡ false = ne_eqb m.name.number (size c m.name.worker) ne in
      rw (fin, lt-ltb m.name.number (size c m.name.worker) (omega (arith, le, ne)), e) (more (m.name.pass == passes c))
]
  where
    go : (b : Bool) → false ≡ (b && false)
    go true = refl
    go false = refl

    more : (b : Bool) → b ≡ (b && true)
    more true = refl
    more false = refl
