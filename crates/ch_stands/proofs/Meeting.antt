-- A packet meets the switch.
use Rattle.std.proofs.Common.{◌≡◌, ℕ, zero, suc, ◌+◌, ◌<◌, ◌≤◌, Bool, true, false, not, ◌&&◌, eqb, List, [], ◌∷◌, length, map, filter, refl, ap, sym, ◌∙◌, arith, inl, inr, ◌⊎◌, subst, cond}
use Rattle.std.specs.Prelude.{if◌then◌else◌, nat_lt}
use Rattle.std.proofs.lemmas.Bool.{cases_Bool, eqb-true, ne_eqb, eq-eqb, cases_eq, and_parts}
use Rattle.ch_ir.specs.Machine.{machine, Registers}
use Rattle.ch_packet.specs.declared.packet.Packet.{Packet as BytePacket}
use Rattle.ch_cover.specs.Rows.{Row}
use Rattle.ch_protocol.specs.Packets.{Name, Packet}
use Rattle.ch_protocol.specs.Machine.{Config, State, Entry, size, workers, is_fin, seen, verdict, entries_of, fate_at, noted}
use Rattle.ch_protocol.specs.Invariant.{IsSound, IsKnown}
use Rattle.ch_protocol.specs.declared.fate.Fate.{Fate}
use Rattle.ch_protocol.specs.declared.fate.Fate.TheVariants.{Dropped, Pruned, Forwarded, Passed}
use Rattle.ch_protocol.specs.Forwarder.{fate_of, is_accepted, expect_after}
use Rattle.ch_verdicts.specs.Handed.{says, leaves, handed, registers_by}
use Rattle.ch_switch.specs.Switching.{Switching, Expects, Stays, row_of, is_row, is_pruned, is_judged, runs, expected_at, registers_after}
use Rattle.ch_survival.specs.Given.{Given, IsPlanned}
use Rattle.ch_ends.specs.Packets.{packet_for}
use Rattle.ch_stands.specs.Parties.{SwitchStands, begun_in, history}
use Rattle.ch_stands.proofs.Spelled.{side_is, known_pass}
use Rattle.ch_stands.proofs.Judged.{judged}

-- what the switch's `meet` ensures of a packet
pub record Meets (old new : Switching) (fate : Fate) (p : BytePacket) : Type 0 where
  pub fate_is : fate ≡ fate_of (expected_at old p.pass p.worker) p.number (is_pruned old p)
  pub expects : (e : ℕ → ℕ → ℕ) → Expects old e → Expects new (expect_after fate p.pass p.worker e)
  pub registers_is : new.registers ≡ registers_after old fate p
  pub stays : Stays old new

-- the fate is the protocol's
pub fate_stands : (g : Given) (s : State) (old new : Switching) (fate : Fate) (m : Packet) → IsPlanned g → IsSound g.config s → IsKnown g.config s.pass s.next m.name
    → SwitchStands g old s.epoch s.expected s.processed → Meets old new fate (packet_for g.config m) → fate ≡ fate_at g.config s m.name
fate_stands g s old new fate m p i k h t =
    let e = h.expects m.name.pass m.name.worker (known_pass g.config s.pass s.next m.name i.in_range.1 k) (omega (arith, k.worker, h.workers_is)) in
    t.fate_is ∙ rw (← e, judged g s old m p i k h) refl

-- a Fin is not pruned
pruned_row : (e n : ℕ) (b : Bool) → Pruned ≡ fate_of e n b → b ≡ true
pruned_row e n true h = refl
pruned_row e n false h = go (nat_lt e n) (nat_lt n e) h
  where
    go : (a b : Bool) → Pruned ≡ (if a then Dropped else if b then Passed else Forwarded) → false ≡ true
    go true b h = absurd (cc)
    go false true h = absurd (cc)
    go false false h = absurd (cc)

-- an entry of the epoch is one more row of its history
pub history_more : (g : Given) (epoch : ℕ) (x : Name) (pruned : Bool) (before : List Entry)
    → history g epoch (record { name = x; epoch = epoch; pruned = pruned } ∷ before) ≡ seen g.config x ∷ history g epoch before
history_more g epoch x pruned before = let e : eqb epoch epoch ≡ true = eq-eqb epoch epoch refl in rw e refl

-- the registers after a row that was judged
row_left : (g : Given) (s : State) (old : Switching) (m : Packet) (pruned : Bool) → SwitchStands g old s.epoch s.expected s.processed → old.keeps ≡ false
    → m.name.number < size g.config m.name.worker
    → leaves (runs old (packet_for g.config m)) ≡ registers_by g.program g.slot (begun_in g s.epoch) (history g s.epoch (record { name = m.name; epoch = s.epoch; pruned = pruned } ∷ s.processed))
row_left g s old m pruned h keeps lt =
    rw (history_more g s.epoch m.name pruned s.processed, h.program_is, h.slot_is, h.registers_is keeps, ← side_is g.config m.name lt) refl

pub switch_stands : (g : Given) (s : State) (old new : Switching) (fate : Fate) (m : Packet) → IsPlanned g → IsSound g.config s → IsKnown g.config s.pass s.next m.name
    → SwitchStands g old s.epoch s.expected s.processed → Meets old new fate (packet_for g.config m)
    → SwitchStands g new s.epoch (expect_after fate m.name.pass m.name.worker s.expected) (noted (is_fin g.config m.name) fate s.epoch m.name s.processed)
switch_stands g s old new fate m p i k h t = record {
  program_is = t.stays.program ∙ h.program_is;
  slot_is = t.stays.slot ∙ h.slot_is;
  workers_is = t.stays.workers ∙ h.workers_is;
  epoch_is = t.stays.epoch ∙ h.epoch_is;
  small = h.small;
  keeps_is = t.stays.keeps ∙ h.keeps_is;
  expects = t.expects s.expected h.expects;
  registers_is = λ f. t.registers_is ∙ left fate (sym t.stays.keeps ∙ f) t.fate_is;
}
  where
    c : Config
    c = g.config

    left : (fate : Fate) → old.keeps ≡ false → fate ≡ fate_of (expected_at old m.name.pass m.name.worker) m.name.number (is_pruned old (packet_for c m))
        → registers_after old fate (packet_for c m) ≡ registers_by g.program g.slot (begun_in g s.epoch) (history g s.epoch (noted (is_fin c m.name) fate s.epoch m.name s.processed))
    left Dropped f e = h.registers_is f
    left Passed f e = h.registers_is f
    left Pruned f e = elim (cases_eq m.name.number (size c m.name.worker)) [
      | inl q ↦
          let fin : is_fin c m.name ≡ true = eq-eqb m.name.number (size c m.name.worker) q in
          let no : is_pruned old (packet_for c m) ≡ false = rw fin refl in
          absurd (cc (sym no ∙ pruned_row (expected_at old m.name.pass m.name.worker) m.name.number (is_pruned old (packet_for c m)) e))
      | inr ne ↦
          let fin : is_fin c m.name ≡ false = ne_eqb m.name.number (size c m.name.worker) ne in
          rw (fin, f) (row_left g s old m true h f (omega (arith, k.number, ne)))
    ]
    left Forwarded f e = elim (cases_eq m.name.number (size c m.name.worker)) [
      | inl q ↦ let fin : is_fin c m.name ≡ true = eq-eqb m.name.number (size c m.name.worker) q in rw fin (h.registers_is f)
      | inr ne ↦
          let fin : is_fin c m.name ≡ false = ne_eqb m.name.number (size c m.name.worker) ne in
          rw (fin, f) (row_left g s old m false h f (omega (arith, k.number, ne)))
    ]
