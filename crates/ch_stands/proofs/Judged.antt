-- The program's verdict on a packet is the protocol's.
use Rattle.std.proofs.Common.{◌≡◌, ℕ, zero, suc, ◌+◌, ◌<◌, ◌≤◌, Bool, true, false, not, ◌&&◌, eqb, List, [], ◌∷◌, length, map, filter, refl, ap, sym, ◌∙◌, arith, inl, inr, ◌⊎◌, subst, cond}
use Rattle.std.specs.Prelude.{if◌then◌else◌, nat_lt}
use Rattle.std.proofs.lemmas.Bool.{cases_Bool, eqb-true, ne_eqb, eq-eqb, cases_eq}
use Rattle.ch_ir.specs.Machine.{cleared, machine}
use Rattle.ch_lists.specs.Members.{In}
use Rattle.ch_cover.specs.Rows.{Row}
use Rattle.ch_protocol.specs.Packets.{Name, Packet}
use Rattle.ch_protocol.specs.Machine.{Config, State, Entry, size, workers, passes, row_at, is_fin, seen, verdict, entries_of}
use Rattle.ch_protocol.specs.Invariant.{IsSound, IsKnown, AreLawful, IsProcessed}
use Rattle.ch_lists.proofs.Members.{In-map, In-filter}
use Rattle.ch_verdicts.specs.Agrees.{Agrees, ArePassed, IsTaken}
use Rattle.ch_verdicts.specs.Handed.{IsPass, says, handed, registers_by}
use Rattle.ch_switch.specs.Switching.{Switching, row_of, is_row, is_pruned}
use Rattle.ch_survival.specs.Given.{Given, IsPlanned, Fits}
use Rattle.ch_ends.specs.Packets.{packet_for}
use Rattle.ch_stands.specs.Parties.{SwitchStands, begun_in, history}
use Rattle.ch_stands.proofs.Spelled.{row_fits, side_is, known_pass}

-- an entry is of a row
lawful_row : (c : Config) (es : List Entry) (y : Entry) → AreLawful c es → In y es → y.name.number < size c y.name.worker
lawful_row c [] y l h = absurd h
lawful_row c (x ∷ es) y l (inl e) = subst (λ (z : Entry). z.name.number < size c z.name.worker) (sym e) l.0.row
lawful_row c (x ∷ es) y l (inr h) = lawful_row c es y l.1 h

-- the rows that were processed are rows of the workers
pub history_passed : (g : Given) (s : State) → IsPlanned g → IsSound g.config s → ArePassed g.is_row (history g s.epoch s.processed)
history_passed g s p i x h =
    let m = In-map (λ (y : Entry). seen g.config y.name) x (entries_of s.epoch s.processed) h in
    let f = In-filter (λ (y : Entry). eqb y.epoch s.epoch) m.0 s.processed m.1 in
    let k = (i.entries m.0 f.0).known in
    let fits = row_fits g p m.0.name (known_pass g.config s.pass s.next m.0.name i.in_range.1 k) k.worker (lawful_row g.config s.processed m.0 i.lawful f.0) in
    subst (IsTaken g.is_row) (sym m.2) (fits.pass, fits.row)

-- in each epoch the program's verdicts are the policy's
pub agrees : (g : Given) (epoch : ℕ) → IsPlanned g → Agrees g.is_row g.program g.slot (begun_in g epoch) g.config.prunes
agrees g epoch p = go (eqb epoch 0)
  where
    go : (b : Bool) → Agrees g.is_row g.program g.slot (if b then g.begun else cleared g.program.arrays) g.config.prunes
    go true = p.begun
    go false = p.cleared

-- whether a known packet is pruned where it is the expected one
pub judged : (g : Given) (s : State) (st : Switching) (m : Packet) → IsPlanned g → IsSound g.config s → IsKnown g.config s.pass s.next m.name
    → SwitchStands g st s.epoch s.expected s.processed
    → is_pruned st (packet_for g.config m) ≡ (not (is_fin g.config m.name) && verdict g.config s.epoch s.processed m.name)
judged g s st m p i k h =
    let c = g.config in
    elim (cases_eq m.name.number (size c m.name.worker)) [
      | inl e ↦ let fin : is_fin c m.name ≡ true = eq-eqb m.name.number (size c m.name.worker) e in rw fin refl
      | inr ne ↦
          let fin : is_fin c m.name ≡ false = ne_eqb m.name.number (size c m.name.worker) ne in
          let lt : m.name.number < size c m.name.worker = omega (arith, k.number, ne) in
          elim (cases_Bool (c.two_passes && nat_lt 0 s.epoch)) [
            | inl t ↦ rw (fin, h.keeps_is, t) refl
            | inr f ↦
                rw (fin, h.keeps_is, f, h.program_is, h.slot_is, h.registers_is (h.keeps_is ∙ f), ← side_is c m.name lt)
                (let fits = row_fits g p m.name (known_pass c s.pass s.next m.name i.in_range.1 k) k.worker lt in
                agrees g s.epoch p (history g s.epoch s.processed) (seen c m.name) (history_passed g s p i) (fits.pass, fits.row))
          ]
    ]
