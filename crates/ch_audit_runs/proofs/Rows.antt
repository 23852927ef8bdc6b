-- The rows that are kept are those that the master received.
use Rattle.std.proofs.Common.{◌≡◌, ◌∙◌, ◌⊎◌, ◌≤◌, ℕ, Bool, true, false, cond, List, [], ◌∷◌, ◌++◌, map, filter, reverse, refl, ap, sym, arith, inl, inr}
use Rattle.std.specs.Prelude.{◌≢◌, nat_lt, ◌==◌, ◌&&◌, if◌then◌else◌, Some}
use Rattle.std.proofs.lemmas.Bool.{cases_eq, eq-eqb, le-ltb, lt-ltb, ne_eqb}
use Rattle.std.proofs.lemmas.Grind.{reverse_onto}
use Rattle.std.proofs.lemmas.List.Elements.{filter-append}
use Rattle.ch_lists.proofs.Carried.{filter-map}
use Rattle.ch_packet.specs.declared.packet.Packet.{Packet as Sent}
use Rattle.ch_packet.specs.Packet.{IsPacket}
use Rattle.ch_packet.specs.Spelling.{spelling}
use Rattle.ch_protocol.specs.Machine.{Config, State, is_fin, size, step, stopped}
use Rattle.ch_protocol.specs.declared.fate.NoteFate.{NoteFate}
use Rattle.ch_protocol.specs.declared.fate.NoteFate.TheVariants.{Nothing, Sent as Went, Dropped, Pruned, Forwarded, Passed, New, Old, Taken, Ignored, Lost, Injected, Restarted}
use Rattle.ch_protocol.specs.Packets.{Name, Packet}
use Rattle.ch_protocol.specs.Received.{names_arrived}
use Rattle.ch_schedule.specs.Event.{event_of}
use Rattle.ch_schedule.specs.declared.step.Step.{Step}
use Rattle.ch_ends.specs.Packets.{packet_for}
use Rattle.ch_trace_lines.specs.Trace.{noted_at}
use Rattle.ch_trace_lines.specs.declared.line.Noted.{Noted}
use Rattle.ch_trace_laws.specs.Sendable.{IsSendable}
use Rattle.ch_trace_laws.proofs.Arrivals.{came, others}
use Rattle.ch_audit_runs.specs.Arrivals.{AreKept, listed, name_of, row_in, rows_named}
use Rattle.ch_audit_runs.specs.declared.arrival.Arrival.{Arrival}

map_both : (a b : List Arrival) → map name_of (a ++ b) ≡ map name_of a ++ map name_of b
map_both [] b = refl
map_both (x ∷ a) b = ap (λ ns. name_of x ∷ ns) (map_both a b)

-- one more name
named_more : (c : Config) (x : Name) (received : List Name) → rows_named c (x ∷ received) ≡ rows_named c received ++ (if nat_lt x.number (size c x.worker) then x ∷ [] else [])
named_more c x received = ap (filter (λ y. nat_lt y.number (size c y.worker))) (reverse_onto received x []) ∙ filter-append (λ y. nat_lt y.number (size c y.worker)) (reverse received) (x ∷ [])

row_name : (c : Config) (m : Packet) → m.name.number ≤ size c m.name.worker → map name_of (listed (row_in (packet_for c m))) ≡ (if nat_lt m.name.number (size c m.name.worker) then m.name ∷ [] else [])
row_name c m le = elim (cases_eq m.name.number (size c m.name.worker)) [
  | inl e ↦
      let fin : is_fin c m.name ≡ true = eq-eqb m.name.number (size c m.name.worker) e in
      let none : nat_lt m.name.number (size c m.name.worker) ≡ false = le-ltb m.name.number (size c m.name.worker) (omega (arith, e)) in
      rw (fin, none) refl
  | inr ne ↦
      let fin : is_fin c m.name ≡ false = ne_eqb m.name.number (size c m.name.worker) ne in
      let some : nat_lt m.name.number (size c m.name.worker) ≡ true = lt-ltb m.name.number (size c m.name.worker) (omega (arith, le, ne)) in
      rw (fin, some) refl
]

-- a packet that is new to the master
pub kept_more : (c : Config) (s t : State) (m : Packet) (old new : List Arrival) → AreKept c s old → new ≡ old ++ listed (row_in (packet_for c m)) → m.name.number ≤ size c m.name.worker → t.received ≡ m.name ∷ s.received → AreKept c t new
kept_more c s t m old new kept e le more =
    ap (map name_of) e
    ∙ (map_both old (listed (row_in (packet_for c m)))
    ∙ (ap (λ ns. ns ++ map name_of (listed (row_in (packet_for c m)))) kept
    ∙ (ap (λ ns. rows_named c s.received ++ ns) (row_name c m le) ∙ (sym (named_more c m.name s.received) ∙ ap (rows_named c) (sym more)))))

pub kept_same : (c : Config) (s t : State) (old new : List Arrival) → AreKept c s old → new ≡ old → t.received ≡ s.received → AreKept c t new
kept_same c s t old new kept e same = ap (map name_of) e ∙ (kept ∙ ap (rows_named c) (sym same))

-- the kept rows of a pass
both_tests : {X : Type 0} (p q : X → Bool) (xs : List X) → filter p (filter q xs) ≡ filter (λ x. p x && q x) xs
both_tests p q [] = refl
both_tests {X} p q (x ∷ xs) = go (both_tests p q xs) (p x) (q x) refl
  where
    go : filter p (filter q xs) ≡ filter (λ y. p y && q y) xs → (a b : Bool) → p x ≡ a → filter p (cond b (x ∷ filter q xs) (filter q xs)) ≡ cond (a && b) (x ∷ filter (λ y. p y && q y) xs) (filter (λ y. p y && q y) xs)
    go later true true e = rw e (ap (λ ys. x ∷ ys) later)
    go later false true e = rw e later
    go later true false e = later
    go later false false e = later

pub pass_kept : (c : Config) (s : State) (pass : ℕ) (rows kept : List Arrival) → AreKept c s rows → pass ≡ s.pass → kept ≡ filter (λ r. r.pass == pass) rows → map name_of kept ≡ names_arrived c s.pass s.received
pass_kept c s pass rows kept are now is =
    ap (map name_of) is
    ∙ (sym (filter-map name_of (λ x. x.pass == pass) (λ r. r.pass == pass) (λ r. refl) rows)
    ∙ (ap (filter (λ x. x.pass == pass)) are
    ∙ (both_tests (λ x. x.pass == pass) (λ x. nat_lt x.number (size c x.worker)) (reverse s.received) ∙ ap (λ p. names_arrived c p s.received) now)))

-- whether a fate is that of a packet which is new to the master
new_or_not : (f : NoteFate) → (f ≡ New) ⊎ (f ≢ New)
new_or_not Nothing = inr (λ e. cc)
new_or_not Went = inr (λ e. cc)
new_or_not Dropped = inr (λ e. cc)
new_or_not Pruned = inr (λ e. cc)
new_or_not Forwarded = inr (λ e. cc)
new_or_not Passed = inr (λ e. cc)
new_or_not New = inl refl
new_or_not Old = inr (λ e. cc)
new_or_not Taken = inr (λ e. cc)
new_or_not Ignored = inr (λ e. cc)
new_or_not Lost = inr (λ e. cc)
new_or_not Injected = inr (λ e. cc)
new_or_not Restarted = inr (λ e. cc)

-- what is kept behind a step
pub kept_after : (c : Config) (s : State) (x : Step) (found : Noted) (old new : List Arrival) → IsSendable c s → stopped c s ≡ false → found ≡ noted_at c s x → AreKept c s old
    → ((p : Sent) → IsPacket p → found.bytes ≡ Some (spelling p) → found.fate ≡ New → new ≡ old ++ listed (row_in p)) → (found.fate ≢ New → new ≡ old) → AreKept c (step c s (event_of x)) new
kept_after c s x found old new is runs noted kept arrived stays =
    let fate : found.fate ≡ (noted_at c s x).fate = ap (λ (n : Noted). n.fate) noted in
    elim (new_or_not found.fate) [
      | inl e ↦
          let r = came c s is x runs (sym fate ∙ e) in
          let bytes = ap (λ (n : Noted). n.bytes) noted ∙ r.bytes_are in
          kept_more c s (step c s (event_of x)) r.packet old new kept (arrived (packet_for c r.packet) r.spelled bytes e) r.number r.received
      | inr ne ↦ kept_same c s (step c s (event_of x)) old new kept (stays ne) (others c s x runs (λ e. ne (fate ∙ e)))
    ]
