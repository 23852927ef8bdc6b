-- The master takes a packet of the link down.
use Rattle.std.proofs.Common.{◌≡◌, ℕ, zero, suc, ◌+◌, ◌*◌, ◌<◌, ◌≤◌, ◌^◌, Bool, true, false, not, ◌&&◌, ℤ, List, [], ◌∷◌, ◌++◌, length, map, remove, reverse, filter, refl, ap, sym, ◌∙◌, arith, inl, inr, ◌⊎◌, subst, Vec, Global, vec_capacity}
use Rattle.std.specs.Prelude.{if◌then◌else◌, slice_get, slice_index_or, Option, Some, None}
use Rattle.std.proofs.lemmas.Bool.{cases_Bool}
use Rattle.ch_cover.specs.Rows.{Row}
use Rattle.ch_packet.specs.declared.packet.Packet.{Packet as BytePacket}
use Rattle.ch_packet.specs.Packet.{IsPacket}
use Rattle.ch_packet.specs.Spelling.{spelling}
use Rattle.ch_ends.specs.Master.{Receipts, HaveSameNumbers, holds}
use Rattle.ch_finish.specs.Fold.{StandsFor}
use Rattle.ch_finish.specs.declared.fold.Fold.{Fold}
use Rattle.ch_fold_lines.specs.Rows.{RowFits}
use Rattle.ch_links.specs.Held.{Held}
use Rattle.ch_links.specs.Spelled.{MayTake, Collects, name_in, is_row_of, ack_of}
use Rattle.ch_protocol.specs.Packets.{Name, Packet}
use Rattle.ch_protocol.specs.Packets.Origin.{Master}
use Rattle.ch_protocol.specs.Receiver.{has, collect}
use Rattle.ch_protocol.specs.Received.{rows_arrived, is_row_of as is_row_of_pass}
use Rattle.ch_protocol.specs.Machine.{Config, State, size, workers, passes, row_at, receive_at}
use Rattle.ch_protocol.specs.Machine.How.{Take, Keep, Lose}
use Rattle.ch_protocol.specs.Invariant.{IsSound}
use Rattle.ch_protocol.specs.Fates.{down_fate}
use Rattle.ch_protocol.specs.declared.fate.NoteFate.TheVariants.{New, Old, Lost}
use Rattle.ch_survival.specs.Given.{Given, IsPlanned}
use Rattle.ch_ends.specs.Packets.{packet_for, packet_bytes, ack_bytes}
use Rattle.ch_stands.proofs.Lists.{at_place, link_lift, link_push}
use Rattle.ch_stands.proofs.Places.{SentAt, only_at}
use Rattle.ch_stands.proofs.Spelled.{side_is, row_is_there}
use Rattle.ch_stands.proofs.Receiving.{may_take, has_is, master_more, row_in_pass}
use Rattle.ch_stands.proofs.Arriving.{arrived_more, arrived_few}
use Rattle.ch_engine.specs.declared.engine.Engine.{Engine}
use Rattle.ch_engine.specs.Stands.{Stands, AreFolded, receive_there, note_received}

-- what the master may take
pub may_take_at : (g : Given) (x : Engine) (s : State) (i : ℕ) (bytes : List ℕ) (u : SentAt g s s.down i bytes) → IsSound g.config s → Stands g x s
    → (b : BytePacket) → IsPacket b → bytes ≡ spelling b → MayTake x.master b
may_take_at g x s i bytes u sound h b is e = subst (MayTake x.master) (only_at g s s.down i bytes u b is e) (may_take g s x.master u.m sound u.known h.master)

pub last_is : (g : Given) (x : Engine) (s : State) (last : ℕ) → Stands g x s → last ≡ (if x.two_passes then 2 else 1) → last ≡ passes g.config
last_is g x s last h e = e ∙ ap (λ (two : Bool). if two then 2 else 1) h.kind

-- a row that arrives fits the fold
pub fits_at : (g : Given) (x : Engine) (s : State) (i : ℕ) (bytes : List ℕ) (u : SentAt g s s.down i bytes) (last : ℕ) → Stands g x s → last ≡ (if x.two_passes then 2 else 1)
    → (b : BytePacket) → IsPacket b → bytes ≡ spelling b → is_row_of last b ≡ true → RowFits x.ranks.now x.bound.now b.side b.words
fits_at g x s i bytes u last h l b is e t =
    let c = g.config in
    let q = only_at g s s.down i bytes u b is e in
    let t' : is_row_of last (packet_for c u.m) ≡ true = ap (is_row_of last) q ∙ t in
    let lt : u.m.name.number < size c u.m.name.worker = row_is_there c u.m last t' u.known.number in
    subst (λ (p : BytePacket). RowFits x.ranks.now x.bound.now p.side p.words) q
    (subst (λ (side : ℕ). RowFits x.ranks.now x.bound.now side (row_at c u.m.name).words) (side_is c u.m.name lt) (h.folded.fits u.m.name.pass u.m.name.worker u.m.name.number u.known.worker lt))

-- the fold has room for one more row
pub few_rows : (g : Given) (x : Engine) (s : State) → IsPlanned g → IsSound g.config s → Stands g x s
    → (rows : List Row) × StandsFor x.ranks.now x.bound.now x.fold rows × (length rows < 2 ^ 63)
few_rows g x s p sound h = (rows_arrived g.config (passes g.config) s.received, h.fold, arrived_few g.config s (passes g.config) p.parts sound)

-- the fold after a packet
pub folded_more : (g : Given) (x : Engine) (s : State) (i : ℕ) (bytes : List ℕ) (u : SentAt g s s.down i bytes) (last : ℕ) (fold : Fold) → IsSound g.config s → Stands g x s → last ≡ (if x.two_passes then 2 else 1)
    → ((p : BytePacket) → IsPacket p → bytes ≡ spelling p → (rows : List Row) (r : Row) → StandsFor x.ranks.now x.bound.now x.fold rows → r.side ≡ p.side → r.words ≡ p.words
    → StandsFor x.ranks.now x.bound.now fold (if is_row_of last p && not (holds x.master (name_in p)) then rows ++ r ∷ [] else rows))
    → StandsFor x.ranks.now x.bound.now fold (rows_arrived g.config (passes g.config) (collect s.received u.m.name))
folded_more g x s i bytes u last fold sound h l f =
    let c = g.config in
    let rows = rows_arrived c (passes c) s.received in
    let r : Row = record (row_at c u.m.name) { side = (packet_for c u.m).side } in
    let new = f (packet_for c u.m) u.packet u.bytes_is rows r h.fold refl refl in
    let has' : holds x.master (name_in (packet_for c u.m)) ≡ has s.received u.m.name = sym (has_is g s x.master u.m sound u.known h.master) in
    let row : is_row_of last (packet_for c u.m) ≡ is_row_of_pass c (passes c) u.m.name = row_in_pass c u.m last (last_is g x s last h l) u.known.number in
    subst (λ (xs : List Row). StandsFor x.ranks.now x.bound.now fold xs)
    (ap (λ (b : Bool). if is_row_of last (packet_for c u.m) && not b then rows ++ r ∷ [] else rows) has' ∙ (ap (λ (b : Bool). if b && not (has s.received u.m.name) then rows ++ r ∷ [] else rows) row ∙ arrived_more c (passes c) s.received u.m.name r refl (λ lt. sym (side_is c u.m.name lt))))
    new

pub received_stands : (g : Given) (x : Engine) (s : State) (i : ℕ) (bytes : List ℕ) (stays : Bool) (u : SentAt g s s.down i bytes) (last : ℕ) (master : Receipts) (fold : Fold) (down back old : Held) (arriving : Vec ℤ Global) (b : List ℕ)
    → IsSound g.config s → Stands g x s → last ≡ (if x.two_passes then 2 else 1)
    → HaveSameNumbers x.master master → Collects x.master master (name_in (packet_for g.config u.m))
    → ((p : BytePacket) → IsPacket p → bytes ≡ spelling p → (rows : List Row) (r : Row) → StandsFor x.ranks.now x.bound.now x.fold rows → r.side ≡ p.side → r.words ≡ p.words
    → StandsFor x.ranks.now x.bound.now fold (if is_row_of last p && not (holds x.master (name_in p)) then rows ++ r ∷ [] else rows))
    → down.packets ≡ (if stays then x.down.packets else remove x.down.packets i)
    → back.packets ≡ old.packets ++ b ∷ [] → old.packets ≡ x.back.packets → b ≡ spelling (ack_of (packet_for g.config u.m) 1 u.m.epoch)
    → vec_capacity arriving ≡ vec_capacity x.arriving
    → Stands g (record x { master = master; fold = fold; down = down; back = back; arriving = arriving }) (receive_there g.config s i stays (slice_get s.down i))
received_stands g x s i bytes stays u last master fold down back old arriving b sound h l numbers t f d k o is room =
    let c = g.config in
    rw u.is (record {
      parts = h.parts;
      kind = h.kind;
      folded = h.folded;
      pass = h.pass;
      workers_are = h.workers_are;
      first = h.first;
      switch = h.switch;
      master = master_more c x.master master u.m.name s.received h.master numbers t;
      up = h.up;
      down = link_lift (packet_bytes c) s.down i stays x.down.packets down.packets d h.down;
      back = link_push ack_bytes s.back (record { origin = Master; name = u.m.name; epoch = u.m.epoch }) old.packets back.packets b k (o ∙ h.back) is;
      fold = folded_more g x s i bytes u last fold sound h l f;
      counts = h.counts;
      room = rw room h.room;
    })

pub received_note : (g : Given) (x : Engine) (s : State) (i : ℕ) (bytes : List ℕ) (u : SentAt g s s.down i bytes) (b : Bool) → IsSound g.config s → Stands g x s → b ≡ not (holds x.master (name_in (packet_for g.config u.m)))
    → (if b then New else Old) ≡ note_received s (slice_get s.down i)
received_note g x s i bytes u b sound h e = rw (u.is, e, ← has_is g s x.master u.m sound u.known h.master) (go (has s.received u.m.name))
  where
    go : (a : Bool) → (if not a then New else Old) ≡ (if a then Old else New)
    go true = refl
    go false = refl

pub took : (c : Config) (s : State) (i : ℕ) (o : Option Packet) → receive_there c s i false o ≡ receive_at s i Take o
took c s i None = refl
took c s i (Some m) = refl

pub kept : (c : Config) (s : State) (i : ℕ) (o : Option Packet) → receive_there c s i true o ≡ receive_at s i Keep o
kept c s i None = refl
kept c s i (Some m) = refl

pub lost_down : (g : Given) (x : Engine) (s : State) (i : ℕ) (down : Held) → Stands g x s → i < length x.down.packets → down.packets ≡ remove x.down.packets i
    → Stands g (record x { down = down }) (receive_at s i Lose (slice_get s.down i))
lost_down g x s i down h lt e =
    let a = at_place (packet_bytes g.config) s.down i (subst (λ (l : List (List ℕ)). i < length l) h.down lt) in
    rw a.is (record {
      parts = h.parts;
      kind = h.kind;
      folded = h.folded;
      pass = h.pass;
      workers_are = h.workers_are;
      first = h.first;
      switch = h.switch;
      master = h.master;
      up = h.up;
      down = link_lift (packet_bytes g.config) s.down i false x.down.packets down.packets e h.down;
      back = h.back;
      fold = h.fold;
      counts = h.counts;
      room = h.room;
    })

pub lost_down_note : (g : Given) (x : Engine) (s : State) (i : ℕ) → Stands g x s → i < length x.down.packets → Lost ≡ down_fate s Lose (slice_get s.down i)
lost_down_note g x s i h lt =
    let a = at_place (packet_bytes g.config) s.down i (subst (λ (l : List (List ℕ)). i < length l) h.down lt) in
    rw a.is refl
