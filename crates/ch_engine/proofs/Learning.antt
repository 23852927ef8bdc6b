-- A worker learns of an acknowledgement.
use Rattle.std.proofs.Common.{◌≡◌, ℕ, ◌<◌, ◌≤◌, Bool, true, false, List, length, map, remove, refl, ap, sym, ◌∙◌, arith, subst, Vec, Global}
use Rattle.std.specs.Prelude.{if◌then◌else◌, slice_get, slice_index_or, Option, Some, None}
use Rattle.std.proofs.lemmas.List.{length-set}
use Rattle.ch_packet.specs.declared.packet.Packet.{Packet as BytePacket}
use Rattle.ch_packet.specs.Packet.{IsPacket}
use Rattle.ch_packet.specs.Spelling.{spelling}
use Rattle.ch_ends.specs.Worker.{Progress}
use Rattle.ch_links.specs.Held.{Held}
use Rattle.ch_links.specs.Spelled.{Learns}
use Rattle.ch_protocol.specs.Sets.{set_at}
use Rattle.ch_protocol.specs.Packets.{Ack}
use Rattle.ch_protocol.specs.Sender.{is_current, acknowledge, is_done}
use Rattle.ch_protocol.specs.Machine.{Config, State, size, workers, learn, learn_at}
use Rattle.ch_protocol.specs.Machine.How.{Take, Keep, Lose}
use Rattle.ch_protocol.specs.Invariant.{IsSound}
use Rattle.ch_protocol.specs.Fates.{back_fate}
use Rattle.ch_protocol.specs.declared.fate.NoteFate.TheVariants.{Taken, Ignored, Lost}
use Rattle.ch_protocol.proofs.Tests.{least-le}
use Rattle.ch_survival.specs.Given.{Given, IsPlanned}
use Rattle.ch_ends.specs.Packets.{ack_for, ack_bytes}
use Rattle.ch_stands.specs.Parties.{WorkersStand, first_undone}
use Rattle.ch_stands.specs.Team.{is_over}
use Rattle.ch_stands.proofs.Lists.{at_place, link_lift}
use Rattle.ch_stands.proofs.Places.{AckAt, only_ack}
use Rattle.ch_stands.proofs.Learning.{learned, open_found, done_still}
use Rattle.ch_engine.specs.declared.engine.Engine.{Engine}
use Rattle.ch_engine.specs.Stands.{Stands, learn_there, note_learned}

-- the worker of an acknowledgement is there
pub learns_there : (g : Given) (x : Engine) (s : State) (i : ℕ) (bytes : List ℕ) (u : AckAt g s i bytes) → Stands g x s
    → (b : BytePacket) → IsPacket b → bytes ≡ spelling b → b.worker < length x.workers.items
learns_there g x s i bytes u h b is e =
    subst (λ (q : BytePacket). q.worker < length x.workers.items) (only_ack g s i bytes u b is e) (omega (arith, h.workers_are.many, u.on.known.worker))

-- the run after a worker learned
pub learned_stands : (g : Given) (x : Engine) (s : State) (i : ℕ) (bytes : List ℕ) (stays : Bool) (u : AckAt g s i bytes) (ws : Vec Progress Global) (back : Held) (first : ℕ)
    → IsSound g.config s → Stands g x s → Learns x.workers.items ws.items (ack_for u.a)
    → back.packets ≡ (if stays then x.back.packets else remove x.back.packets i)
    → first ≤ length ws.items → ((w : ℕ) (d : Progress) → x.first_open ≤ w → w < first → is_over (slice_index_or ws.items w d) ≡ true) → ((d : Progress) → first < length ws.items → is_over (slice_index_or ws.items first d) ≡ false)
    → Stands g (record x { workers = ws; back = back; first_open = first }) (learn_there g.config s i stays (slice_get s.back i))
learned_stands g x s i bytes stays u ws back first sound h l b le over here =
    let c = g.config in
    let a = u.a in
    let new = learned g.config s a x.workers.items ws.items sound h.workers_are u.on l in
    let links = link_lift ack_bytes s.back i stays x.back.packets back.packets b h.back in
    let found : first ≡ first_undone c (learn s a).acked = open_found c ws.items s.pass s.epoch s.next (learn s a).acked x.first_open first new
    (λ w lt in'. done_still c s a w (omega (arith, lt, h.first))) le over here l.worker in
    rw u.is (go (is_current s.pass s.epoch a.name.pass a.epoch) refl new links found)
  where
    y : Engine
    y = record x { workers = ws; back = back; first_open = first }

    s' : State
    s' = record s { back = if stays then s.back else remove s.back i }

    after : Bool → State → State
    after d t = if d then record t { acked = set_at u.a.name.worker (acknowledge u.a.name.number (t.acked u.a.name.worker)) t.acked } else t

    go : (d : Bool) → is_current s.pass s.epoch u.a.name.pass u.a.epoch ≡ d → WorkersStand g.config ws.items s.pass s.epoch s.next (after d s).acked
        → back.packets ≡ map ack_bytes (if stays then s.back else remove s.back i) → first ≡ first_undone g.config (after d s).acked → Stands g y (after d s')
    go true e new links found = record {
      parts = h.parts;
      kind = h.kind;
      folded = h.folded;
      pass = h.pass;
      workers_are = new;
      first = found;
      switch = h.switch;
      master = h.master;
      up = h.up;
      down = h.down;
      back = links;
      fold = h.fold;
      counts = h.counts;
      room = h.room;
    }
    go false e new links found = record {
      parts = h.parts;
      kind = h.kind;
      folded = h.folded;
      pass = h.pass;
      workers_are = new;
      first = found;
      switch = h.switch;
      master = h.master;
      up = h.up;
      down = h.down;
      back = links;
      fold = h.fold;
      counts = h.counts;
      room = h.room;
    }

pub learned_note : (g : Given) (x : Engine) (s : State) (i : ℕ) (bytes : List ℕ) (u : AckAt g s i bytes) (b : Bool) (epoch : ℕ) → Stands g x s → epoch ≡ x.switch.epoch
    → b ≡ is_current x.pass epoch u.a.name.pass u.a.epoch → (if b then Taken else Ignored) ≡ note_learned s (slice_get s.back i)
learned_note g x s i bytes u b epoch h e is = rw (u.is, is, e, h.switch.epoch_is, h.pass) refl

pub first_within : (g : Given) (x : Engine) (s : State) (ws : List Progress) (p : BytePacket) → Stands g x s → Learns x.workers.items ws p → x.first_open ≤ length ws
first_within g x s ws p h l =
    let le = least-le (λ w. is_done (size g.config w) (s.acked w)) (workers g.config) in
    let n : length ws ≡ length x.workers.items = ap (λ (vs : List Progress). length vs) l.is ∙ length-set x.workers.items p.worker l.worker in
    omega (arith, le, n, h.first, h.workers_are.many)

pub taken : (c : Config) (s : State) (i : ℕ) (o : Option Ack) → learn_there c s i false o ≡ learn_at s i Take o
taken c s i None = refl
taken c s i (Some m) = refl

pub kept : (c : Config) (s : State) (i : ℕ) (o : Option Ack) → learn_there c s i true o ≡ learn_at s i Keep o
kept c s i None = refl
kept c s i (Some m) = refl

pub lost_back : (g : Given) (x : Engine) (s : State) (i : ℕ) (back : Held) → Stands g x s → i < length x.back.packets → back.packets ≡ remove x.back.packets i
    → Stands g (record x { back = back }) (learn_at s i Lose (slice_get s.back i))
lost_back g x s i back h lt e =
    let a = at_place ack_bytes s.back i (subst (λ (l : List (List ℕ)). i < length l) h.back lt) in
    rw a.is (record {
      parts = h.parts;
      kind = h.kind;
      folded = h.folded;
      pass = h.pass;
      workers_are = h.workers_are;
      first = h.first;
      switch = h.switch;
      master = h.master;
      up = h.up;
      down = h.down;
      back = link_lift ack_bytes s.back i false x.back.packets back.packets e h.back;
      fold = h.fold;
      counts = h.counts;
      room = h.room;
    })

pub lost_back_note : (g : Given) (x : Engine) (s : State) (i : ℕ) → Stands g x s → i < length x.back.packets → Lost ≡ back_fate s Lose (slice_get s.back i)
lost_back_note g x s i h lt =
    let a = at_place ack_bytes s.back i (subst (λ (l : List (List ℕ)). i < length l) h.back lt) in
    rw a.is refl
