-- The bytes that an event's note tells.
use Rattle.std.proofs.Common.{◌≡◌, ℕ, zero, suc, ◌<◌, ◌≤◌, true, false, List, [], ◌∷◌, length, map, refl, ap, sym, ◌∙◌, arith}
use Rattle.std.specs.Prelude.{slice_get, slice_index_or, Option, Some, None, option_map}
use Rattle.std.proofs.lemmas.Bool.{lt-ltb, le-ltb}
use Rattle.ch_ends.specs.Worker.{Progress, acked_of}
use Rattle.ch_protocol.specs.Sender.{next_number, open_at}
use Rattle.ch_protocol.specs.Machine.{Config, State, can_send, workers}
use Rattle.ch_protocol.specs.Machine.Event.{Send, Resend}
use Rattle.ch_ends.specs.Packets.{packet_bytes, sent}
use Rattle.ch_stands.proofs.Progressing.{may_same, no_number, number_is, open_same}
use Rattle.ch_trace_lines.specs.Trace.{bytes_of, sent_packet}
use Rattle.ch_engine.proofs.Sending.{stands_at}
use Rattle.ch_engine.specs.declared.engine.Engine.{Engine}
use Rattle.ch_run.specs.Runs.{Begun, IsRunOf}

-- no worker of this number
pub none_there : (c : Config) (s : State) (w : ℕ) → workers c ≤ w → None ≡ bytes_of c s (Send w)
none_there c s w le = rw (le-ltb w (workers c) le) refl

pub none_again : (c : Config) (s : State) (w k : ℕ) → workers c ≤ w → None ≡ bytes_of c s (Resend w k)
none_again c s w k le = rw (le-ltb w (workers c) le) refl

-- a worker's next number
pub next_sent : (q : Begun) (x : Engine) (s : State) (w k : ℕ) (p : Progress) → IsRunOf q x s → w < length x.workers.items → p ≡ slice_index_or x.workers.items w p
    → Some k ≡ next_number p.rows p.window p.next (acked_of p) → Some (packet_bytes q.given.config (sent_packet s w k)) ≡ bytes_of q.given.config s (Send w)
next_sent q x s w k p r lt is e =
    let c = q.given.config in
    let at = stands_at q.given x s w p r.stands lt is in
    let n = number_is p.rows p.window p.next k (acked_of p) e in
    let may : can_send c s w ≡ true = sym (may_same p _ _ _ _ _ _ at) ∙ n.0 in
    let same : k ≡ s.next w = n.1 ∙ at.next_is in
    rw (lt-ltb w (workers c) (omega (arith, lt, r.stands.workers_are.many)), may) (ap (λ m. Some (packet_bytes c (sent_packet s w m))) same)

pub none_sent : (q : Begun) (x : Engine) (s : State) (w : ℕ) (p : Progress) → IsRunOf q x s → w < length x.workers.items → p ≡ slice_index_or x.workers.items w p
    → ◌≡◌ {A = Option ℕ} None (next_number p.rows p.window p.next (acked_of p)) → None ≡ bytes_of q.given.config s (Send w)
none_sent q x s w p r lt is e =
    let c = q.given.config in
    let at = stands_at q.given x s w p r.stands lt is in
    let may : can_send c s w ≡ false = sym (may_same p _ _ _ _ _ _ at) ∙ no_number p.rows p.window p.next (acked_of p) e in
    rw (lt-ltb w (workers c) (omega (arith, lt, r.stands.workers_are.many)), may) refl

-- of its open numbers the one at a place
pub open_sent : (q : Begun) (x : Engine) (s : State) (w k n : ℕ) (p : Progress) → IsRunOf q x s → w < length x.workers.items → p ≡ slice_index_or x.workers.items w p
    → Some n ≡ open_at p.next (acked_of p) k → Some (packet_bytes q.given.config (sent_packet s w n)) ≡ bytes_of q.given.config s (Resend w k)
open_sent q x s w k n p r lt is e =
    let c = q.given.config in
    let at = stands_at q.given x s w p r.stands lt is in
    let found = e ∙ open_same p _ _ _ _ _ _ k at in
    rw (lt-ltb w (workers c) (omega (arith, lt, r.stands.workers_are.many)), ← found) refl

pub none_open : (q : Begun) (x : Engine) (s : State) (w k : ℕ) (p : Progress) → IsRunOf q x s → w < length x.workers.items → p ≡ slice_index_or x.workers.items w p
    → ◌≡◌ {A = Option ℕ} None (open_at p.next (acked_of p) k) → None ≡ bytes_of q.given.config s (Resend w k)
none_open q x s w k p r lt is e =
    let c = q.given.config in
    let at = stands_at q.given x s w p r.stands lt is in
    let none : ◌≡◌ {A = Option ℕ} None (open_at (s.next w) (s.acked w) k) = e ∙ open_same p _ _ _ _ _ _ k at in
    rw (lt-ltb w (workers c) (omega (arith, lt, r.stands.workers_are.many)), ← none) refl

-- the packet of a number, with the present pass and epoch
pub spelled_now : (q : Begun) (x : Engine) (s : State) (w k epoch : ℕ) (b : List ℕ) → IsRunOf q x s → epoch ≡ x.switch.epoch → b ≡ packet_bytes q.given.config (sent x.pass w k epoch)
    → Some b ≡ Some (packet_bytes q.given.config (sent_packet s w k))
spelled_now q x s w k epoch b r e h =
    let c = q.given.config in
    ap (λ bs. Some bs) (h ∙ (ap (λ p. packet_bytes c (sent p w k epoch)) r.stands.pass ∙ ap (λ n. packet_bytes c (sent s.pass w k n)) (e ∙ r.stands.switch.epoch_is)))

get_map : {X Y : Type 0} (f : X → Y) (xs : List X) (i : ℕ) → slice_get (map f xs) i ≡ option_map f (slice_get xs i)
get_map f [] i = refl
get_map f (x ∷ xs) zero = refl
get_map f (x ∷ xs) (suc i) = get_map f xs i

-- what stands at a place of a link
pub at_link : {X : Type 0} (f : X → List ℕ) (xs : List X) (i : ℕ) (packets : List (List ℕ)) (b : Option (List ℕ)) → packets ≡ map f xs → b ≡ slice_get packets i → b ≡ option_map f (slice_get xs i)
at_link f xs i packets b p e = e ∙ (ap (λ ps. slice_get ps i) p ∙ get_map f xs i)

pub place_past : (xs : List (List ℕ)) (i : ℕ) → length xs ≤ i → None ≡ slice_get xs i
place_past [] i le = refl
place_past (x ∷ xs) zero le = absurd (omega (arith, le))
place_past (x ∷ xs) (suc i) le = place_past xs i (omega (arith, le))

pub place_there : (xs : List (List ℕ)) (i : ℕ) (b d : List ℕ) → i < length xs → b ≡ d → d ≡ slice_index_or xs i d → Some b ≡ slice_get xs i
place_there [] i b d lt e h = absurd (omega (arith, lt))
place_there (x ∷ xs) zero b d lt e h = ap (λ y. Some y) (e ∙ h)
place_there (x ∷ xs) (suc i) b d lt e h = place_there xs i b d (omega (arith, lt)) e h
