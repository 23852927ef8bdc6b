-- A worker learns of an acknowledgement.
use Rattle.std.proofs.Common.{◌≡◌, ℕ, zero, suc, ◌+◌, ◌<◌, ◌≤◌, Bool, true, false, ◌&&◌, List, [], ◌∷◌, length, refl, ap, sym, ◌∙◌, arith, inl, inr, subst, eqb, eqb-true}
use Rattle.std.specs.Prelude.{if◌then◌else◌, nat_lt, slice_index_or, slice_set}
use Rattle.std.proofs.lemmas.Bool.{cases_Bool, cases_eq, cases_lt, lt-ltb, and_parts}
use Rattle.std.proofs.lemmas.List.{length-set}
use Rattle.ch_packet.specs.declared.packet.Packet.{Packet as BytePacket}
use Rattle.ch_ends.specs.Worker.{Progress, IsAt, acked_of}
use Rattle.ch_links.specs.Spelled.{Learns}
use Rattle.ch_protocol.specs.Sets.{least, set_at}
use Rattle.ch_protocol.specs.Packets.{Ack}
use Rattle.ch_protocol.specs.Sender.{is_current, acknowledge, is_done}
use Rattle.ch_protocol.specs.Machine.{Config, State, size, workers, learn}
use Rattle.ch_protocol.specs.Invariant.{IsSound, IsOnBack}
use Rattle.ch_protocol.proofs.Tests.{set_at-same, set_at-other, least-le, least-below}
use Rattle.ch_ends.specs.Packets.{ack_for}
use Rattle.ch_stands.specs.Parties.{WorkersStand, first_undone}
use Rattle.ch_stands.specs.Team.{is_over}
use Rattle.ch_stands.proofs.Progressing.{workers_set, acked_same}

-- what a worker makes of its acknowledged numbers is what the state makes of them
pub changed_at : (x y : Progress) (rows window pass epoch next : ℕ) (acked : ℕ → Bool) (f : (ℕ → Bool) → ℕ → Bool) → IsAt x rows window pass epoch next acked
    → IsAt y x.rows x.window x.pass x.epoch x.next (f (acked_of x)) → IsAt y rows window pass epoch next (f acked)
changed_at x y rows window pass epoch next acked f h t = record {
  rows_is = t.rows_is ∙ h.rows_is;
  window_is = t.window_is ∙ h.window_is;
  pass_is = t.pass_is ∙ h.pass_is;
  epoch_is = t.epoch_is ∙ h.epoch_is;
  next_is = t.next_is ∙ h.next_is;
  acked_is = λ k. t.acked_is k ∙ ap (λ (a : ℕ → Bool). f a k) (acked_same x rows window pass epoch next acked h);
}

-- an acknowledgement of the current pass and epoch is of a number that was sent
counts_is : (c : Config) (s : State) (a : Ack) (w : Progress) → IsSound c s → IsOnBack c s.pass s.epoch s.next s.expected s.received s.processed a
    → IsAt w (size c a.name.worker) c.window s.pass s.epoch (s.next a.name.worker) (s.acked a.name.worker)
    → (is_current w.pass w.epoch a.name.pass a.epoch && nat_lt a.name.number w.next) ≡ is_current s.pass s.epoch a.name.pass a.epoch
counts_is c s a w i on at = rw (at.pass_is, at.epoch_is, at.next_is) (go (is_current s.pass s.epoch a.name.pass a.epoch) refl)
  where
    go : (b : Bool) → is_current s.pass s.epoch a.name.pass a.epoch ≡ b → (b && nat_lt a.name.number (s.next a.name.worker)) ≡ b
    go true e =
        let q = and_parts (eqb a.name.pass s.pass) (eqb a.epoch s.epoch) e in
        let k = on.below (eqb-true a.name.pass s.pass q.0) (eqb-true a.epoch s.epoch q.1) in
        lt-ltb a.name.number (s.next a.name.worker) (omega (arith, k, i.numbered.sent a.name.worker on.known.worker))
    go false e = refl

-- the workers after an acknowledgement
pub learned : (c : Config) (s : State) (a : Ack) (old ws : List Progress) → IsSound c s → WorkersStand c old s.pass s.epoch s.next s.acked → IsOnBack c s.pass s.epoch s.next s.expected s.received s.processed a
    → Learns old ws (ack_for a)
    → WorkersStand c ws s.pass s.epoch s.next (learn s a).acked
learned c s a before ws i h on l =
    let w = a.name.worker in
    let old : Progress = slice_index_or before w l.worker in
    let at = h.each w l.worker on.known.worker in
    let b = is_current s.pass s.epoch a.name.pass a.epoch in
    let f : (ℕ → Bool) → ℕ → Bool = λ acked. if b then acknowledge a.name.number acked else acked in
    let at' : IsAt l.worker old.rows old.window old.pass old.epoch old.next (f (acked_of old)) =
    subst (λ (d : Bool). IsAt l.worker old.rows old.window old.pass old.epoch old.next (if d then acknowledge a.name.number (acked_of old) else acked_of old)) (counts_is c s a old i on at) (l.at l.worker) in
    let new = changed_at old l.worker (size c w) c.window s.pass s.epoch (s.next w) (s.acked w) f at at' in
    rw l.is (go b refl new)
  where
    go : (b : Bool) → is_current s.pass s.epoch a.name.pass a.epoch ≡ b
        → IsAt l.worker (size c a.name.worker) c.window s.pass s.epoch (s.next a.name.worker) (if b then acknowledge a.name.number (s.acked a.name.worker) else s.acked a.name.worker)
        → WorkersStand c (slice_set before a.name.worker l.worker) s.pass s.epoch s.next
        (if b then record s { acked = set_at a.name.worker (acknowledge a.name.number (s.acked a.name.worker)) s.acked } else s).acked
    go true e new =
        workers_set c before s.pass s.epoch s.next s.next s.acked (set_at a.name.worker (acknowledge a.name.number (s.acked a.name.worker)) s.acked) a.name.worker l.worker h on.known.worker
        (subst (λ (acked : ℕ → Bool). IsAt l.worker (size c a.name.worker) c.window s.pass s.epoch (s.next a.name.worker) acked) (sym (set_at-same a.name.worker a.name.worker (acknowledge a.name.number (s.acked a.name.worker)) s.acked refl)) new)
        (λ v ne. (refl, set_at-other a.name.worker v (acknowledge a.name.number (s.acked a.name.worker)) s.acked ne))
    go false e new = workers_set c before s.pass s.epoch s.next s.next s.acked s.acked a.name.worker l.worker h on.known.worker new (λ v ne. (refl, refl))

-- the least number, by what holds below it and there
pub least_is : (a : ℕ → Bool) (n k : ℕ) → k ≤ n → ((i : ℕ) → i < k → a i ≡ true) → (k < n → a k ≡ false) → k ≡ least a n
unfolding least
least_is a zero k le below at = omega (arith, le)
least_is a (suc n) zero le below at = rw (at (omega arith)) refl
least_is a (suc n) (suc k) le below at =
    rw (below 0 (omega arith)) (ap suc (least_is (λ i. a (suc i)) n k (omega (arith, le)) (λ i lt. below (suc i) (omega (arith, lt))) (λ lt. at (omega (arith, lt)))))

-- a worker is over where the state says so
pub over_is : (c : Config) (ws : List Progress) (pass epoch : ℕ) (next : ℕ → ℕ) (acked : ℕ → ℕ → Bool) (w : ℕ) (d : Progress) → WorkersStand c ws pass epoch next acked → w < workers c
    → is_over (slice_index_or ws w d) ≡ is_done (size c w) (acked w)
over_is c ws pass epoch next acked w d h lt = let at = h.each w d lt in at.acked_is (slice_index_or ws w d).rows ∙ ap (acked w) at.rows_is

-- the first open worker, found from a place on before which each is over
pub open_found : (c : Config) (ws : List Progress) (pass epoch : ℕ) (next : ℕ → ℕ) (acked : ℕ → ℕ → Bool) (from k : ℕ) → WorkersStand c ws pass epoch next acked
    → ((w : ℕ) → w < from → w < workers c → is_done (size c w) (acked w) ≡ true)
    → k ≤ length ws → ((w : ℕ) (d : Progress) → from ≤ w → w < k → is_over (slice_index_or ws w d) ≡ true) → ((d : Progress) → k < length ws → is_over (slice_index_or ws k d) ≡ false)
    → (d : Progress) → k ≡ first_undone c acked
open_found c ws pass epoch next acked from k h before le over here d =
    least_is (λ w. is_done (size c w) (acked w)) (workers c) k (omega (arith, le, h.many))
    (λ w lt. elim (cases_lt w from) [
      | inl b ↦ before w b (omega (arith, lt, le, h.many))
      | inr a ↦ sym (over_is c ws pass epoch next acked w d h (omega (arith, lt, le, h.many))) ∙ over w d a lt
    ])
    (λ lt. sym (over_is c ws pass epoch next acked k d h lt) ∙ here d (omega (arith, lt, h.many)))

-- who is done stays done
pub done_still : (c : Config) (s : State) (a : Ack) (w : ℕ) → w < first_undone c s.acked → is_done (size c w) ((learn s a).acked w) ≡ true
done_still c s a w lt = go (is_current s.pass s.epoch a.name.pass a.epoch)
  where
    done : s.acked w (size c w) ≡ true
    done = least-below (λ v. is_done (size c v) (s.acked v)) (workers c) w lt

    go : (b : Bool) → (if b then record s { acked = set_at a.name.worker (acknowledge a.name.number (s.acked a.name.worker)) s.acked } else s).acked w (size c w) ≡ true
    go false = done
    go true = elim (cases_eq w a.name.worker) [
      | inl e ↦
          ap (λ (f : ℕ → Bool). f (size c w)) (set_at-same a.name.worker w (acknowledge a.name.number (s.acked a.name.worker)) s.acked e)
          ∙ elim (cases_eq (size c w) a.name.number) [
            | inl q ↦ set_at-same a.name.number (size c w) true (s.acked a.name.worker) q
            | inr nq ↦ set_at-other a.name.number (size c w) true (s.acked a.name.worker) nq ∙ (ap (λ (v : ℕ). s.acked v (size c w)) (sym e) ∙ done)
          ]
      | inr ne ↦ ap (λ (f : ℕ → Bool). f (size c w)) (set_at-other a.name.worker w (acknowledge a.name.number (s.acked a.name.worker)) s.acked ne) ∙ done
    ]

-- what the search for the first open worker found
pub record Found (ws : List Progress) (from k : ℕ) : Type 0 where
  pub most : k ≤ length ws
  pub over : (w : ℕ) (d : Progress) → from ≤ w → w < k → is_over (slice_index_or ws w d) ≡ true
  pub here : (d : Progress) → k < length ws → is_over (slice_index_or ws k d) ≡ false

pub found_here : (lent ws : List Progress) (from k : ℕ) → lent ≡ ws → k ≤ length lent → ((w : ℕ) (d : Progress) → from ≤ w → w < k → is_over (slice_index_or lent w d) ≡ true)
    → ((d : Progress) → k < length lent → is_over (slice_index_or lent k d) ≡ false) → Found ws from k
found_here lent ws from k e most over here = subst (λ (vs : List Progress). Found vs from k) e (record { most = most; over = over; here = here })
