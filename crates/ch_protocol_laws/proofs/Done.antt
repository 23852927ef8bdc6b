-- What is settled at the last confirmation.
use Rattle.std.proofs.Common.{◌≡◌, ℕ, suc, ◌<◌, true, eqb, nat_lt, filter, IsPermutation, sym, subst, arith, eqb-true, eq-eqb, ltb-true, lt-ltb}
use Rattle.std.proofs.lemmas.Bool.{and_parts, and_from}
use Rattle.ch_lists.specs.Members.{In}
use Rattle.ch_lists.proofs.Members.{In-filter, In-filter_from, same_members, AreDifferent-filter}
use Rattle.ch_protocol.specs.Packets.{Name}
use Rattle.ch_protocol.specs.Receiver.{has}
use Rattle.ch_protocol.specs.Machine.{Config, State, size, workers, confirmed}
use Rattle.ch_protocol.specs.Received.{is_row_of}
use Rattle.ch_protocol.specs.Invariant.{IsSettled, IsSound}
use Rattle.ch_protocol.proofs.Tests.{all_below-at, any_same-true, any_same-from}
use Rattle.ch_protocol_laws.proofs.Names.{names_of, names-In, names-from, names-different}

module _ (c : Config) (s : State) (i : IsSound c s) where
  -- at a confirmation each row of the pass is settled
  pub all_settled : confirmed c s ≡ true → (x : Name) → In x (names_of c s.pass) → IsSettled s.received s.processed x
  all_settled all x h =
      let q = names-In c s.pass x h in
      let fin : size c x.worker < s.expected s.pass x.worker = i.numbered.below x.worker (size c x.worker) q.1 (all_below-at (λ w. s.acked w (size c w)) (workers c) x.worker all q.1) in
      let full : s.next x.worker ≡ suc (size c x.worker) = omega (arith, fin, i.numbered.sent x.worker q.1, i.numbered.within x.worker q.1) in
      subst (IsSettled s.received s.processed) (λ j. record { pass = (sym q.0) j; worker = x.worker; number = x.number })
      (i.settled x.worker x.number q.1 (i.numbered.ends x.worker x.number q.1 full q.2))

  -- the rows of a pass that were received, in either order
  pub received_rows : (p : ℕ) → IsPermutation (filter (is_row_of c p) s.received) (filter (has s.received) (names_of c p))
  received_rows p = same_members (filter (is_row_of c p) s.received) (filter (has s.received) (names_of c p))
      (AreDifferent-filter (is_row_of c p) s.received i.once)
      (AreDifferent-filter (has s.received) (names_of c p) (names-different c p))
      (λ x h. let q = In-filter (is_row_of c p) x s.received h in
      let r = and_parts (eqb x.pass p) (nat_lt x.number (size c x.worker)) q.1 in
      In-filter_from (has s.received) x (names_of c p)
      (names-from c p x (eqb-true x.pass p r.0) (i.taken x q.0).worker (ltb-true x.number (size c x.worker) r.1))
      (any_same-from x s.received q.0))
      (λ x h. let q = In-filter (has s.received) x (names_of c p) h in
      let r = names-In c p x q.0 in
      In-filter_from (is_row_of c p) x s.received (any_same-true x s.received q.1)
      (and_from (eqb x.pass p) (nat_lt x.number (size c x.worker)) (eq-eqb x.pass p r.0) (lt-ltb x.number (size c x.worker) r.2)))
