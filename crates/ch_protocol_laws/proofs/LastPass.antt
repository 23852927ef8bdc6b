-- What became of each row of the last pass, once the run has stopped.
use Rattle.std.proofs.Common.{◌≡◌, ℕ, true, eqb, refl, ap, sym, ◌∙◌, subst, arith, inl, inr, eqb-true}
use Rattle.std.proofs.lemmas.Bool.{and_parts, cond-true}
use Rattle.ch_lists.specs.Members.{In}
use Rattle.ch_protocol.specs.Packets.{Name}
use Rattle.ch_protocol.specs.Machine.{Entry, Config, State, passes, confirmed, stopped}
use Rattle.ch_protocol.specs.Invariant.{IsSound}
use Rattle.ch_protocol_laws.specs.Settled.{IsLast, AreAllSettled, AreMissingPruned, AreKeptReceived}
use Rattle.ch_protocol_laws.proofs.Names.{names-from}
use Rattle.ch_protocol_laws.proofs.Entries.{lawful_at, mark_in, processed_later}
use Rattle.ch_protocol_laws.proofs.Done.{all_settled}
use Rattle.ch_protocol_laws.proofs.Facts.{first_pass_whole}

module _ (c : Config) (s : State) (i : IsSound c s) (stop : stopped c s ≡ true) where
  last_pass : s.pass ≡ passes c
  last_pass = eqb-true s.pass (passes c) (and_parts (eqb s.pass (passes c)) (confirmed c s) stop).0

  pub are_all_settled : AreAllSettled c s
  are_all_settled x last = all_settled c s i (and_parts (eqb s.pass (passes c)) (confirmed c s) stop).1 x (names-from c s.pass x (last.pass ∙ sym last_pass) last.worker last.number)

  pub are_missing_pruned : c.two_passes ≡ true → AreMissingPruned c s
  are_missing_pruned two x last none = elim (are_all_settled x last) [
    | inl got ↦ absurd (none got)
    | inr m ↦
        let y = mark_in s.processed x true m in
        let e : y.0.epoch ≡ 0 = (lawful_at c s.processed y.0 i.lawful y.1).1.first_epoch two y.3 in
        let p : y.0.name.pass ≡ 2 = ap (λ (n : Name). n.pass) y.2 ∙ (last.pass ∙ cond-true {A = ℕ} c.two_passes 2 1 two) in
        let same : y.0 ≡ record { name = x; epoch = 0; pruned = true } = λ j. record { name = y.2 j; epoch = e j; pruned = y.3 j } in
        (subst (λ (z : Entry). In z s.processed) same y.1, first_pass_whole c s i y.0 y.1 p y.3)
  ]

  pub are_kept_received : c.two_passes ≡ true → AreKeptReceived c s
  are_kept_received two y h p f =
      let last : IsLast c y.name = record { pass = p; worker = (i.entries y h).known.worker; number = (lawful_at c s.processed y i.lawful h).1.row } in
      elim (are_all_settled y.name last) [
        | inl got ↦ got
        | inr m ↦
            let r = processed_later c s.processed y.name i.lawful m y h refl f in
            absurd (omega (arith, r.3, (lawful_at c s.processed r.0 i.lawful r.1).1.first_epoch two r.4))
      ]
