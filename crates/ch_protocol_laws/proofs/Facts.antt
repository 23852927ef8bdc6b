-- Each fact of a sound state, from its field of the invariant.
use Rattle.std.proofs.Common.{◌≡◌, ℕ, ◌<◌, ◌≤◌, List, [], ◌∷◌, ◌++◌, sym, subst, arith, inl, inr}
use Rattle.std.proofs.lemmas.Bool.{cases_eq}
use Rattle.ch_protocol.specs.Machine.{Entry, Config, State, size, workers}
use Rattle.ch_protocol.specs.Invariant.{AreLawful, MayFollow, IsFirstProcessed, IsSound, newest_number}
use Rattle.ch_protocol.proofs.Tests.{all_below-from}
use Rattle.ch_protocol_laws.specs.Always.{AreLinksKnown, IsNoEpochAbove, AreProcessedInOrder, EndBelowExpected, AreExactlyBelowExpected, IsHistoryOrdered, AreVerdictsGiven, IsFirstPassWhole, AreOtherPassesExpected, IsExpectedSent, AreReceivedOnce, IsDownBelowExpected, AreAcksTrue, AreAckedSettled, IsPrunedInFirstEpoch, IsFinLast, numbers_of}
use Rattle.ch_protocol_laws.proofs.Entries.{lawful_at}
use Rattle.ch_protocol_laws.proofs.Numbers.{shape_of, consecutive_by, ends_by}

lawful_middle : (c : Config) (later before : List Entry) (x : Entry) → AreLawful c (later ++ x ∷ before) → MayFollow c before x
lawful_middle c [] before x l = l.0
lawful_middle c (z ∷ later) before x l = lawful_middle c later before x l.1

module _ (c : Config) (s : State) (i : IsSound c s) where
  pub links_known : AreLinksKnown c s
  links_known = record { up = λ m h. (i.up m h).known; down = λ m h. (i.down m h).known; back = λ a h. (i.back a h).known }

  pub no_epoch_above : IsNoEpochAbove s
  no_epoch_above = record { up = λ m h. (i.up m h).past; down = λ m h. (i.down m h).past; back = λ a h. (i.back a h).past; processed = λ y h. (i.entries y h).past }

  pub processed_in_order : AreProcessedInOrder s
  processed_in_order p w e = consecutive_by (numbers_of s.processed p w e) (newest_number s.processed p w e) (shape_of c s.processed i.lawful p w e)

  pub end_below_expected : EndBelowExpected c s
  end_below_expected w h = ends_by (numbers_of s.processed s.pass w s.epoch) (newest_number s.processed s.pass w s.epoch) _ (shape_of c s.processed i.lawful s.pass w s.epoch) (i.latest w h)

  below_here : s.epoch ≡ 0 → (p w k : ℕ) → IsFirstProcessed p w k s.processed → (1 ≤ p) × (w < workers c) × (k < s.expected p w) × (k < size c w)
  below_here e p w k h =
      let g = i.entries _ h.1 in
      let row : k < size c w = (lawful_at c s.processed _ i.lawful h.1).1.row in
      let expected : k < s.expected p w = elim (cases_eq p s.pass) [
        | inl q ↦ subst (λ (n : ℕ). k < s.expected n w) (sym q) (g.below q (sym e))
        | inr ne ↦ omega (arith, row, i.numbered.earlier p w g.known.first (omega (arith, g.known.begun)) g.known.worker)
      ] in
      (g.known.first, g.known.worker, expected, row)

  pub exactly_below_expected : AreExactlyBelowExpected c s
  exactly_below_expected e p w k = (below_here e p w k, λ h. i.complete e p w k h.2 h.3)

  may_follow : (later before : List Entry) (x : Entry) → s.processed ≡ later ++ x ∷ before → MayFollow c before x
  may_follow later before x e = lawful_middle c later before x (subst (λ (ys : List Entry). AreLawful c ys) e i.lawful)

  pub history_ordered : IsHistoryOrdered s
  history_ordered later before x e y h = let m = may_follow later before x e in (m.epochs y h, m.passes y h)

  pub verdicts_given : AreVerdictsGiven c s
  verdicts_given later before x e = (may_follow later before x e).verdict

  pub first_pass_whole : IsFirstPassWhole c s
  first_pass_whole x h two t w k a b =
      let r = lawful_at c s.processed x i.lawful h in
      let q = r.1.after_whole two t w k a b in
      (q.0, r.2 _ q.1)

  pub other_passes_expected : AreOtherPassesExpected c s
  other_passes_expected = record { earlier = i.numbered.earlier; later = i.numbered.later }

  pub expected_sent : IsExpectedSent c s
  expected_sent w h = (i.numbered.sent w h, i.numbered.within w h)

  pub received_once : AreReceivedOnce s
  received_once = record { once = i.once; sent = λ x h. (i.taken x h).sent }

  pub down_below_expected : IsDownBelowExpected s
  down_below_expected m h = (i.down m h).below

  pub acks_true : AreAcksTrue s
  acks_true = record { switch = λ a h. (i.back a h).switch; master = λ a h. (i.back a h).master; below = λ a h. (i.back a h).below }

  pub acked_settled : AreAckedSettled c s
  acked_settled w k h t =
      let below : k < s.expected s.pass w = i.numbered.below w k h t in
      (omega (arith, i.numbered.sent w h), below, i.settled w k h t)

  pub pruned_in_first_epoch : IsPrunedInFirstEpoch c s
  pruned_in_first_epoch two x h = (lawful_at c s.processed x i.lawful h).1.first_epoch two

  pub fin_last : IsFinLast c s
  fin_last w h lt = all_below-from (s.acked w) (size c w) (λ k l. i.numbered.ends w k h (omega (arith, i.numbered.within w h)) l)
