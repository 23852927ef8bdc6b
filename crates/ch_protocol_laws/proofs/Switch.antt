-- The invariant as a packet meets the switch.
use Rattle.std.proofs.Common.{◌≡◌, ℕ, zero, suc, ◌<◌, ◌≤◌, min, Bool, true, false, ◌&&◌, eqb, nat_lt, List, ◌∷◌, map, Option, Some, refl, ap, sym, ◌∙◌, subst, arith, inl, inr, ◌⊎◌, eqb-true, eq-eqb, lt-ltb}
use Rattle.std.proofs.lemmas.Bool.{cases_Bool, cases_eq, and_parts, and_from, false_from_ne_true, cond-true, cond-false}
use Rattle.ch_lists.specs.Members.{Each}
use Rattle.ch_protocol.specs.Sets.{set_at}
use Rattle.ch_protocol.specs.Packets.{Name, same_name}
use Rattle.ch_protocol.specs.Packets.Origin.{Switch}
use Rattle.ch_protocol.specs.Forwarder.{expect_next}
use Rattle.ch_protocol.specs.Machine.{Entry, Config, State, size, verdict, entries_of, seen, meet}
use Rattle.ch_protocol.specs.Invariant.{IsKnown, AreNumbered, IsSettled, IsOnBack, IsProcessed, IsSound, IsNext, IsWhole, MayFollow, newest_number, mark_of}
use Rattle.ch_protocol.proofs.Lists.{Each-push}
use Rattle.ch_protocol.proofs.Tests.{set_at-same, set_at-other, same_name-true, same_name-from}
use Rattle.ch_protocol_laws.proofs.Links.{go_down_sound, with_back}
use Rattle.ch_protocol_laws.proofs.Meets.{meet_cases}

-- the mark of another name stays
pub mark-other : (y : Entry) (ys : List Entry) (x : Name) → (y.name ≡ x → ⊥) → mark_of (y ∷ ys) x ≡ mark_of ys x
mark-other y ys x ne = cond-false (same_name y.name x) (Some y.pruned) (mark_of ys x) (false_from_ne_true (same_name y.name x) (λ t. ne (same_name-true y.name x t)))

-- no row is pruned after a restart in a kind of two passes
pub kept_later : (c : Config) (epoch : ℕ) (before : List Entry) (x : Name) → c.two_passes ≡ true → verdict c epoch before x ≡ true → epoch ≡ 0
kept_later c zero before x two t = refl
kept_later c (suc epoch) before x two t = absurd (cc (sym (cond-true (c.two_passes && nat_lt 0 (suc epoch)) false (c.prunes (map (λ y. seen c y.name) (entries_of (suc epoch) before)) (seen c x)) (and_from c.two_passes (nat_lt 0 (suc epoch)) two (lt-ltb 0 (suc epoch) (omega arith)))) ∙ t))

-- the next number of the flow is expected
abbrev expecting : State → Name → State
expecting s x = record s { expected = expect_next x.pass x.worker s.expected }

-- the row is processed
abbrev noting : State → Name → Bool → State
noting s x pruned = record s { processed = record { name = x; epoch = s.epoch; pruned = pruned } ∷ s.processed }

-- the packet x is the one that the switch expects
module _ (c : Config) (s : State) (i : IsSound c s) (x : Name) (known : IsKnown c s.pass s.next x) (is : s.expected x.pass x.worker ≡ x.number) where
  abbrev expected' : ℕ → ℕ → ℕ
  expected' = expect_next x.pass x.worker s.expected

  at_pass : (q v : ℕ) → (q ≡ x.pass → ⊥) → expected' q v ≡ s.expected q v
  at_pass q v ne = ap (λ (f : ℕ → ℕ). f v) (set_at-other x.pass q (set_at x.worker (suc (s.expected x.pass x.worker)) (s.expected x.pass)) s.expected ne)

  at_worker : (q v : ℕ) → q ≡ x.pass → (v ≡ x.worker → ⊥) → expected' q v ≡ s.expected q v
  at_worker q v e ne = ap (λ (f : ℕ → ℕ). f v) (set_at-same x.pass q (set_at x.worker (suc (s.expected x.pass x.worker)) (s.expected x.pass)) s.expected e) ∙ (set_at-other x.worker v (suc (s.expected x.pass x.worker)) (s.expected x.pass) ne ∙ ap (λ p. s.expected p v) (sym e))

  here : (q v : ℕ) → q ≡ x.pass → v ≡ x.worker → expected' q v ≡ suc x.number
  here q v e f = ap (λ (g : ℕ → ℕ). g v) (set_at-same x.pass q (set_at x.worker (suc (s.expected x.pass x.worker)) (s.expected x.pass)) s.expected e) ∙ (set_at-same x.worker v (suc (s.expected x.pass x.worker)) (s.expected x.pass) f ∙ ap suc is)

  -- the flow of x, or another one
  flows : (q v : ℕ) → ((q ≡ x.pass) × (v ≡ x.worker) × (s.expected q v ≡ x.number) × (expected' q v ≡ suc x.number)) ⊎ (expected' q v ≡ s.expected q v)
  flows q v = elim (cases_eq q x.pass) [
    | inl e ↦ elim (cases_eq v x.worker) [
      | inl f ↦ inl (e, f, ap (λ p. s.expected p v) e ∙ (ap (s.expected x.pass) f ∙ is), here q v e f)
      | inr ne ↦ inr (at_worker q v e ne)
    ]
    | inr ne ↦ inr (at_pass q v ne)
  ]

  more : (q v : ℕ) → s.expected q v ≤ expected' q v
  more q v = elim (flows q v) [ inl f ↦ omega (arith, f.2, f.3) | inr e ↦ omega (arith, e) ]

  -- an earlier pass is over, so x is of the present one
  present : x.pass ≡ s.pass
  present = elim (cases_eq x.pass s.pass) [
    | inl e ↦ e
    | inr ne ↦ absurd (omega (arith, i.numbered.earlier x.pass x.worker known.first (omega (arith, known.begun)) known.worker, known.number))
  ]

  numbered' : AreNumbered c s.pass s.next s.acked expected'
  numbered' = record {
    within = i.numbered.within;
    sent = λ v h. elim (flows s.pass v) [
      | inl f ↦ omega (arith, f.3, known.sent present, ap s.next f.1)
      | inr e ↦ omega (arith, e, i.numbered.sent v h)
    ];
    earlier = λ q v first lt h. at_pass q v (λ e. omega (arith, present)) ∙ i.numbered.earlier q v first lt h;
    later = λ q v lt. at_pass q v (λ e. omega (arith, present)) ∙ i.numbered.later q v lt;
    below = λ v k h t. omega (arith, i.numbered.below v k h t, more s.pass v);
    ends = i.numbered.ends;
  }

  -- x is the Fin of its worker
  pub end_sound : x.number ≡ size c x.worker → IsSound c (expecting s x)
  end_sound end = record {
    in_range = i.in_range;
    settled = i.settled;
    up = i.up;
    lawful = i.lawful;
    taken = i.taken;
    once = i.once;
    numbered = numbered';
    down = λ m h. let g = i.down m h in record { known = g.known; past = g.past; below = λ e f. omega (arith, g.below e f, more s.pass m.name.worker) };
    back = λ a h. let g = i.back a h in record { known = g.known; past = g.past; below = λ e f. omega (arith, g.below e f, more s.pass a.name.worker); master = g.master; switch = g.switch; settled = g.settled };
    entries = λ y h. let g = i.entries y h in record { known = g.known; past = g.past; below = λ e f. omega (arith, g.below e f, more s.pass y.name.worker) };
    latest = λ v h.
        let same : min (s.expected s.pass v) (size c v) ≡ min (expected' s.pass v) (size c v) = elim (flows s.pass v) [
          | inl f ↦ omega (arith, f.2, f.3, ap (size c) f.1)
          | inr e ↦ omega (arith, e)
        ] in
        subst (IsNext (newest_number s.processed s.pass v s.epoch)) same (i.latest v h);
    complete = λ e q v k lt h. elim (flows q v) [
      | inl f ↦ i.complete e q v k (omega (arith, f.2, f.3, ap (size c) f.1)) h
      | inr same ↦ i.complete e q v k (omega (arith, same)) h
    ];
  }

  -- x is a row, and b its verdict
  module _ (b : Bool) (by : b ≡ verdict c s.epoch s.processed x) (row : x.number < size c x.worker) where
    abbrev entry : Entry
    entry = record { name = x; epoch = s.epoch; pruned = b }

    -- a smaller number of the flow has another name
    other : (n : Name) → n.pass ≡ s.pass → n.number < s.expected s.pass n.worker → x ≡ n → ⊥
    other n p lt e = omega (arith, ap (λ (m : Name). m.number) e, ap (s.expected s.pass) (ap (λ (m : Name). m.worker) e), is, ap (λ q. s.expected q x.worker) present)

    settled' : (n : Name) → n.pass ≡ s.pass → n.number < s.expected s.pass n.worker → IsSettled s.received s.processed n → IsSettled s.received (entry ∷ s.processed) n
    settled' n p lt (inl j) = inl j
    settled' n p lt (inr m) = inr (mark-other entry s.processed n (other n p lt) ∙ m)

    whole : x.pass ≡ 2 → b ≡ true → IsWhole c 1 s.processed
    whole two t w k h lt = elim (cases_Bool c.two_passes) [
      | inl kind ↦
          let e : s.epoch ≡ 0 = kept_later c s.epoch s.processed x kind (sym by ∙ t) in
          i.complete e 1 w k (omega (arith, i.numbered.earlier 1 w (omega arith) (omega (arith, present)) h)) lt
      | inr kind ↦ absurd (omega (arith, i.in_range, cond-false {A = ℕ} c.two_passes 2 1 kind, present))
    ]

    may_follow : MayFollow c s.processed entry
    may_follow = record {
      row = row;
      verdict = by;
      epochs = λ y h. (i.entries y h).past;
      passes = λ y h. omega (arith, (i.entries y h).known.begun, present);
      ascends = λ y h p w e. omega (arith, (i.entries y h).below (p ∙ present) e, ap (s.expected s.pass) w, is, ap (λ q. s.expected q x.worker) present);
      consecutive =
          let now : min (s.expected s.pass x.worker) (size c x.worker) ≡ x.number = omega (arith, ap (λ q. s.expected q x.worker) present, is) in
          subst (IsNext (newest_number s.processed x.pass x.worker s.epoch)) now (subst (λ (q : ℕ). IsNext (newest_number s.processed q x.worker s.epoch) (min (s.expected s.pass x.worker) (size c x.worker))) (sym present) (i.latest x.worker known.worker));
      after_whole = whole;
      first_epoch = λ kind t. kept_later c s.epoch s.processed x kind (sym by ∙ t);
    }

    pub row_sound : IsSound c (noting (expecting s x) x b)
    row_sound = record {
      in_range = i.in_range;
      up = i.up;
      taken = i.taken;
      once = i.once;
      numbered = numbered';
      settled = λ v k h t. settled' (record { pass = s.pass; worker = v; number = k }) refl (i.numbered.below v k h t) (i.settled v k h t);
      down = λ m h. let g = i.down m h in record { known = g.known; past = g.past; below = λ e f. omega (arith, g.below e f, more s.pass m.name.worker) };
      back = λ a h. let g = i.back a h in record {
        known = g.known;
        past = g.past;
        master = g.master;
        below = λ e f. omega (arith, g.below e f, more s.pass a.name.worker);
        switch = λ e. inr (g.switch e);
        settled = λ e f. settled' a.name e (g.below e f) (g.settled e f);
      };
      lawful = (may_follow, i.lawful);
      entries = each;
      latest = λ v h. elim (cases_eq v x.worker) [
        | inl e ↦ subst (λ (o : Option ℕ). IsNext o (min (expected' s.pass v) (size c v))) (sym (cond-true (eqb x.pass s.pass && (eqb x.worker v && eqb s.epoch s.epoch)) (Some x.number) (newest_number s.processed s.pass v s.epoch) (and_from (eqb x.pass s.pass) (eqb x.worker v && eqb s.epoch s.epoch) (eq-eqb x.pass s.pass present) (and_from (eqb x.worker v) (eqb s.epoch s.epoch) (eq-eqb x.worker v (sym e)) (eq-eqb s.epoch s.epoch refl))))) (omega (arith, here s.pass v (sym present) e, ap (size c) e))
        | inr ne ↦
            let same : expected' s.pass v ≡ s.expected s.pass v = at_worker s.pass v (sym present) ne in
            subst (λ (o : Option ℕ). IsNext o (min (expected' s.pass v) (size c v))) (sym (cond-false (eqb x.pass s.pass && (eqb x.worker v && eqb s.epoch s.epoch)) (Some x.number) (newest_number s.processed s.pass v s.epoch) (false_from_ne_true (eqb x.pass s.pass && (eqb x.worker v && eqb s.epoch s.epoch)) (λ t. ne (sym (eqb-true x.worker v (and_parts (eqb x.worker v) (eqb s.epoch s.epoch) (and_parts (eqb x.pass s.pass) (eqb x.worker v && eqb s.epoch s.epoch) t).1).0))))))
            (subst (IsNext (newest_number s.processed s.pass v s.epoch)) (ap (λ n. min n (size c v)) (sym same)) (i.latest v h))
      ];
      complete = λ e q v k lt h. elim (flows q v) [
        | inl f ↦ elim (cases_eq k x.number) [
          | inl n ↦ (b, inl (λ j. record { name = record { pass = f.0 j; worker = f.1 j; number = n j }; epoch = (sym e) j; pruned = b }))
          | inr ne ↦ let old = i.complete e q v k (omega (arith, f.2, f.3)) h in (old.0, inr old.1)
        ]
        | inr same ↦ let old = i.complete e q v k (omega (arith, same)) h in (old.0, inr old.1)
      ];
    }
      where
        each : Each (IsProcessed c s.pass s.epoch s.next expected') (entry ∷ s.processed)
        each y (inl e) = subst (IsProcessed c s.pass s.epoch s.next expected') (sym e) (record { known = known; past = omega arith; below = λ p f. omega (arith, here s.pass x.worker (sym present) refl) })
        each y (inr h) = let g = i.entries y h in record { known = g.known; past = g.past; below = λ e f. omega (arith, g.below e f, more s.pass y.name.worker) }

  pub below_end : x.number < expected' s.pass x.worker
  below_end = omega (arith, here s.pass x.worker (sym present) refl)

pub meet_sound : (c : Config) (s : State) → IsSound c s → (x : Name) → IsKnown c s.pass s.next x → IsSound c (meet c s x)
meet_sound c s i x known = meet_cases c (IsSound c) s x
    (λ above. i)
    (λ below. go_down_sound c s i x known (λ e. omega (arith, below, ap (λ q. s.expected q x.worker) e)))
    (λ is end. go_down_sound c (expecting s x) (end_sound c s i x known is end) x known (λ e. below_end c s i x known is))
    (λ is row v.
    let after = row_sound c s i x known is true (sym v) (omega (arith, known.number, row)) in
    with_back c (noting (expecting s x) x true) after _ _ (Each-push (IsOnBack c s.pass s.epoch s.next (expecting s x).expected s.received (record { name = x; epoch = s.epoch; pruned = true } ∷ s.processed)) s.back (record { origin = Switch; name = x; epoch = s.epoch }) after.back
    (record {
      known = known;
      past = omega arith;
      below = λ e f. below_end c s i x known is;
      master = λ e. absurd cc;
      switch = λ e. inl refl;
      settled = λ e f. inr (cond-true (same_name x x) (Some true) (mark_of s.processed x) (same_name-from x x refl));
    })))
    (λ is row v. go_down_sound c (noting (expecting s x) x false) (row_sound c s i x known is false (sym v) (omega (arith, known.number, row))) x known (λ e. below_end c s i x known is))
