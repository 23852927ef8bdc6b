-- Drain stops every run.
use Rattle.std.proofs.Common.{◌≡◌, ℕ, zero, suc, ◌+◌, ◌-◌, ◌*◌, ◌<◌, ◌≤◌, Bool, true, false, cond, not, ◌&&◌, eqb, List, [], ◌∷◌, ◌++◌, length, map, sum_by, slice_index_or, refl, ap, sym, ◌∙◌, subst, arith, inl, inr, ◌⊎◌, eqb-true, eq-eqb}
use Rattle.std.proofs.lemmas.List.Sums.{sum_by-cons}
use Rattle.std.proofs.lemmas.Bool.{and_from}
use Rattle.ch_protocol.specs.Sender.{least_open}
use Rattle.ch_protocol.specs.Machine.{Config, State, Event, size, workers, passes, confirmed, stopped, run, start, tables}
use Rattle.ch_protocol.specs.Drain.{IsPast, repeat, round, most_rounds, drain}
use Rattle.ch_protocol.proofs.Tests.{least-below, all_below-at, all_below-from}
use Rattle.ch_protocol_laws.proofs.Links.{start_sound}
use Rattle.ch_protocol_laws.proofs.Ways.{IsTracked, IsReady, step_ready}
use Rattle.ch_protocol_laws.proofs.Rounds.{round_adds}

size-sum : {X : Type 0} (xss : List (List X)) (w : ℕ) → w < length xss → length (slice_index_or xss w []) ≤ sum_by (λ xs. length xs) xss
size-sum [] w lt = absurd (omega (arith, lt))
size-sum {X} (xs ∷ xss) zero lt = omega (arith, sum_by-cons (λ (ys : List X). length ys) xs xss)
size-sum {X} (xs ∷ xss) (suc w) lt = omega (arith, size-sum xss w (omega (arith, lt)), sum_by-cons (λ (ys : List X). length ys) xs xss)

repeat-add : (f : State → State) (a b : ℕ) (s : State) → repeat f (a + b) s ≡ repeat f b (repeat f a s)
unfolding repeat
repeat-add f zero b s = let e : zero + b ≡ b = omega arith in ap (λ n. repeat f n s) e
repeat-add f (suc a) b s = let e : suc a + b ≡ suc (a + b) = omega arith in ap (λ n. repeat f n s) e ∙ repeat-add f a b (f s)

module _ (c : Config) (some : 0 < workers c) (room : 1 ≤ c.window) where
  rounds_add : (p e n k : ℕ) (s : State) → IsReady c s → IsPast c p s ⊎ IsTracked c p e (λ w. k) 0 s → IsReady c (repeat (round c) n s) × (IsPast c p (repeat (round c) n s) ⊎ IsTracked c p e (λ w. k + n) 0 (repeat (round c) n s))
  unfolding repeat
  rounds_add p e zero k s r live = (r, elim live [ inl past ↦ inl past | inr t ↦ inr (subst (λ (m : ℕ). IsTracked c p e (λ w. m) 0 s) (omega arith) t) ])
  rounds_add p e (suc n) k s r live =
      let a = round_adds c some room p e (λ w. k) s r live in
      let z = rounds_add p e n (suc k) (round c s) a.0 a.1 in
      (z.0, elim z.1 [ inl past ↦ inl past | inr t ↦ inr (subst (λ (m : ℕ). IsTracked c p e (λ w. m) 0 (repeat (round c) n (round c s))) (omega arith) t) ])

  -- a run that has stopped stays so
  stop_stays : (n : ℕ) (s : State) → IsReady c s → stopped c s ≡ true → IsReady c (repeat (round c) n s) × (stopped c (repeat (round c) n s) ≡ true)
  stop_stays n s r stop =
      let z = rounds_add (suc (passes c)) 0 n 0 s r (inl (inr stop)) in (
        z.0,
        elim z.1 [
          | inl past ↦ elim past [ inl lt ↦ absurd (omega (arith, lt, z.0.sound.in_range)) | inr t ↦ t ]
          | inr t ↦ absurd (omega (arith, t.pass, z.0.sound.in_range))
        ],
      )

  -- each pass is over after so many rounds
  pub pass_over : (s : State) → IsReady c s → IsReady c (repeat (round c) (most_rounds c) s) × IsPast c s.pass (repeat (round c) (most_rounds c) s)
  pass_over s r =
      let t = repeat (round c) (most_rounds c) s in
      let z = rounds_add s.pass s.epoch (most_rounds c) 0 s r (inr (record { pass = refl; epoch = refl; below = λ w j h lt le. absurd (omega arith); way = λ w lt h le. absurd (omega arith) })) in (
        z.0,
        elim z.1 [
          | inl past ↦ past
          | inr q ↦
              let all : confirmed c t ≡ true = all_below-from (λ w. t.acked w (size c w)) (workers c) (λ w h. q.below w (size c w) h (omega (arith, size-sum (tables c) w h)) (omega arith)) in
              inr (and_from (eqb t.pass (passes c)) (confirmed c t) (eq-eqb t.pass (passes c) (omega (arith, z.0.turned all, z.0.sound.in_range))) all)
        ],
      )

  drains_from : (n : ℕ) (s : State) → IsReady c s → passes c < s.pass + n → stopped c (repeat (round c) (n * most_rounds c) s) ≡ true
  drains_from zero s r lt = absurd (omega (arith, r.sound.in_range))
  drains_from (suc n) s r lt =
      let a = pass_over s r in
      let t = repeat (round c) (most_rounds c) s in
      let more : suc n * most_rounds c ≡ most_rounds c + n * most_rounds c = omega arith in
      let split : repeat (round c) (suc n * most_rounds c) s ≡ repeat (round c) (n * most_rounds c) t = ap (λ m. repeat (round c) m s) more ∙ repeat-add (round c) (most_rounds c) (n * most_rounds c) s in
      ap (stopped c) split ∙ elim a.1 [
        | inl later ↦ drains_from n t a.0 (omega (arith, later))
        | inr stop ↦ (stop_stays (n * most_rounds c) t a.0 stop).1
      ]

  ready_run : (es : List Event) (s : State) → IsReady c s → IsReady c (run c es s)
  ready_run [] s r = r
  ready_run (e ∷ es) s r = ready_run es _ (step_ready c s e some r)

  pub ready_after : (es : List Event) → IsReady c (run c es (start c))
  ready_after es = ready_run es (start c) (record { sound = start_sound c; turned = λ t. absurd (Rattle.std.proofs.Common.true≢false (sym (all_below-at (λ w. false) (workers c) 0 t some))) })

  pub drains_after : (s : State) → IsReady c s → stopped c (drain c s) ≡ true
  drains_after s r = drains_from (passes c) s r (omega (arith, r.sound.in_range))

  -- a round acknowledges each worker's least open number, unless the pass is over
  pub least_adds : (s : State) → IsReady c s
      → IsPast c s.pass (round c s) ⊎ ((w : ℕ) → w < workers c → least_open (size c w) (s.acked w) ≤ size c w → (round c s).acked w (least_open (size c w) (s.acked w)) ≡ true)
  least_adds s r =
      let z = round_adds c some room s.pass s.epoch (λ w. least_open (size c w) (s.acked w)) s r
      (inr (record { pass = refl; epoch = refl; below = λ w j h lt le. least-below (s.acked w) (suc (size c w)) j lt; way = λ w lt h le. absurd (omega arith) })) in
      elim z.1 [
        | inl past ↦ inl past
        | inr t ↦ inr (λ w h le. t.below w (least_open (size c w) (s.acked w)) h (omega arith) le)
      ]
