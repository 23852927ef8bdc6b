-- The switch restarts, a pass begins, and a run stops.
use Rattle.std.proofs.Common.{◌≡◌, ℕ, zero, suc, ◌+◌, ◌<◌, ◌≤◌, ◌^◌, Bool, true, false, ◌&&◌, ◌||◌, List, [], ◌∷◌, length, map, refl, ap, sym, ◌∙◌, arith, inl, inr, subst, eqb}
use Rattle.std.specs.Prelude.{if◌then◌else◌, nat_lt, slice_index, slice_index_or}
use Rattle.std.proofs.lemmas.Bool.{cases_Bool, cases_eq, lt-ltb, ne_eqb}
use Rattle.ch_ir.specs.Machine.{cleared}
use Rattle.ch_ends.specs.Worker.{Progress, IsAt, acked_of}
use Rattle.ch_lists.specs.Members.{In}
use Rattle.ch_protocol.specs.Sets.{least, set_at}
use Rattle.ch_protocol.specs.Sender.{least_open, cut_to_least, is_done, first_number, none_acked}
use Rattle.ch_protocol.specs.Machine.{Config, State, Event, Entry, effect, step, size, workers, entries_of, confirmed, stopped, restart, change_pass, count_step, keeps_all}
use Rattle.ch_protocol.specs.Invariant.{IsSound}
use Rattle.ch_protocol.proofs.Tests.{set_at-same, set_at-other, least-le, least-below, least-at, all_below-at, all_below-from}
use Rattle.ch_protocol.specs.Forwarder.{expect_from, keeps_after}
use Rattle.ch_verdicts.specs.Handed.{registers_by}
use Rattle.ch_switch.specs.Switching.{Switching, Expects, IsSameSwitch}
use Rattle.ch_survival.specs.Given.{Given}
use Rattle.ch_stands.specs.Team.{HasRestarted, HasBegun}
use Rattle.ch_stands.specs.Parties.{SwitchStands, WorkersStand, first_undone, begun_in, history}
use Rattle.ch_stands.proofs.Progressing.{acked_same}
use Rattle.ch_stands.proofs.Learning.{least_is}

-- a worker that was told of the restart
restarted_at : (x y : Progress) (rows window pass epoch next e : ℕ) (acked : ℕ → Bool) → IsAt x rows window pass epoch next acked → HasRestarted e x y → IsAt y rows window pass e next (cut_to_least rows acked)
restarted_at x y rows window pass epoch next e acked h t = record {
  rows_is = t.rows_is ∙ h.rows_is;
  window_is = t.window_is ∙ h.window_is;
  pass_is = t.pass_is ∙ h.pass_is;
  epoch_is = t.epoch_is;
  next_is = t.next_is ∙ h.next_is;
  acked_is = λ k. t.acked_is k ∙ (ap (λ (n : ℕ). cut_to_least n (acked_of x) k) h.rows_is ∙ ap (λ (a : ℕ → Bool). cut_to_least rows a k) (acked_same x rows window pass epoch next acked h));
}

pub workers_restarted : (c : Config) (old new : List Progress) (pass epoch e : ℕ) (next : ℕ → ℕ) (acked : ℕ → ℕ → Bool) → WorkersStand c old pass epoch next acked → length new ≡ length old
    → ((w : ℕ) (d : Progress) → w < length old → HasRestarted e (slice_index_or old w d) (slice_index_or new w d))
    → WorkersStand c new pass e next (λ w. cut_to_least (size c w) (acked w))
workers_restarted c old new pass epoch e next acked h n t = record {
  many = n ∙ h.many;
  each = λ w d lt. restarted_at (slice_index_or old w d) (slice_index_or new w d) (size c w) c.window pass epoch (next w) e (acked w) (h.each w d lt) (t w d (omega (arith, lt, h.many)));
}

-- no row was processed in the new epoch
none_yet : (epoch : ℕ) (es : List Entry) → ((y : Entry) → In y es → y.epoch ≤ epoch) → entries_of (suc epoch) es ≡ []
none_yet epoch [] h = refl
none_yet epoch (x ∷ es) h =
    let n : eqb x.epoch (suc epoch) ≡ false = ne_eqb x.epoch (suc epoch) (λ e. (let k = h x (inl refl) in omega (arith, e, k))) in
    rw n (none_yet epoch es (λ y i. h y (inr i)))

keeps_on : (two : Bool) (e : ℕ) → ((two && nat_lt 0 e) || two) ≡ (two && nat_lt 0 (suc e))
keeps_on true e = rw (lt-ltb 0 (suc e) (omega arith)) (go (nat_lt 0 e))
  where
    go : (b : Bool) → (b || true) ≡ true
    go true = refl
    go false = refl
keeps_on false e = refl

-- what the workers expect to be sent next is what the switch is told
expects_told : (c : Config) (st : Switching) (pass : ℕ) (told : List ℕ) (acked : ℕ → ℕ → Bool) (expected : ℕ → ℕ → ℕ) → st.workers ≡ workers c
    → ((w : ℕ) → w < workers c → slice_index told w ≡ least_open (size c w) (acked w))
    → Expects st (expect_from (workers c) pass (slice_index told) expected)
    → Expects st (expect_from (workers c) pass (λ w. least_open (size c w) (acked w)) expected)
expects_told c st pass told acked expected many t h q w is lt = sym (go q w (omega (arith, lt, many))) ∙ h q w is lt
  where
    f : ℕ → ℕ
    f v = if nat_lt v (workers c) then slice_index told v else expected pass v

    k : ℕ → ℕ
    k v = if nat_lt v (workers c) then least_open (size c v) (acked v) else expected pass v

    go : (q w : ℕ) → w < workers c → set_at pass f expected q w ≡ set_at pass k expected q w
    go q w lt = elim (cases_eq q pass) [
      | inl e ↦
          ap (λ (z : ℕ → ℕ). z w) (set_at-same pass q f expected e)
          ∙ (ap (λ (b : Bool). if b then slice_index told w else expected pass w) (lt-ltb w (workers c) lt) ∙ t w lt ∙ sym (ap (λ (b : Bool). if b then least_open (size c w) (acked w) else expected pass w) (lt-ltb w (workers c) lt)))
          ∙ sym (ap (λ (z : ℕ → ℕ). z w) (set_at-same pass q k expected e))
      | inr ne ↦ ap (λ (z : ℕ → ℕ). z w) (set_at-other pass q f expected ne) ∙ sym (ap (λ (z : ℕ → ℕ). z w) (set_at-other pass q k expected ne))
    ]

pub switch_restarted : (g : Given) (s : State) (old new : Switching) (pass : ℕ) (told : List ℕ) → IsSound g.config s → SwitchStands g old s.epoch s.expected s.processed
    → pass ≡ s.pass → old.epoch + 1 < 2 ^ 32
    → new.registers ≡ cleared old.program.arrays → new.epoch ≡ suc old.epoch → new.keeps ≡ (old.keeps || g.config.two_passes)
    → ((e : ℕ → ℕ → ℕ) → Expects old e → Expects new (expect_from old.workers pass (slice_index told) e)) → IsSameSwitch old new
    → ((w : ℕ) → w < workers g.config → slice_index told w ≡ least_open (size g.config w) (s.acked w))
    → SwitchStands g new (suc s.epoch) (restart g.config s).expected s.processed
switch_restarted g s old new pass told i h p small r e k x same t = record {
  program_is = same.program ∙ h.program_is;
  slot_is = same.slot ∙ h.slot_is;
  workers_is = same.workers ∙ h.workers_is;
  epoch_is = e ∙ ap suc h.epoch_is;
  small = omega (arith, small, h.epoch_is);
  keeps_is = k ∙ (ap (λ (b : Bool). b || g.config.two_passes) h.keeps_is ∙ keeps_on g.config.two_passes s.epoch);
  expects = expects_told g.config new s.pass told s.acked s.expected (same.workers ∙ h.workers_is) t
      (subst (λ (q : ℕ). Expects new (expect_from (workers g.config) q (slice_index told) s.expected)) p
      (subst (λ (n : ℕ). Expects new (expect_from n pass (slice_index told) s.expected)) h.workers_is (x s.expected h.expects)));
  registers_is = λ f. r ∙ rw (h.program_is, none_yet s.epoch s.processed (λ y j. (i.entries y j).past), ne_eqb (suc s.epoch) 0 (λ bad. (omega (arith, bad)))) refl;
}

-- who is done stays done at a restart, and no other becomes it
pub done_cut : (c : Config) (s : State) (w : ℕ) → IsSound c s → w < workers c → is_done (size c w) (cut_to_least (size c w) (s.acked w)) ≡ is_done (size c w) (s.acked w)
done_cut c s w i lt = elim (cases_Bool (s.acked w (size c w))) [
  | inl t ↦
      let below = i.numbered.below w (size c w) lt t in
      let all : s.next w ≡ suc (size c w) = omega (arith, below, i.numbered.sent w lt, i.numbered.within w lt) in
      let full : suc (size c w) ≡ least_open (size c w) (s.acked w) = least_is (s.acked w) (suc (size c w)) (suc (size c w)) (omega arith)
      (λ k kt. elim (cases_eq k (size c w)) [ inl e ↦ ap (s.acked w) e ∙ t | inr ne ↦ i.numbered.ends w k lt all (omega (arith, kt, ne)) ]) (λ bad. absurd (omega (arith, bad))) in
      rw t (lt-ltb (size c w) (least_open (size c w) (s.acked w)) (omega (arith, full)))
  | inr f ↦ rw f refl
]

-- the least number of sets that are the same below a bound
pub least_same : (a b : ℕ → Bool) (n : ℕ) → ((k : ℕ) → k < n → a k ≡ b k) → least a n ≡ least b n
least_same a b n h = least_is b n (least a n) (least-le a n) (λ k lt. sym (h k (omega (arith, lt, least-le a n))) ∙ least-below a n k lt) (λ lt. sym (h (least a n) lt) ∙ least-at a n lt)

-- a worker that began a pass
begun_at : (x y : Progress) (rows window pass epoch next q : ℕ) (acked : ℕ → Bool) → IsAt x rows window pass epoch next acked → HasBegun q x y → IsAt y rows window q epoch first_number none_acked
begun_at x y rows window pass epoch next q acked h t = record {
  rows_is = t.rows_is ∙ h.rows_is;
  window_is = t.window_is ∙ h.window_is;
  pass_is = t.pass_is;
  epoch_is = t.epoch_is ∙ h.epoch_is;
  next_is = t.next_is;
  acked_is = t.acked_is;
}

pub workers_begun : (c : Config) (old new : List Progress) (pass epoch q : ℕ) (next : ℕ → ℕ) (acked : ℕ → ℕ → Bool) → WorkersStand c old pass epoch next acked → length new ≡ length old
    → ((w : ℕ) (d : Progress) → w < length old → HasBegun q (slice_index_or old w d) (slice_index_or new w d))
    → WorkersStand c new q epoch (λ w. first_number) (λ w. none_acked)
workers_begun c old new pass epoch q next acked h n t = record {
  many = n ∙ h.many;
  each = λ w d lt. begun_at (slice_index_or old w d) (slice_index_or new w d) (size c w) c.window pass epoch (next w) q (acked w) (h.each w d lt) (t w d (omega (arith, lt, h.many)));
}

pub least_none : (n : ℕ) → 0 ≡ least (λ w. false) n
unfolding least
least_none zero = refl
least_none (suc n) = refl

-- an item that is there
pub some_item : {A : Type 0} (xs : List A) (i : ℕ) → i < length xs → A
some_item [] i lt = absurd (omega arith)
some_item (x ∷ xs) i lt = x

-- what each worker told is its least open number
pub told_is : (c : Config) (ws : List Progress) (pass epoch : ℕ) (next : ℕ → ℕ) (acked : ℕ → ℕ → Bool) (told : List ℕ) → WorkersStand c ws pass epoch next acked
    → ((w : ℕ) (d : Progress) → w < length ws → let y = slice_index_or ws w d in slice_index told w ≡ least_open y.rows (acked_of y))
    → (w : ℕ) → w < workers c → slice_index told w ≡ least_open (size c w) (acked w)
told_is c ws pass epoch next acked told h t w lt =
    let at : w < length ws = omega (arith, lt, h.many) in
    let y = some_item ws w at in
    let k = h.each w y lt in
    t w y at
    ∙ (ap (λ (n : ℕ). least_open n (acked_of (slice_index_or ws w y))) k.rows_is
    ∙ ap (least_open (size c w)) (acked_same (slice_index_or ws w y) _ _ _ _ _ _ k))

-- each worker is done where the first undone one is past the last
pub all_done : (c : Config) (s : State) → first_undone c s.acked ≡ workers c → confirmed c s ≡ true
all_done c s e =
    all_below-from (λ w. is_done (size c w) (s.acked w)) (workers c) (λ w lt. least-below (λ v. is_done (size c v) (s.acked v)) (workers c) w (omega (arith, lt, e)))

pub not_all_done : (c : Config) (s : State) → (first_undone c s.acked ≡ workers c → ⊥) → confirmed c s ≡ false
not_all_done c s ne = elim (cases_Bool (confirmed c s)) [
  | inl t ↦
      let done : (w : ℕ) → w < workers c → is_done (size c w) (s.acked w) ≡ true = λ w lt. all_below-at (λ v. is_done (size c v) (s.acked v)) (workers c) w t lt in
      let full : workers c ≡ first_undone c s.acked = least_is (λ v. is_done (size c v) (s.acked v)) (workers c) (workers c) (omega arith) done (λ bad. absurd (omega (arith, bad))) in
      absurd (ne (sym full))
  | inr f ↦ f
]

-- a run that has stopped does nothing
pub step_stopped : (c : Config) (s : State) (e : Event) → stopped c s ≡ true → s ≡ step c s e
unfolding step
step_stopped c s e t = rw t refl

pub step_open : (c : Config) (s : State) (e : Event) → stopped c s ≡ false → change_pass c (count_step (effect c s e)) ≡ step c s e
unfolding step
step_open c s e f = rw f refl
