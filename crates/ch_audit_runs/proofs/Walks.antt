-- A walk goes on by a line, or ends at it.
use Rattle.std.proofs.Common.{◌≡◌, ◌∙◌, ◌<◌, ◌+◌, ◌^◌, ℕ, suc, Bool, true, false, List, [], ◌∷◌, ◌++◌, length, refl, ap, sym, arith, subst}
use Rattle.std.specs.Prelude.{◌↔◌, ◌==◌, if◌then◌else◌, IsTrue, Option, Some, None}
use Rattle.std.specs.List.{join_with_byte}
use Rattle.std.proofs.lemmas.Bool.{ne_eqb}
use Rattle.std.proofs.lemmas.List.Splits.{join_with_byte-slice_split}
use Rattle.ch_protocol.specs.Machine.{Config, State, run, start, step, stopped}
use Rattle.ch_protocol.specs.declared.fate.NoteFate.{NoteFate}
use Rattle.ch_protocol_laws.proofs.DrainEvents.{run_append}
use Rattle.ch_schedule.specs.Bad.{is_forged}
use Rattle.ch_schedule.specs.Event.{event_of, events_of}
use Rattle.ch_schedule.specs.declared.step.Step.{Step}
use Rattle.ch_schedule.specs.declared.step.Step.TheVariants as said
use Rattle.ch_trace_lines.proofs.Lines.{line_is}
use Rattle.ch_trace_lines.proofs.Splits.{split_some}
use Rattle.ch_trace_lines.specs.Range.{IsEvent}
use Rattle.ch_trace_lines.specs.Reading.{line_at}
use Rattle.ch_trace_lines.specs.Trace.{noted_at}
use Rattle.ch_trace_lines.specs.declared.line.Ending.{Ending}
use Rattle.ch_trace_lines.specs.declared.line.Line.TheVariants.{Event, End}
use Rattle.ch_trace_lines.specs.declared.line.Noted.{Noted}
use Rattle.ch_trace_laws.specs.Sendable.{AreSendable, IsSendable}
use Rattle.ch_trace_laws.proofs.Epochs.{ran}
use Rattle.ch_audit_laws.proofs.Same.{next_is, is_the_next}
use Rattle.ch_audit_laws.specs.Own.{cut}
use Rattle.ch_audit_laws.specs.Said.{state_after}
use Rattle.ch_audit_laws.specs.Walks.{Walk, behind, is_ending, is_next, is_over, walk}
use Rattle.ch_audit_laws.specs.Walks.Walk.{Whole, Refused}
use Rattle.ch_audit_runs.specs.Walking.{Comes, Ends, Stands, ending_found}
use Rattle.ch_audit_runs.specs.declared.arrival.Arrival.{Arrival}
use Rattle.ch_audit_runs.specs.declared.walking.Found.{Found}
use Rattle.ch_audit_runs.specs.declared.walking.Found.TheVariants as found

-- a line that is read injects no packet
unforged_step : (x : Step) (packet : Option (List ℕ)) (fate : NoteFate) → IsEvent x packet fate → is_forged x ≡ false
unforged_step (said.Send w) packet fate h = refl
unforged_step (said.Resend w k) packet fate h = refl
unforged_step (said.Up at how) packet fate h = refl
unforged_step (said.Down at how) packet fate h = refl
unforged_step (said.Back at how) packet fate h = refl
unforged_step (said.Inject l bytes) packet fate h = rw h.0.1 refl
unforged_step said.Restart packet fate h = refl

pub unforged : (text : List ℕ) (n : Noted) → line_at text ≡ Some (Event n) → is_forged n.step ≡ false
unforged text n e = unforged_step n.step n.bytes n.fate (line_is text (Event n) e).1

-- a note that is compared with what the run noted

module _ (c : Config) (s : State) (n found : Noted) (b : Bool) (same : IsTrue b ↔ ((n.bytes ≡ found.bytes) × (n.fate ≡ found.fate))) (is : found ≡ noted_at c s n.step) where
  pub differs : b ≡ false → is_next c s n ≡ false
  differs not_so = go (is_next c s n) refl
    where
      go : (v : Bool) → is_next c s n ≡ v → v ≡ false
      go true e =
          let all : n ≡ found = (next_is c s n e).1 ∙ sym is in
          let so : b ≡ true = same.1 (ap (λ (k : Noted). k.bytes) all, ap (λ (k : Noted). k.fate) all) in
          absurd cc
      go false e = refl

  pub agrees_so : b ≡ true → stopped c s ≡ false → is_next c s n ≡ true
  agrees_so so runs =
      let both = same.0 so in
      let bytes = both.0 ∙ ap (λ (k : Noted). k.bytes) is in
      let fate = both.1 ∙ ap (λ (k : Noted). k.fate) is in
      let all : n ≡ noted_at c s n.step = λ i. record { step = n.step; bytes = bytes i; fate = fate i } in
      is_the_next c s n runs all

-- what a line comes to, before some texts

module _ (c : Config) (s : State) (text : List ℕ) where
  pub nothing : (texts : List (List ℕ)) → 0 < length texts → line_at text ≡ None → walk c s (text ∷ texts) ≡ Refused 1
  nothing [] some e = absurd (omega (arith, some))
  nothing (next ∷ texts) some e = rw e refl

  pub goes_on : (texts : List (List ℕ)) (n : Noted) → 0 < length texts → line_at text ≡ Some (Event n) → is_next c s n ≡ true → walk c s (text ∷ texts) ≡ behind n.step (walk c (step c s (event_of n.step)) texts)
  goes_on [] n some e next = absurd (omega (arith, some))
  goes_on (t ∷ texts) n some e next = rw (e, next) refl

  pub goes_off : (texts : List (List ℕ)) (n : Noted) → 0 < length texts → line_at text ≡ Some (Event n) → is_next c s n ≡ false → walk c s (text ∷ texts) ≡ Refused 1
  goes_off [] n some e next = absurd (omega (arith, some))
  goes_off (t ∷ texts) n some e next = rw (e, next) refl

  ends : (texts : List (List ℕ)) (ending : Ending) → 0 < length texts → line_at text ≡ Some (End ending)
      → walk c s (text ∷ texts) ≡ (if is_ending ending (stopped c s) then (if is_over texts then Whole [] else Refused 2) else Refused 1)
  ends [] ending some e = absurd (omega (arith, some))
  ends (t ∷ texts) ending some e = rw e refl

  pub ended : (is_in : State → Type 0) (rows : List Arrival) (texts : List (List ℕ)) (ending : Ending) (f : Found) → 0 < length texts → line_at text ≡ Some (End ending) → Stands c is_in rows s → Ends c s ending texts f
      → Comes c s is_in rows text texts f
  ended is_in rows texts ending f some e stands is = subst (Comes c s is_in rows text texts) (sym is) (go (is_ending ending (stopped c s)) (is_over texts) (ends texts ending some e))
    where
      go : (a b : Bool) → walk c s (text ∷ texts) ≡ (if a then (if b then Whole [] else Refused 2) else Refused 1) → Comes c s is_in rows text texts (ending_found a b)
      go true true w = (stands, w)
      go true false w = w
      go false b w = w

pub some_cut : (text : List ℕ) → 0 < length (cut text)
some_cut text = split_some (λ b. b == 10) text

-- nothing stands behind the last line feed
over_cut : (text : List ℕ) → is_over (cut text) ≡ true → text ≡ []
over_cut text e = sym (join_with_byte-slice_split 10 text) ∙ go (cut text) e
  where
    go : (texts : List (List ℕ)) → is_over texts ≡ true → join_with_byte 10 texts ≡ []
    go [] e = refl
    go ([] ∷ []) e = refl
    go ((b ∷ bs) ∷ []) e = absurd cc
    go ([] ∷ next ∷ texts) e = absurd cc
    go ((b ∷ bs) ∷ next ∷ texts) e = absurd cc

pub over_is_empty : (text : List ℕ) → (length text == 0) ≡ is_over (cut text)
over_is_empty [] = refl
over_is_empty (b ∷ bs) = go (is_over (cut (b ∷ bs))) refl
  where
    go : (o : Bool) → is_over (cut (b ∷ bs)) ≡ o → (length (b ∷ bs) == 0) ≡ o
    go true e = let wrong : b ∷ bs ≡ [] = over_cut (b ∷ bs) e in absurd cc
    go false e = ne_eqb (length (b ∷ bs)) 0 (λ q. omega (arith, q))

-- what is found behind steps

abbrev pub onto : List Step → Walk → Walk
onto [] w = w
onto (x ∷ xs) w = behind x (onto xs w)

onto_more : (xs : List Step) (x : Step) (w : Walk) → onto xs (behind x w) ≡ onto (xs ++ x ∷ []) w
onto_more [] x w = refl
onto_more (y ∷ ys) x w = ap (behind y) (onto_more ys x w)

pub onto_whole : (xs : List Step) → onto xs (Whole []) ≡ Whole xs
onto_whole [] = refl
onto_whole (x ∷ xs) = ap (behind x) (onto_whole xs)

pub onto_refused : (xs : List Step) (n : ℕ) → onto xs (Refused n) ≡ Refused (length xs + n)
onto_refused [] n = let e : 0 + n ≡ n = omega arith in rw e refl
onto_refused (x ∷ xs) n = ap (behind x) (onto_refused xs n) ∙ (let e : suc (length xs + n) ≡ suc (length xs) + n = omega arith in ap Refused e)

events_both : (xs ys : List Step) → events_of (xs ++ ys) ≡ events_of xs ++ events_of ys
events_both [] ys = refl
events_both (x ∷ xs) ys = ap (λ es. event_of x ∷ es) (events_both xs ys)

after_more : (c : Config) (xs : List Step) (x : Step) → step c (state_after c xs) (event_of x) ≡ state_after c (xs ++ x ∷ [])
after_more c xs x = sym (ap (λ es. run c es (start c)) (events_both xs (x ∷ [])) ∙ run_append c (events_of xs) (event_of x ∷ []) (start c))

length_more : (xs : List Step) (x : Step) → length (xs ++ x ∷ []) ≡ length xs + 1
length_more [] x = refl
length_more (y ∷ ys) x = ap suc (length_more ys x) ∙ (let e : suc (length ys + 1) ≡ suc (length ys) + 1 = omega arith in e)

length_events : (xs : List Step) → length (events_of xs) ≡ length xs
length_events [] = refl
length_events (x ∷ xs) = ap suc (length_events xs)

-- How far a walk has come: the steps that were made, what is left of the text, and the run behind them
pub record Walks (c : Config) (is_in : State → Type 0) (rows : List Arrival) (text rest : List ℕ) (lines : ℕ) : Type 0 where
  pub steps : List Step
  pub count : length steps ≡ lines
  pub stands : Stands c is_in rows (state_after c steps)
  pub found : walk c (start c) (cut text) ≡ onto steps (walk c (state_after c steps) (cut rest))

pub sendable_after : (c : Config) (steps : List Step) → AreSendable c → length steps < 2 ^ 32 → IsSendable c (state_after c steps)
sendable_after c steps are few =
    let after = ran c (events_of steps) (start c) in
    let many = length_events steps in
    record { config = are; reached = (events_of steps, refl); small = omega (arith, after, many, few) }

pub one_more_line : (c : Config) (old_in is_in : State → Type 0) (old rows : List Arrival) (text rest line rest' : List ℕ) (lines : ℕ) (w : Walks c old_in old text rest lines) → cut rest ≡ line ∷ cut rest'
    → Comes c (state_after c w.steps) is_in rows line (cut rest') found.Next → Walks c is_in rows text rest' (lines + 1)
one_more_line c old_in is_in old rows text rest line rest' lines w parts comes = record {
  steps = w.steps ++ comes.0 ∷ [];
  count = length_more w.steps comes.0 ∙ ap (λ n. n + 1) w.count;
  stands = subst (Stands c is_in rows) (after_more c w.steps comes.0) comes.1;
  found = w.found ∙ (ap (λ ts. onto w.steps (walk c (state_after c w.steps) ts)) parts ∙ (ap (onto w.steps) comes.2 ∙ (onto_more w.steps comes.0 (walk c (step c (state_after c w.steps) (event_of comes.0)) (cut rest'))
      ∙ ap (λ t. onto (w.steps ++ comes.0 ∷ []) (walk c t (cut rest'))) (after_more c w.steps comes.0))));
}

pub refused_there : (c : Config) (old_in : State → Type 0) (old : List Arrival) (text rest : List ℕ) (texts : List (List ℕ)) (lines n : ℕ) (w : Walks c old_in old text rest lines) → cut rest ≡ texts → walk c (state_after c w.steps) texts ≡ Refused n
    → walk c (start c) (cut text) ≡ Refused (lines + n)
refused_there c old_in old text rest texts lines n w parts e =
    w.found ∙ (ap (λ ts. onto w.steps (walk c (state_after c w.steps) ts)) parts ∙ (ap (onto w.steps) e ∙ (onto_refused w.steps n ∙ ap (λ m. Refused (m + n)) w.count)))

pub whole_there : (c : Config) (old_in : State → Type 0) (old : List Arrival) (text rest : List ℕ) (texts : List (List ℕ)) (lines : ℕ) (w : Walks c old_in old text rest lines) → cut rest ≡ texts → walk c (state_after c w.steps) texts ≡ Whole []
    → walk c (start c) (cut text) ≡ Whole w.steps
whole_there c old_in old text rest texts lines w parts e =
    w.found ∙ (ap (λ ts. onto w.steps (walk c (state_after c w.steps) ts)) parts ∙ (ap (onto w.steps) e ∙ onto_whole w.steps))
