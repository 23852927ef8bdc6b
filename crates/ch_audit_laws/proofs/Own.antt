-- A trace goes on by one line, or by none.
use Rattle.std.proofs.Common.{◌≡◌, ◌∙◌, ap, sym, refl, subst, inl, inr, ◌⊎◌, Bool, true, false, ℕ, List, [], ◌∷◌, ◌++◌, Some}
use Rattle.std.specs.Prelude.{option_map}
use Rattle.ch_protocol.specs.Machine.{Config, State, run, step, stopped}
use Rattle.ch_schedule.specs.Event.{event_of, events_of}
use Rattle.ch_schedule.specs.declared.step.Step.{Step}
use Rattle.ch_trace_lines.proofs.Lines.{line_back}
use Rattle.ch_trace_lines.proofs.Options.{bound, mapped}
use Rattle.ch_trace_lines.specs.Reading.{line_at, lines_of}
use Rattle.ch_trace_lines.specs.Spelling.{line_text}
use Rattle.ch_trace_lines.specs.Trace.{ending_at, lines_from, noted_at, trace_from}
use Rattle.ch_trace_lines.specs.declared.line.Ending.{Ending}
use Rattle.ch_trace_lines.specs.declared.line.Line.{Line}
use Rattle.ch_trace_lines.specs.declared.line.Line.TheVariants.{Event, End}
use Rattle.ch_trace_lines.specs.declared.line.Noted.{Noted}
use Rattle.ch_audit_laws.specs.Own.{steps_in}

-- the texts are read as these lines, which are the trace of their own events from a state on
pub record Goes (c : Config) (s : State) (texts : List (List ℕ)) (lines : List Line) : Type 0 where
  pub read : lines_of texts ≡ Some lines
  pub own : lines ≡ trace_from c s (steps_in lines)

pub record Starts (c : Config) (s : State) (texts : List (List ℕ)) : Type 0 where
  pub next : List ℕ
  pub others : List (List ℕ)
  pub lines : List Line
  pub is : Goes c s (texts ++ next ∷ others) lines

pub read_more : (text : List ℕ) (texts : List (List ℕ)) (l : Line) (lines : List Line) → line_at text ≡ Some l → lines_of texts ≡ Some lines → lines_of (text ∷ texts) ≡ Some (l ∷ lines)
read_more text [] l lines e h = cc
read_more text (next ∷ texts) l lines e h = rw (e, h) refl

-- the last line, and nothing behind it
pub ended_only : (c : Config) (s : State) (text : List ℕ) → line_at text ≡ Some (End (ending_at c s)) → Goes c s (text ∷ [] ∷ []) (End (ending_at c s) ∷ [])
ended_only c s text e = record { read = read_more text ([] ∷ []) (End (ending_at c s)) [] e refl; own = refl }

pub nothing_starts : (c : Config) (s : State) → Starts c s []
nothing_starts c s = record {
  next = line_text (End (ending_at c s));
  others = [] ∷ [];
  lines = End (ending_at c s) ∷ [];
  is = ended_only c s (line_text (End (ending_at c s))) (line_back (End (ending_at c s)) tt);
}

-- while the run goes on a trace has a line for the first step
pub goes_on : (c : Config) (s : State) (x : Step) (xs : List Step) → stopped c s ≡ false → trace_from c s (x ∷ xs) ≡ Event (noted_at c s x) ∷ trace_from c (step c s (event_of x)) xs
goes_on c s x xs e = rw e refl

pub stands : (c : Config) (s : State) (xs : List Step) → stopped c s ≡ true → (ending : Ending) × (trace_from c s xs ≡ End ending ∷ [])
stands c s [] e = (ending_at c s, refl)
stands c s (x ∷ xs) e = (ending_at c (run c (events_of (x ∷ xs)) s), rw e refl)

pub one_more : (c : Config) (s : State) (text : List ℕ) (texts : List (List ℕ)) (n : Noted) (lines : List Line) → stopped c s ≡ false → line_at text ≡ Some (Event n) → n ≡ noted_at c s n.step
    → Goes c (step c s (event_of n.step)) texts lines → Goes c s (text ∷ texts) (Event n ∷ lines)
one_more c s text texts n lines runs reads is goes = record {
  read = read_more text texts (Event n) lines reads goes.read;
  own = ap (λ (m : Noted). Event m ∷ lines) is ∙ (ap (λ (ls : List Line). Event (noted_at c s n.step) ∷ ls) goes.own ∙ sym (goes_on c s n.step (steps_in lines) runs));
}

pub more_start : (c : Config) (s : State) (text : List ℕ) (texts : List (List ℕ)) (n : Noted) → stopped c s ≡ false → line_at text ≡ Some (Event n) → n ≡ noted_at c s n.step
    → Starts c (step c s (event_of n.step)) texts → Starts c s (text ∷ texts)
more_start c s text texts n runs reads is starts =
    record { next = starts.next; others = starts.others; lines = Event n ∷ starts.lines; is = one_more c s text (texts ++ starts.next ∷ starts.others) n starts.lines runs reads is starts.is }

-- The first line of a trace: an event, behind which it goes on, or the last one.

pub record GoesBy (c : Config) (s : State) (text : List ℕ) (texts : List (List ℕ)) (n : Noted) (lines : List Line) : Type 0 where
  pub runs : stopped c s ≡ false
  pub reads : line_at text ≡ Some (Event n)
  pub is : n ≡ noted_at c s n.step
  pub rest : Goes c (step c s (event_of n.step)) texts lines

pub record EndsBy (c : Config) (s : State) (text : List ℕ) (texts : List (List ℕ)) : Type 0 where
  pub reads : line_at text ≡ Some (End (ending_at c s))
  pub over : texts ≡ [] ∷ []

abbrev pub First : Config → State → List ℕ → List (List ℕ) → Type 0
First c s text texts = ((n : Noted) × (ls : List Line) × GoesBy c s text texts n ls) ⊎ EndsBy c s text texts

never_empty : (xs : List Line) (l : Line) → [] ≡ xs ++ l ∷ [] → ⊥
never_empty [] l e = cc
never_empty (x ∷ xs) l e = cc

nothing_read : (texts : List (List ℕ)) → lines_of texts ≡ Some [] → texts ≡ [] ∷ []
nothing_read [] e = cc
nothing_read ([] ∷ []) e = refl
nothing_read ((b ∷ bs) ∷ []) e = cc
nothing_read (text ∷ next ∷ texts) e =
    let l = bound (line_at text) (λ l. option_map (λ ls. l ∷ ls) (lines_of (next ∷ texts))) [] e in
    let m = mapped (λ ls. l.0 ∷ ls) (lines_of (next ∷ texts)) [] l.2 in
    let wrong = m.2 in
    cc

head_event : (c : Config) (s : State) (text : List ℕ) (texts : List (List ℕ)) (n : Noted) (ls : List Line) → line_at text ≡ Some (Event n) → lines_of texts ≡ Some ls → Event n ∷ ls ≡ trace_from c s (n.step ∷ steps_in ls)
    → GoesBy c s text texts n ls
head_event c s text texts n ls reads read own = by (stopped c s) refl
  where
    by : (b : Bool) → stopped c s ≡ b → GoesBy c s text texts n ls
    by true e = let end = stands c s (n.step ∷ steps_in ls) e in let wrong : Event n ∷ ls ≡ End end.0 ∷ [] = own ∙ end.1 in absurd cc
    by false e =
        let on : Event n ∷ ls ≡ Event (noted_at c s n.step) ∷ trace_from c (step c s (event_of n.step)) (steps_in ls) = own ∙ goes_on c s n.step (steps_in ls) e in
        let here : n ≡ noted_at c s n.step = cc in
        let rest : ls ≡ trace_from c (step c s (event_of n.step)) (steps_in ls) = cc in
        record { runs = e; reads = reads; is = here; rest = record { read = read; own = rest } }

head_end : (c : Config) (s : State) (text : List ℕ) (texts : List (List ℕ)) (ending : Ending) (ls : List Line) (xs : List Step) → steps_in ls ≡ xs → line_at text ≡ Some (End ending) → lines_of texts ≡ Some ls → End ending ∷ ls ≡ trace_from c s xs
    → EndsBy c s text texts
head_end c s text texts ending ls [] same reads read own =
    let here : ending ≡ ending_at c s = cc in
    let none : ls ≡ [] = cc in
    record { reads = reads ∙ ap (λ (e : Ending). Some (End e)) here; over = nothing_read texts (read ∙ ap Some none) }
head_end c s text texts ending ls (x ∷ xs) same reads read own = by (stopped c s) refl
  where
    by : (b : Bool) → stopped c s ≡ b → EndsBy c s text texts
    by true e =
        let end = stands c s (x ∷ xs) e in
        let both : End ending ∷ ls ≡ End end.0 ∷ [] = own ∙ end.1 in
        let none : ls ≡ [] = cc in
        let wrong : [] ≡ x ∷ xs = ap steps_in (sym none) ∙ same in
        absurd cc
    by false e = let wrong : End ending ∷ ls ≡ Event (noted_at c s x) ∷ trace_from c (step c s (event_of x)) xs = own ∙ goes_on c s x xs e in absurd cc

head_line : (c : Config) (s : State) (text : List ℕ) (texts : List (List ℕ)) (l : Line) (ls : List Line) → line_at text ≡ Some l → lines_of texts ≡ Some ls → l ∷ ls ≡ trace_from c s (steps_in (l ∷ ls)) → First c s text texts
head_line c s text texts (Event n) ls reads read own = inl (n, ls, head_event c s text texts n ls reads read own)
head_line c s text texts (End ending) ls reads read own = inr (head_end c s text texts ending ls (steps_in ls) refl reads read own)

pub no_line : (c : Config) (s : State) (text : List ℕ) (lines : List Line) → Goes c s (text ∷ []) lines → ⊥
no_line c s [] lines goes =
    let none : [] ≡ lines = let e = goes.read in cc in
    never_empty (lines_from c s (steps_in lines)) (End (ending_at c (run c (events_of (steps_in lines)) s))) (none ∙ goes.own)
no_line c s (b ∷ bs) lines goes = let e = goes.read in cc

pub first : (c : Config) (s : State) (text : List ℕ) (texts : List (List ℕ)) (lines : List Line) → Goes c s (text ∷ texts) lines → First c s text texts
first c s text [] lines goes = absurd (no_line c s text lines goes)
first c s text (next ∷ texts) lines goes =
    let l = bound (line_at text) (λ l. option_map (λ ls. l ∷ ls) (lines_of (next ∷ texts))) lines goes.read in
    let m = mapped (λ ls. l.0 ∷ ls) (lines_of (next ∷ texts)) lines l.2 in
    let own : l.0 ∷ m.0 ≡ trace_from c s (steps_in (l.0 ∷ m.0)) = subst (λ (ls : List Line). ls ≡ trace_from c s (steps_in ls)) (sym m.2) goes.own in
    head_line c s text (next ∷ texts) l.0 m.0 l.1 m.1 own
