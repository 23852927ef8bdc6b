-- What a walk finds.
use Rattle.std.proofs.Common.{◌≡◌, ◌<◌, ◌≤◌, ◌∙◌, ap, arith, sym, refl, subst, inl, inr, Bool, true, false, cond, ℕ, zero, suc, List, [], ◌∷◌, ◌++◌, length, take, Option, Some, None}
use Rattle.ch_protocol.specs.Machine.{Config, State, step, stopped}
use Rattle.ch_schedule.specs.Event.{event_of}
use Rattle.ch_trace_lines.specs.Reading.{line_at}
use Rattle.ch_trace_lines.specs.Trace.{ending_at, noted_at}
use Rattle.ch_trace_lines.specs.declared.line.Ending.{Ending}
use Rattle.ch_trace_lines.specs.declared.line.Ending.TheVariants.{Done, Open}
use Rattle.ch_trace_lines.specs.declared.line.Line.{Line}
use Rattle.ch_trace_lines.specs.declared.line.Line.TheVariants.{Event, End}
use Rattle.ch_trace_lines.specs.declared.line.Noted.{Noted}
use Rattle.ch_audit_laws.specs.Own.{steps_in}
use Rattle.ch_audit_laws.specs.Walks.{Walk, after_line, at_line, behind, is_ending, is_next, is_over, walk}
use Rattle.ch_audit_laws.specs.Walks.Walk.{Whole, Refused}
use Rattle.ch_audit_laws.proofs.Own.{First, Goes, GoesBy, Starts, ended_only, first, more_start, no_line, nothing_starts, one_more}
use Rattle.ch_audit_laws.proofs.Same.{is_the_next, next_is}

-- the first line that doesn't go on from a state, as of a whole trace
pub record FailsAt (c : Config) (s : State) (texts : List (List ℕ)) (line : ℕ) : Type 0 where
  pub within : line ≤ length texts
  pub before : (count : ℕ) → count < line → Starts c s (take count texts)
  pub wrong : line < length texts → Starts c s (take line texts) → ⊥
  pub none : (lines : List Line) → Goes c s texts lines → ⊥

abbrev pub Finds : Config → State → List (List ℕ) → Walk → Type 0
Finds c s texts (Whole steps) = (lines : List Line) × Goes c s texts lines × (steps_in lines ≡ steps)
Finds c s texts (Refused line) = FailsAt c s texts line

ending_is : (ending : Ending) (c : Config) (s : State) → is_ending ending (stopped c s) ≡ true → ending ≡ ending_at c s
ending_is ending c s e = by ending (stopped c s) e
  where
    by : (ending : Ending) (b : Bool) → is_ending ending b ≡ true → ending ≡ cond b Done Open
    by Done true e = refl
    by Done false e = cc
    by Open true e = cc
    by Open false e = refl

is_the_ending : (c : Config) (s : State) → is_ending (ending_at c s) (stopped c s) ≡ true
is_the_ending c s = by (stopped c s)
  where
    by : (b : Bool) → is_ending (cond b Done Open) b ≡ true
    by true = refl
    by false = refl

over_is : (texts : List (List ℕ)) → is_over texts ≡ true → texts ≡ [] ∷ []
over_is [] e = cc
over_is ([] ∷ []) e = refl
over_is ((b ∷ bs) ∷ []) e = cc
over_is ([] ∷ next ∷ texts) e = cc
over_is ((b ∷ bs) ∷ next ∷ texts) e = cc

only_nothing : (count : ℕ) → count < 1 → count ≡ 0
only_nothing count lt = omega (arith, lt)

module _ (c : Config) (s : State) (text : List ℕ) where
  no_texts_before : (texts : List (List ℕ)) (count : ℕ) → count < 1 → Starts c s (take count (text ∷ texts))
  no_texts_before texts count lt = subst (λ n. Starts c s (take n (text ∷ texts))) (sym (only_nothing count lt)) (nothing_starts c s)

  -- no line is left
  fails_alone : FailsAt c s (text ∷ []) 1
  fails_alone = record { within = omega arith; before = no_texts_before []; wrong = λ more starts. absurd (omega (arith, more)); none = λ lines goes. no_line c s text lines goes }

  -- no trace has this line first
  fails_here : (next : List ℕ) (texts : List (List ℕ)) → ((others : List (List ℕ)) → First c s text others → ⊥) → FailsAt c s (text ∷ next ∷ texts) 1
  fails_here next texts never = record {
    within = omega arith;
    before = no_texts_before (next ∷ texts);
    wrong = λ more starts. never (starts.next ∷ starts.others) (first c s text (starts.next ∷ starts.others) starts.lines starts.is);
    none = λ lines goes. never (next ∷ texts) (first c s text (next ∷ texts) lines goes);
  }

  -- it is the last line of each trace that has it first, and something stands behind it
  fails_behind : (next : List ℕ) (texts : List (List ℕ)) → line_at text ≡ Some (End (ending_at c s)) → is_over (next ∷ texts) ≡ false → FailsAt c s (text ∷ next ∷ texts) 2
  fails_behind next texts reads more = record {
    within = omega arith;
    before = before;
    wrong = wrong;
    none = none;
  }
    where
      only_ends : (others : List (List ℕ)) → First c s text others → others ≡ [] ∷ []
      only_ends others (inl by) = let wrong : Some (Event by.0) ≡ Some (End (ending_at c s)) = sym by.2.reads ∙ reads in absurd cc
      only_ends others (inr by) = by.over

      before : (count : ℕ) → count < 2 → Starts c s (take count (text ∷ next ∷ texts))
      before zero lt = nothing_starts c s
      before (suc zero) lt = record { next = []; others = []; lines = End (ending_at c s) ∷ []; is = ended_only c s text reads }
      before (suc (suc count)) lt = absurd (omega (arith, lt))

      wrong : 2 < length (text ∷ next ∷ texts) → Starts c s (take 2 (text ∷ next ∷ texts)) → ⊥
      wrong many starts = let e = only_ends (next ∷ starts.next ∷ starts.others) (first c s text (next ∷ starts.next ∷ starts.others) starts.lines starts.is) in cc

      none : (lines : List Line) → Goes c s (text ∷ next ∷ texts) lines → ⊥
      none lines goes = let e = only_ends (next ∷ texts) (first c s text (next ∷ texts) lines goes) in let over : is_over (next ∷ texts) ≡ true = ap is_over e in cc

  -- the line goes on, and one behind it doesn't
  fails_later : (next : List ℕ) (texts : List (List ℕ)) (n : Noted) (line : ℕ) → stopped c s ≡ false → line_at text ≡ Some (Event n) → n ≡ noted_at c s n.step
      → FailsAt c (step c s (event_of n.step)) (next ∷ texts) line → FailsAt c s (text ∷ next ∷ texts) (suc line)
  fails_later next texts n line runs reads is fails = record {
    within = omega (arith, fails.within);
    before = before;
    wrong = wrong;
    none = λ lines goes. elim (first c s text (next ∷ texts) lines goes) [
      | inl by ↦ fails.none by.1 (same_state by.0 (next ∷ texts) by.1 by.2)
      | inr by ↦ other by.reads
    ];
  }
    where
      other : line_at text ≡ Some (End (ending_at c s)) → ⊥
      other e = let wrong : Some (Event n) ≡ Some (End (ending_at c s)) = sym reads ∙ e in cc

      before : (count : ℕ) → count < suc line → Starts c s (take count (text ∷ next ∷ texts))
      before zero lt = nothing_starts c s
      before (suc count) lt = more_start c s text (take count (next ∷ texts)) n runs reads is (fails.before count (omega (arith, lt)))

      same_state : (m : Noted) (others : List (List ℕ)) (lines : List Line) → GoesBy c s text others m lines → Goes c (step c s (event_of n.step)) others lines
      same_state m others lines by =
          let same : m ≡ n = let both : Some (Event m) ≡ Some (Event n) = sym by.reads ∙ reads in cc in
          subst (λ (k : Noted). Goes c (step c s (event_of k.step)) others lines) same by.rest

      wrong : suc line < length (text ∷ next ∷ texts) → Starts c s (text ∷ take line (next ∷ texts)) → ⊥
      wrong more starts =
          let others : List (List ℕ) = take line (next ∷ texts) ++ starts.next ∷ starts.others in
          elim (first c s text others starts.lines starts.is) [
            | inl by ↦ fails.wrong (omega (arith, more)) (record { next = starts.next; others = starts.others; lines = by.1; is = same_state by.0 others by.1 by.2 })
            | inr by ↦ other by.reads
          ]

  found : (next : List ℕ) (texts : List (List ℕ)) (o : Option Line) → line_at text ≡ o → (later : Walk) → Finds c (after_line c s o) (next ∷ texts) later → Finds c s (text ∷ next ∷ texts) (at_line c s o (next ∷ texts) later)
  found next texts None e later f = fails_here next texts never
    where
      never : (others : List (List ℕ)) → First c s text others → ⊥
      never others (inl by) = let wrong : None ≡ Some (Event by.0) = sym e ∙ by.2.reads in cc
      never others (inr by) = let wrong : None ≡ Some (End (ending_at c s)) = sym e ∙ by.reads in cc
  found next texts (Some (End ending)) e later f = by (is_ending ending (stopped c s)) refl (is_over (next ∷ texts)) refl
    where
      never : is_ending ending (stopped c s) ≡ false → (others : List (List ℕ)) → First c s text others → ⊥
      never not others (inl by) = let wrong : Some (End ending) ≡ Some (Event by.0) = sym e ∙ by.2.reads in cc
      never not others (inr by) =
          let both : Some (End ending) ≡ Some (End (ending_at c s)) = sym e ∙ by.reads in
          let same : ending ≡ ending_at c s = cc in
          let is : is_ending ending (stopped c s) ≡ true = subst (λ (x : Ending). is_ending x (stopped c s) ≡ true) (sym same) (is_the_ending c s) in
          let wrong : true ≡ false = sym is ∙ not in
          cc

      by : (b : Bool) → is_ending ending (stopped c s) ≡ b → (over : Bool) → is_over (next ∷ texts) ≡ over → Finds c s (text ∷ next ∷ texts) (cond b (cond over (Whole []) (Refused 2)) (Refused 1))
      by true is true all =
          let same : ending ≡ ending_at c s = ending_is ending c s is in
          let reads : line_at text ≡ Some (End (ending_at c s)) = e ∙ ap (λ (x : Ending). Some (End x)) same in
          let goes : Goes c s (text ∷ next ∷ texts) (End (ending_at c s) ∷ []) = subst (λ ts. Goes c s (text ∷ ts) (End (ending_at c s) ∷ [])) (sym (over_is (next ∷ texts) all)) (ended_only c s text reads) in
          (End (ending_at c s) ∷ [], goes, refl)
      by true is false more = fails_behind next texts (e ∙ ap (λ (x : Ending). Some (End x)) (ending_is ending c s is)) more
      by false is over all = fails_here next texts (never is)
  found next texts (Some (Event n)) e later f = by (is_next c s n) refl later f
    where
      never : is_next c s n ≡ false → (others : List (List ℕ)) → First c s text others → ⊥
      never not others (inl by) =
          let both : Some (Event n) ≡ Some (Event by.0) = sym e ∙ by.2.reads in
          let same : n ≡ by.0 = cc in
          let is : is_next c s n ≡ true = subst (λ (x : Noted). is_next c s x ≡ true) (sym same) (is_the_next c s by.0 by.2.runs by.2.is) in
          let wrong : true ≡ false = sym is ∙ not in
          cc
      never not others (inr by) = let wrong : Some (Event n) ≡ Some (End (ending_at c s)) = sym e ∙ by.reads in cc

      by : (b : Bool) → is_next c s n ≡ b → (later : Walk) → Finds c (step c s (event_of n.step)) (next ∷ texts) later → Finds c s (text ∷ next ∷ texts) (cond b (behind n.step later) (Refused 1))
      by true is (Whole xs) f = let is_it = next_is c s n is in (Event n ∷ f.0, one_more c s text (next ∷ texts) n f.0 is_it.0 e is_it.1 f.1, ap (λ ys. n.step ∷ ys) f.2)
      by true is (Refused line) f = let is_it = next_is c s n is in fails_later next texts n line is_it.0 e is_it.1 f
      by false not later f = fails_here next texts (never not)

pub walk_finds : (c : Config) (s : State) (texts : List (List ℕ)) → 0 < length texts → Finds c s texts (walk c s texts)
walk_finds c s [] some = absurd (omega (arith, some))
walk_finds c s (text ∷ []) some = fails_alone c s text
walk_finds c s (text ∷ next ∷ texts) some =
    found c s text next texts (line_at text) refl (walk c (after_line c s (line_at text)) (next ∷ texts)) (walk_finds c (after_line c s (line_at text)) (next ∷ texts) (omega arith))
