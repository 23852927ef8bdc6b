-- The lines of a schedule that is drawn, and the steps that they say.
use Rattle.std.proofs.Common.{◌≡◌, ◌<◌, ◌≤◌, ◌+◌, ◌++◌, ℕ, zero, suc, Bool, true, false, cond, List, [], ◌∷◌, Option, Some, None, refl, sym, ◌∙◌, ap, ap₂, subst, arith, codes, inl, inr, length, length-append, get_or, take, append_assoc, lit<}
use Rattle.std.specs.Prelude.{◌||◌, nat_le}
use Rattle.std.proofs.lemmas.Bool.Decides.{nat_tests}
use Rattle.std.specs.List.{list_all}
use Rattle.std.proofs.lemmas.Bool.{cases_lt}
use Rattle.std.proofs.lemmas.Fmt.{decimal_digit}
use Rattle.rand_pcg.specs.Lcg.{Lcg}
use Rattle.ch_lines.specs.Lines.{fields_of, is_inner, lines_of, says, without_cr}
use Rattle.ch_lines.proofs.LineLemmas.{lines_of-feed}
use Rattle.ch_generated.specs.Draws.{after, drawn}
use Rattle.ch_generated.specs.Inputs.{schedule_begins, workers_of}
use Rattle.ch_generated.specs.ScheduleText.{after_step, line_of, numbered_line, schedule_text, step_line, steps_text}
use Rattle.ch_generated.specs.declared.InputKind.{InputKind}
use Rattle.ch_generated.specs.declared.InputKind.TheVariants.{Filter, Distinct, Top, Group, Having, Join, Skyline}
use Rattle.ch_generated.specs.declared.Request.{Request}
use Rattle.ch_schedule.specs.Bad.{IsSchedule, has_drain, is_drain, is_forged, line_why, said_in, said_why, steps_in, steps_of, why_at}
use Rattle.ch_schedule.specs.Line as reading
use Rattle.ch_schedule.specs.declared.line.Line.{Line}
use Rattle.ch_schedule.specs.declared.line.Line.TheVariants as line
use Rattle.ch_schedule.specs.declared.step.How.TheVariants.{Take}
use Rattle.ch_schedule.specs.declared.step.Step.{Step}
use Rattle.ch_schedule.specs.declared.step.Step.TheVariants as step
use Rattle.ch_generated_laws.specs.Steps.{drawn_step, drawn_steps, schedule_of, step_of}

-- the text is a line that says this step
record IsStepLine (text : List ℕ) (s : Step) : Type 0 where
  bytes : List ℕ
  text_is : text ≡ bytes ++ 10 ∷ []
  inner : list_all is_inner bytes ≡ true
  bare : without_cr bytes ≡ bytes
  said : said_in bytes ≡ Some (line.Step s)
  plain : is_forged s ≡ false

-- a line of one digit
digit_line : (name : List ℕ) (n : ℕ) → n < 10 → numbered_line name n ≡ name ++ ((48 + n) ∷ 10 ∷ [])
digit_line name n h = ap (λ (ds : List ℕ). name ++ (ds ++ 10 ∷ [])) (decimal_digit n h)

-- what holds of each number below five, and of each below eight
pub below_five : (P : ℕ → Type 0) → P 0 → P 1 → P 2 → P 3 → P 4 → (n : ℕ) → n < 5 → P n
below_five P a b c d e zero h = a
below_five P a b c d e (suc zero) h = b
below_five P a b c d e (suc (suc zero)) h = c
below_five P a b c d e (suc (suc (suc zero))) h = d
below_five P a b c d e (suc (suc (suc (suc zero)))) h = e
below_five P a b c d e (suc (suc (suc (suc (suc n))))) h = absurd (omega arith)

pub below_eight : (P : ℕ → Type 0) → ((n : ℕ) → n < 5 → P n) → P 5 → P 6 → P 7 → (n : ℕ) → n < 8 → P n
below_eight P less f g h zero lt = less 0 (lit< tt)
below_eight P less f g h (suc zero) lt = less 1 (lit< tt)
below_eight P less f g h (suc (suc zero)) lt = less 2 (lit< tt)
below_eight P less f g h (suc (suc (suc zero))) lt = less 3 (lit< tt)
below_eight P less f g h (suc (suc (suc (suc zero)))) lt = less 4 (lit< tt)
below_eight P less f g h (suc (suc (suc (suc (suc zero))))) lt = f
below_eight P less f g h (suc (suc (suc (suc (suc (suc zero)))))) lt = g
below_eight P less f g h (suc (suc (suc (suc (suc (suc (suc zero))))))) lt = h
below_eight P less f g h (suc (suc (suc (suc (suc (suc (suc (suc n)))))))) lt = absurd (omega arith)

send_line : (n : ℕ) → n < 5 → IsStepLine (numbered_line (codes "send ") n) (step.Send n)
unfolding reading.line_of
send_line = below_five (λ n. IsStepLine (numbered_line (codes "send ") n) (step.Send n))
    (record { bytes = codes "send 0"; text_is = digit_line (codes "send ") 0 (lit< tt); inner = refl; bare = refl; said = refl; plain = refl })
    (record { bytes = codes "send 1"; text_is = digit_line (codes "send ") 1 (lit< tt); inner = refl; bare = refl; said = refl; plain = refl })
    (record { bytes = codes "send 2"; text_is = digit_line (codes "send ") 2 (lit< tt); inner = refl; bare = refl; said = refl; plain = refl })
    (record { bytes = codes "send 3"; text_is = digit_line (codes "send ") 3 (lit< tt); inner = refl; bare = refl; said = refl; plain = refl })
    (record { bytes = codes "send 4"; text_is = digit_line (codes "send ") 4 (lit< tt); inner = refl; bare = refl; said = refl; plain = refl })

up_line : (n : ℕ) → n < 5 → IsStepLine (numbered_line (codes "up ") n) (step.Up n Take)
unfolding reading.line_of
up_line = below_five (λ n. IsStepLine (numbered_line (codes "up ") n) (step.Up n Take))
    (record { bytes = codes "up 0"; text_is = digit_line (codes "up ") 0 (lit< tt); inner = refl; bare = refl; said = refl; plain = refl })
    (record { bytes = codes "up 1"; text_is = digit_line (codes "up ") 1 (lit< tt); inner = refl; bare = refl; said = refl; plain = refl })
    (record { bytes = codes "up 2"; text_is = digit_line (codes "up ") 2 (lit< tt); inner = refl; bare = refl; said = refl; plain = refl })
    (record { bytes = codes "up 3"; text_is = digit_line (codes "up ") 3 (lit< tt); inner = refl; bare = refl; said = refl; plain = refl })
    (record { bytes = codes "up 4"; text_is = digit_line (codes "up ") 4 (lit< tt); inner = refl; bare = refl; said = refl; plain = refl })

-- each step of the eight
line_says : (workers : ℕ) (g : Lcg) → drawn workers g < 5 → (number : ℕ) → number < 8 → IsStepLine (line_of workers number g) (step_of workers number g)
unfolding reading.line_of
line_says workers g few = below_eight (λ number. IsStepLine (line_of workers number g) (step_of workers number g))
    (below_five (λ number. IsStepLine (line_of workers number g) (step_of workers number g))
    (send_line (drawn workers g) few)
    (send_line (drawn workers g) few)
    (send_line (drawn workers g) few)
    (record { bytes = codes "up 0"; text_is = refl; inner = refl; bare = refl; said = refl; plain = refl })
    (up_line (drawn 4 g) (omega arith)))
    (record { bytes = codes "down 0"; text_is = refl; inner = refl; bare = refl; said = refl; plain = refl })
    (record { bytes = codes "back 0"; text_is = refl; inner = refl; bare = refl; said = refl; plain = refl })
    (record { bytes = codes "up 0 lose"; text_is = refl; inner = refl; bare = refl; said = refl; plain = refl })

pub few_workers : (kind : InputKind) (g : Lcg) → drawn (workers_of kind) g < 5
few_workers Filter g = omega arith
few_workers Distinct g = omega arith
few_workers Top g = omega arith
few_workers Group g = omega arith
few_workers Having g = omega arith
few_workers Join g = omega arith
few_workers Skyline g = omega arith

step_says : (kind : InputKind) (g : Lcg) → IsStepLine (step_line (workers_of kind) g) (drawn_step (workers_of kind) g)
unfolding step_line drawn_step
step_says kind g = line_says (workers_of kind) (after 1 g) (few_workers kind (after 1 g)) (drawn 8 g) (omega arith)

-- lines that say these steps
data AreStepLines : List (List ℕ) → List Step → Type 0 where
  none : AreStepLines [] []
  more : {text : List ℕ} {s : Step} {texts : List (List ℕ)} {steps : List Step} → said_in text ≡ Some (line.Step s) → is_forged s ≡ false → AreStepLines texts steps → AreStepLines (text ∷ texts) (s ∷ steps)

-- what is read of a text that goes on, where these are its first lines
record Begins (text : List ℕ) (steps : List Step) : Type 0 where
  texts : List (List ℕ)
  are : AreStepLines texts steps
  lines : (rest : List ℕ) → lines_of (text ++ rest) ≡ texts ++ lines_of rest

begins_more : (first text : List ℕ) (s : Step) (steps : List Step) → IsStepLine first s → Begins text steps → Begins (first ++ text) (s ∷ steps)
begins_more first text s steps l b = record {
  texts = l.bytes ∷ b.texts;
  are = more l.said l.plain b.are;
  lines = λ rest. ap (λ (t : List ℕ). lines_of ((t ++ text) ++ rest)) l.text_is ∙ ap lines_of (append_assoc (l.bytes ++ 10 ∷ []) text rest ∙ append_assoc l.bytes (10 ∷ []) (text ++ rest))
      ∙ lines_of-feed l.bytes (text ++ rest) l.inner ∙ ap₂ (λ (t : List ℕ) (ts : List (List ℕ)). t ∷ ts) l.bare (b.lines rest);
}

steps_begin : (kind : InputKind) (n : ℕ) (g : Lcg) → Begins (steps_text (workers_of kind) n g) (drawn_steps (workers_of kind) n g)
unfolding steps_text drawn_steps
steps_begin kind zero g = record { texts = []; are = none; lines = λ rest. refl }
steps_begin kind (suc n) g =
    begins_more (step_line (workers_of kind) g) (steps_text (workers_of kind) n (after_step g)) (drawn_step (workers_of kind) g) (drawn_steps (workers_of kind) n (after_step g))
    (step_says kind g) (steps_begin kind n (after_step g))

drawn_len : (w n : ℕ) (g : Lcg) → length (drawn_steps w n g) ≡ n
unfolding drawn_steps
drawn_len w zero g = refl
drawn_len w (suc n) g = ap (λ (k : ℕ). suc k) (drawn_len w n (after_step g))

steps_are : (texts : List (List ℕ)) (steps : List Step) → AreStepLines texts steps → steps_in (texts ++ codes "drain" ∷ []) ≡ steps
unfolding reading.line_of
steps_are [] [] none = refl
steps_are [] (s ∷ steps) are = elim are [ ]
steps_are (text ∷ texts) [] are = elim are [ ]
steps_are (text ∷ texts) (s ∷ steps) (more said plain ms) = ap₂ (λ (l : Option Line) (xs : List Step). steps_of l ++ xs) said (steps_are texts steps ms)

drains : (texts : List (List ℕ)) (steps : List Step) → AreStepLines texts steps → has_drain (texts ++ codes "drain" ∷ []) ≡ true
unfolding reading.line_of
drains [] [] none = refl
drains [] (s ∷ steps) are = elim are [ ]
drains (text ∷ texts) [] are = elim are [ ]
drains (text ∷ texts) (s ∷ steps) (more said plain ms) = ap₂ (λ (l : Option Line) (b : Bool). is_drain l || b) said (drains texts steps ms)

-- the lines before a place are no drain, and say as many steps
before_no_drain : (texts : List (List ℕ)) (steps : List Step) (rest : List (List ℕ)) (at : ℕ) → AreStepLines texts steps → at ≤ length texts → has_drain (take at (texts ++ rest)) ≡ false
before_no_drain texts steps rest zero are h = refl
before_no_drain [] [] rest (suc at) none h = absurd (omega arith)
before_no_drain [] (s ∷ steps) rest (suc at) are h = elim are [ ]
before_no_drain (text ∷ texts) [] rest (suc at) are h = elim are [ ]
before_no_drain (text ∷ texts) (s ∷ steps) rest (suc at) (more said plain ms) h = ap₂ (λ (l : Option Line) (b : Bool). is_drain l || b) said (before_no_drain texts steps rest at ms (omega arith))

before_few : (texts : List (List ℕ)) (steps : List Step) (rest : List (List ℕ)) (at : ℕ) → AreStepLines texts steps → at ≤ length texts → length (steps_in (take at (texts ++ rest))) ≡ at
before_few texts steps rest zero are h = refl
before_few [] [] rest (suc at) none h = absurd (omega arith)
before_few [] (s ∷ steps) rest (suc at) are h = elim are [ ]
before_few (text ∷ texts) [] rest (suc at) are h = elim are [ ]
before_few (text ∷ texts) (s ∷ steps) rest (suc at) (more said plain ms) h =
    ap (λ (l : Option Line). length (steps_of l ++ steps_in (take at (texts ++ rest)))) said ∙ ap (λ (k : ℕ). suc k) (before_few texts steps rest at ms (omega arith))

-- a line that says a step is good
good_by : (b : Bool) (o : Option Line) (n : ℕ) (s : Step) → n < 1000000 → is_forged s ≡ false → cond b o None ≡ Some (line.Step s) → cond b (said_why false n o) None ≡ None
good_by false o n s lt plain said = refl
good_by true o n s lt plain said = let few : nat_le 1000000 n ≡ false = grind (arith, nat_tests) in rw said (rw (few, plain) refl)

good_here : (texts : List (List ℕ)) (steps : List Step) (rest : List (List ℕ)) (at n : ℕ) → AreStepLines texts steps → at < length texts → n < 1000000 → line_why false n (get_or (texts ++ rest) at []) ≡ None
good_here [] [] rest at n none h lt = absurd (omega arith)
good_here [] (s ∷ steps) rest at n are h lt = elim are [ ]
good_here (text ∷ texts) [] rest at n are h lt = elim are [ ]
good_here (text ∷ texts) (s ∷ steps) rest zero n (more said plain ms) h lt = good_by (says (fields_of text)) (reading.line_of (fields_of text)) n s lt plain said
good_here (text ∷ texts) (s ∷ steps) rest (suc at) n (more said plain ms) h lt = good_here texts steps rest at n ms (omega arith) lt

drain_here : (texts : List (List ℕ)) (n : ℕ) → line_why false n (get_or (texts ++ codes "drain" ∷ []) (length texts) []) ≡ None
unfolding reading.line_of
drain_here [] n = refl
drain_here (text ∷ texts) n = drain_here texts n

lines_len : (texts : List (List ℕ)) (steps : List Step) → AreStepLines texts steps → length texts ≡ length steps
lines_len [] [] none = refl
lines_len [] (s ∷ steps) are = elim are [ ]
lines_len (text ∷ texts) [] are = elim are [ ]
lines_len (text ∷ texts) (s ∷ steps) (more said plain ms) = ap (λ (k : ℕ). suc k) (lines_len texts steps ms)

why_none : (texts : List (List ℕ)) (steps : List Step) (at : ℕ) → AreStepLines texts steps → length steps ≤ 1000 → at < length texts + 1 → why_at (texts ++ codes "drain" ∷ []) at ≡ None
why_none texts steps at are few lt =
    let len = lines_len texts steps are in
    let within : at ≤ length texts = omega arith in
    let small : at < 1000000 = omega arith in
    let all : List (List ℕ) = texts ++ codes "drain" ∷ [] in
    ap₂ (λ (b : Bool) (n : ℕ). line_why b n (get_or all at [])) (before_no_drain texts steps (codes "drain" ∷ []) at are within) (before_few texts steps (codes "drain" ∷ []) at are within)
    ∙ elim (cases_lt at (length texts)) [
      | inl inside ↦ good_here texts steps (codes "drain" ∷ []) at at are inside small
      | inr last ↦ let same : at ≡ length texts = omega arith in ap (λ (n : ℕ). line_why false at (get_or all n [])) same ∙ drain_here texts at
    ]

pub read_as : (request : Request) → IsSchedule (lines_of (schedule_text (workers_of request.kind) (schedule_begins request))) (schedule_of request)
unfolding schedule_text
read_as request =
    let w : ℕ = workers_of request.kind in
    let g : Lcg = schedule_begins request in
    let b = steps_begin request.kind 1000 g in
    let len = drawn_len w 1000 g in
    let few : length (drawn_steps w 1000 g) ≤ 1000 = omega arith in
    let all = b.texts ++ codes "drain" ∷ [] in
    let same : lines_of (schedule_text w g) ≡ all = b.lines (codes "drain\n") in
    subst (λ (ts : List (List ℕ)). IsSchedule ts (schedule_of request)) (sym same) (record {
      good = λ at lt. why_none b.texts (drawn_steps w 1000 g) at b.are few (let l = length-append b.texts (codes "drain" ∷ []) in omega arith);
      steps_are = sym (steps_are b.texts (drawn_steps w 1000 g) b.are);
      drain_is = sym (drains b.texts (drawn_steps w 1000 g) b.are);
    })
