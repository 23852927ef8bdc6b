-- A schedule that is read has few steps, and none of them is forged.
use Rattle.std.proofs.Common.{◌≡◌, ◌<◌, ◌≤◌, ◌+◌, ◌++◌, ℕ, zero, suc, All, Bool, true, false, cond, List, [], ◌∷◌, refl, sym, ◌∙◌, ap, arith, length, get_or, take, Option, Some, None, subst}
use Rattle.std.specs.Prelude.{◌&&◌, not, nat_le}
use Rattle.std.specs.List.{list_all}
use Rattle.std.proofs.Math.Seq.{take-length}
use Rattle.std.proofs.lemmas.Bool.Decides.{nat_tests}
use Rattle.std.proofs.lemmas.List.{append-nil, length-append, take_more}
use Rattle.std.proofs.lemmas.List.Elements.{All-nil, All-cons}
use Rattle.std.proofs.lemmas.List.Folds.{list_all-append}
use Rattle.ch_lines.specs.Lines.{fields_of, says}
use Rattle.ch_schedule.specs.declared.line.Line.{Line}
use Rattle.ch_schedule.specs.declared.line.Line.TheVariants as line
use Rattle.ch_schedule.specs.declared.read.ScheduleWhy.TheVariants.{Forged, TooMany}
use Rattle.ch_schedule.specs.declared.step.Step.{Step}
use Rattle.ch_schedule.specs.declared.step.Schedule.{Schedule}
use Rattle.ch_schedule.specs.Bad.{IsSchedule, has_drain, is_forged, line_why, said_in, said_why, step_why, steps_in, steps_of, why_at}
use Rattle.ch_schedule.specs.Line.{line_of}
use Rattle.ch_schedule.proofs.Lines.{steps_append}

abbrev is_fair : Step → Bool
is_fair s = not (is_forged s)

both_true : (a b : Bool) → a ≡ true → b ≡ true → (a && b) ≡ true
both_true true b e f = f
both_true false b e f = cc

-- steps that may follow so many others
pub record AreWithin (many : ℕ) (steps : List Step) : Type 0 where
  pub few : many + length steps ≤ 1000000
  pub fair : list_all is_fair steps ≡ true

none_more : (many : ℕ) → many ≤ 1000000 → AreWithin many []
none_more many h = record { few = omega (arith, h); fair = refl }

step_within : (drained : Bool) (many : ℕ) (s : Step) → step_why drained many s ≡ None → AreWithin many (s ∷ [])
step_within true many s e = cc
step_within false many s e = go (nat_le 1000000 many) (is_forged s) refl refl e
  where
    go : (full forged : Bool) → nat_le 1000000 many ≡ full → is_forged s ≡ forged → cond full (Some TooMany) (cond forged (Some Forged) None) ≡ None → AreWithin many (s ∷ [])
    go true forged f g e = cc
    go false true f g e = cc
    go false false f g e = record { few = grind (arith, nat_tests); fair = both_true (is_fair s) true (ap not g) refl }

said_within : (drained : Bool) (many : ℕ) (o : Option Line) → many ≤ 1000000 → said_why drained many o ≡ None → AreWithin many (steps_of o)
said_within drained many None h e = cc
said_within drained many (Some line.Drain) h e = none_more many h
said_within drained many (Some (line.Step s)) h e = step_within drained many s e

line_within : (drained : Bool) (many : ℕ) (text : List ℕ) → many ≤ 1000000 → line_why drained many text ≡ None → AreWithin many (steps_of (said_in text))
line_within drained many text h e = go (says (fields_of text)) e
  where
    go : (b : Bool) → cond b (said_why drained many (line_of (fields_of text))) None ≡ None → AreWithin many (steps_of (cond b (line_of (fields_of text)) None))
    go true e = said_within drained many (line_of (fields_of text)) h e
    go false e = none_more many h

-- the steps of the lines before a place
before_within : (texts : List (List ℕ)) → ((at : ℕ) → at < length texts → why_at texts at ≡ None) → (at : ℕ) → at ≤ length texts → AreWithin 0 (steps_in (take at texts))
before_within texts good zero h = none_more 0 (omega arith)
before_within texts good (suc at) h =
    let front = before_within texts good at (omega (arith, h)) in
    let here : at < length texts = omega (arith, h) in
    let text = get_or texts at [] in
    let front_few = front.few in
    let step = line_within (has_drain (take at texts)) (length (steps_in (take at texts))) text (omega (arith, front_few)) (good at here) in
    let one : suc at ≡ at + 1 = omega arith in
    let is : steps_in (take (suc at) texts) ≡ steps_in (take at texts) ++ steps_of (said_in text) =
    ap (λ k. steps_in (take k texts)) one
    ∙ (ap steps_in (take_more texts at [] here) ∙ (steps_append (take at texts) (text ∷ []) ∙ ap (λ (ss : List Step). steps_in (take at texts) ++ ss) (append-nil (steps_of (said_in text))))) in
    let size = length-append (steps_in (take at texts)) (steps_of (said_in text)) in
    let few = step.few in
    subst (AreWithin 0) (sym is) (record {
      few = omega (arith, size, few);
      fair = list_all-append is_fair (steps_in (take at texts)) (steps_of (said_in text)) ∙ both_true (list_all is_fair (steps_in (take at texts))) (list_all is_fair (steps_of (said_in text))) front.fair step.fair;
    })

read_within : (texts : List (List ℕ)) (schedule : Schedule) → IsSchedule texts schedule → AreWithin 0 schedule.steps
read_within texts schedule is = subst (AreWithin 0) (ap steps_in (take-length texts) ∙ sym is.steps_are) (before_within texts is.good (length texts) (omega arith))

pub read_few : (texts : List (List ℕ)) (schedule : Schedule) → IsSchedule texts schedule → length schedule.steps ≤ 1000000
read_few texts schedule is = let few = (read_within texts schedule is).few in omega (arith, few)

pub read_fair : (texts : List (List ℕ)) (schedule : Schedule) → IsSchedule texts schedule → list_all (λ step. not (is_forged step)) schedule.steps ≡ true
read_fair texts schedule is = (read_within texts schedule is).fair

unforged_from : (steps : List Step) → list_all is_fair steps ≡ true → All (λ step. is_forged step ≡ false) steps
unforged_from [] h = All-nil (λ step. is_forged step ≡ false)
unforged_from (s ∷ steps) h = go (is_forged s) refl h (unforged_from steps)
  where
    go : (forged : Bool) → is_forged s ≡ forged → (not forged && list_all is_fair steps) ≡ true → (list_all is_fair steps ≡ true → All (λ step. is_forged step ≡ false) steps)
        → All (λ step. is_forged step ≡ false) (s ∷ steps)
    go true e h ih = cc
    go false e h ih = All-cons (λ step. is_forged step ≡ false) s steps e (ih h)

pub read_unforged : (texts : List (List ℕ)) (schedule : Schedule) → IsSchedule texts schedule → All (λ step. is_forged step ≡ false) schedule.steps
read_unforged texts schedule is = unforged_from schedule.steps (read_fair texts schedule is)
