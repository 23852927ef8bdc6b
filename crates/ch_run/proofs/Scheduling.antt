-- The steps of a schedule that is read.
use Rattle.std.proofs.Common.{◌≡◌, ℕ, zero, suc, ◌+◌, ◌<◌, ◌≤◌, Bool, true, false, List, [], ◌∷◌, ◌++◌, length, take, refl, ap, sym, ◌∙◌, arith, subst, inl, inr}
use Rattle.std.specs.Prelude.{All, Option, Some, None, get_or, if◌then◌else◌, nat_le}
use Rattle.std.proofs.lemmas.List.{append-nil, length-append, take_more}
use Rattle.std.proofs.lemmas.Bool.{leb-false}
use Rattle.ch_lists.specs.Members.{Each}
use Rattle.ch_lists.proofs.Members.{In-append}
use Rattle.ch_lines.specs.Lines.{fields_of, says}
use Rattle.ch_schedule.specs.Bad.{IsSchedule, is_forged, said_in, said_why, step_why, steps_in, steps_of, why_at}
use Rattle.ch_schedule.specs.Line.{line_of}
use Rattle.ch_schedule.specs.declared.line.Line.{Line}
use Rattle.ch_schedule.specs.declared.line.Line.TheVariants as line
use Rattle.ch_schedule.specs.declared.step.Step.{Step}
use Rattle.ch_schedule.specs.declared.step.Schedule.{Schedule}
use Rattle.ch_schedule.specs.declared.read.ScheduleWhy.TheVariants.{AfterDrain, TooMany, Forged}

-- a step that may follow so many others
record IsFair (many : ℕ) (s : Step) : Type 0 where
  pub few : many < 1000000
  pub unforged : is_forged s ≡ false

fair_step : (drained : Bool) (many : ℕ) (s : Step) → step_why drained many s ≡ None → IsFair many s
fair_step drained many s e = go drained (nat_le 1000000 many) (is_forged s) refl refl e
  where
    go : (d t f : Bool) → nat_le 1000000 many ≡ t → is_forged s ≡ f → (if d then Some AfterDrain else if t then Some TooMany else if f then Some Forged else None) ≡ None → IsFair many s
    go true t f et ef h = absurd (cc)
    go false true f et ef h = absurd (cc)
    go false false true et ef h = absurd (cc)
    go false false false et ef h = let le = leb-false 1000000 many et in record { few = omega (arith, le); unforged = ef }

-- the steps of a line that is not bad: none, or one that may follow
fair_said : (drained says' : Bool) (many : ℕ) (o : Option Line) → (if says' then said_why drained many o else None) ≡ None → Each (IsFair many) (steps_of (if says' then o else None)) × (length (steps_of (if says' then o else None)) ≤ 1)
fair_said drained false many o e = (λ x i. absurd i, omega arith)
fair_said drained true many None e = absurd (cc)
fair_said drained true many (Some line.Drain) e = (λ x i. absurd i, omega arith)
fair_said drained true many (Some (line.Step s)) e = (λ x i. elim i [ inl same ↦ subst (IsFair many) (sym same) (fair_step drained many s e) | inr none ↦ absurd none ], omega arith)

steps_push : (texts : List (List ℕ)) (text : List ℕ) → steps_in (texts ++ text ∷ []) ≡ steps_in texts ++ steps_of (said_in text)
steps_push [] text = append-nil (steps_of (said_in text))
steps_push (t ∷ texts) text = ap (λ xs. steps_of (said_in t) ++ xs) (steps_push texts text) ∙ sym (appended (steps_of (said_in t)) (steps_in texts) (steps_of (said_in text)))
  where
    appended : (xs ys zs : List Step) → (xs ++ ys) ++ zs ≡ xs ++ (ys ++ zs)
    appended [] ys zs = refl
    appended (x ∷ xs) ys zs = ap (λ us. x ∷ us) (appended xs ys zs)

-- the steps of the first lines
record AreFair (steps : List Step) : Type 0 where
  pub few : length steps ≤ 1000000
  pub unforged : Each (λ x. is_forged x ≡ false) steps

fair_more : (steps more : List Step) → AreFair steps → Each (IsFair (length steps)) more → length more ≤ 1 → AreFair (steps ++ more)
fair_more steps [] a b le = subst AreFair (sym (append-nil steps)) a
fair_more steps (x ∷ []) a b le = record {
  few = let l = length-append steps (x ∷ []) in let lt = (b x (inl refl)).few in omega (arith, l, lt);
  unforged = λ y i. elim (In-append y steps (x ∷ []) i) [ inl j ↦ a.unforged y j | inr j ↦ (b y j).unforged ];
}
fair_more steps (x ∷ y ∷ more) a b le = absurd (omega (arith, le))

fair_below : (texts : List (List ℕ)) (n : ℕ) → ((at : ℕ) → at < length texts → why_at texts at ≡ None) → n ≤ length texts → AreFair (steps_in (take n texts))
fair_below texts zero good le = subst (λ ts. AreFair (steps_in ts)) (sym (take_none texts)) (record { few = omega arith; unforged = λ x i. absurd i })
  where
    take_none : (ts : List (List ℕ)) → take 0 ts ≡ []
    take_none [] = refl
    take_none (t ∷ ts) = refl
fair_below texts (suc n) good le =
    let text = get_or texts n [] in
    let before = fair_below texts n good (omega (arith, le)) in
    let one = fair_said _ (says (fields_of text)) (length (steps_in (take n texts))) (line_of (fields_of text)) (good n (omega (arith, le))) in
    let same : n + 1 ≡ suc n = omega arith in
    subst (λ ts. AreFair (steps_in ts)) (sym (take_more texts n [] (omega (arith, le))) ∙ ap (λ k. take k texts) same)
    (subst AreFair (sym (steps_push (take n texts) text)) (fair_more (steps_in (take n texts)) (steps_of (said_in text)) before one.0 one.1))

take_all : {X : Type 0} (xs : List X) → take (length xs) xs ≡ xs
take_all [] = refl
take_all (x ∷ xs) = ap (λ ys. x ∷ ys) (take_all xs)

all_of : {X : Type 0} (P : X → Type 0) (xs : List X) → Each P xs → All P xs
all_of P [] e k d lt = absurd (omega (arith, lt))
all_of P (x ∷ xs) e zero d lt = e x (inl refl)
all_of P (x ∷ xs) e (suc k) d lt = all_of P xs (λ y i. e y (inr i)) k d (omega (arith, lt))

fair_whole : (texts : List (List ℕ)) (schedule : Schedule) → IsSchedule texts schedule → AreFair schedule.steps
fair_whole texts schedule is =
    subst AreFair (sym is.steps_are) (subst (λ ts. AreFair (steps_in ts)) (take_all texts) (fair_below texts (length texts) is.good (omega arith)))

pub schedule_unforged : (texts : List (List ℕ)) (schedule : Schedule) → IsSchedule texts schedule → All (λ x. is_forged x ≡ false) schedule.steps
schedule_unforged texts schedule is = all_of (λ x. is_forged x ≡ false) schedule.steps (fair_whole texts schedule is).unforged

pub schedule_short : (texts : List (List ℕ)) (schedule : Schedule) → IsSchedule texts schedule → length schedule.steps ≤ 1000000
schedule_short texts schedule is = (fair_whole texts schedule is).few
