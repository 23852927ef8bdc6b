-- A schedule's text gives one schedule, or one line of it is the first bad one.
use Rattle.std.proofs.Common.{◌≡◌, ◌≢◌, ◌∙◌, ◌⊎◌, ap, sym, refl, subst, inl, inr, ℕ, zero, suc, ◌+◌, ◌<◌, List, length, Option, Some, None, arith}
use Rattle.std.proofs.lemmas.Bool.{cases_lt}
use Rattle.ch_command.proofs.Commands.{said_once}
use Rattle.ch_command.specs.Command.{IsDecided, Refuses, refused}
use Rattle.ch_command.specs.declared.outcome.Ending.TheVariants.{Input}
use Rattle.ch_command.specs.declared.outcome.Outcome.{Outcome}
use Rattle.ch_lines.specs.Lines.{lines_of}
use Rattle.ch_schedule.specs.Bad.{IsFirstBad, IsSchedule, has_drain, steps_in, why_at}
use Rattle.ch_schedule.specs.declared.read.ScheduleError.{ScheduleError}
use Rattle.ch_schedule.specs.declared.read.ScheduleError.TheVariants.{Bad, Memory}
use Rattle.ch_schedule.specs.declared.read.ScheduleWhy.{ScheduleWhy}
use Rattle.ch_schedule.specs.declared.step.Schedule.{Schedule}
use Rattle.cheetah_inputs.specs.Inputs.{GivesSchedule, RejectsSchedule, drain_alone}
use Rattle.cheetah_inputs.specs.Messages.{schedule_line}

-- the first bad line among the first n
record FirstBad (texts : List (List ℕ)) (n : ℕ) : Type 0 where
  at : ℕ
  why : ScheduleWhy
  within : at < n
  bad : why_at texts at ≡ Some why
  others : (before : ℕ) → before < at → why_at texts before ≡ None

abbrev Good : List (List ℕ) → ℕ → Type 0
Good texts n = (at : ℕ) → at < n → why_at texts at ≡ None

good_or_bad : (texts : List (List ℕ)) (n : ℕ) → Good texts n ⊎ FirstBad texts n
good_or_bad texts zero = inl (λ at lt. absurd (omega (arith, lt)))
good_or_bad texts (suc n) = elim (good_or_bad texts n) [
  | inl good ↦ here (why_at texts n) refl good
  | inr bad ↦ inr (record { at = bad.at; why = bad.why; within = omega (arith, bad.within); bad = bad.bad; others = bad.others })
]
  where
    upto : Good texts n → why_at texts n ≡ None → Good texts (suc n)
    upto good none at lt = elim (cases_lt at n) [
      | inl below ↦ good at below
      | inr above ↦ let same : n ≡ at = omega (arith, lt, above) in subst (λ k. why_at texts k ≡ None) same none
    ]

    here : (found : Option ScheduleWhy) → why_at texts n ≡ found → Good texts n → Good texts (suc n) ⊎ FirstBad texts (suc n)
    here None e good = inl (upto good e)
    here (Some why) e good = inr (record { at = n; why = why; within = omega arith; bad = e; others = good })

no_some : {X : Type 0} (x : X) → None ≡ Some x → ⊥
no_some x e = cc

first_once : (texts : List (List ℕ)) (k l : ℕ) (why other : ScheduleWhy) → IsFirstBad texts k why → IsFirstBad texts l other → Bad k why ≡ Bad l other
first_once texts k l why other a b = elim (cases_lt a.at b.at) [
  | inl below ↦ absurd (no_some why (sym (b.others a.at below) ∙ a.bad))
  | inr above ↦ elim (cases_lt b.at a.at) [
    | inl below ↦ absurd (no_some other (sym (a.others b.at below) ∙ b.bad))
    | inr up ↦
        let same : a.at ≡ b.at = omega (arith, above, up) in
        let lines : k ≡ l = omega (arith, a.line_is, b.line_is, same) in
        let whys : why ≡ other = said why other (sym a.bad ∙ (ap (why_at texts) same ∙ b.bad)) in
        λ i. Bad (lines i) (whys i)
  ]
]
  where
    said : (x y : ScheduleWhy) → Some x ≡ Some y → x ≡ y
    said x y e = cc

abbrev says_schedule : ScheduleError → Outcome
says_schedule error = refused Input (schedule_line error)

rejected_once : (text : List ℕ) (e f : ScheduleError) → RejectsSchedule (Some text) e → RejectsSchedule (Some text) f → e ≡ f
rejected_once text (Bad k why) (Bad l other) p q = first_once (lines_of text) k l why other p.1 q.1
rejected_once text Memory f p q = absurd (p.0 refl)
rejected_once text (Bad k why) Memory p q = absurd (q.0 refl)

never_both : (text : List ℕ) (schedule : Schedule) (e : ScheduleError) → IsSchedule (lines_of text) schedule → RejectsSchedule (Some text) e → ⊥
never_both text schedule (Bad line why) p q = no_some why (sym (p.good q.1.at q.1.there) ∙ q.1.bad)
never_both text schedule Memory p q = q.0 refl

bad_is_known : (line : ℕ) (why : ScheduleWhy) → Bad line why ≢ Memory
bad_is_known line why e = cc

text_decided : (text : List ℕ) → ((schedule : Schedule) × GivesSchedule (Some text) schedule) ⊎ ((outcome : Outcome) × Refuses (RejectsSchedule (Some text)) says_schedule outcome)
text_decided text = elim (good_or_bad (lines_of text) (length (lines_of text))) [
  | inl good ↦ inl (record { steps = steps_in (lines_of text); drain = has_drain (lines_of text) }, record { good = good; steps_are = refl; drain_is = refl })
  | inr bad ↦ inr (
    says_schedule (Bad (bad.at + 1) bad.why),
    record {
      error = Bad (bad.at + 1) bad.why;
      is = (bad_is_known (bad.at + 1) bad.why, record { at = bad.at; line_is = refl; there = bad.within; bad = bad.bad; others = bad.others });
      said = refl;
    },
  )
]

pub schedules_decided : (text : Option (List ℕ)) → IsDecided (GivesSchedule text) (Refuses (RejectsSchedule text) says_schedule)
schedules_decided None = record {
  either = inl (drain_alone, refl);
  one_value = λ x y p q. p ∙ sym q;
  one_refusal = λ a b p q. absurd p.is;
  not_both = λ x outcome p q. q.is;
}
schedules_decided (Some text) = record {
  either = text_decided text;
  one_value = λ x y p q i. record { steps = (p.steps_are ∙ sym q.steps_are) i; drain = (p.drain_is ∙ sym q.drain_is) i };
  one_refusal = said_once (RejectsSchedule (Some text)) says_schedule (rejected_once text);
  not_both = λ schedule outcome p q. never_both text schedule q.error p q.is;
}
