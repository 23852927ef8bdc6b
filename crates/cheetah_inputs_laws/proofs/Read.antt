-- What the contents come to: a refusal, or what comes behind inputs.
use Rattle.std.proofs.Common.{◌≡◌, ◌∙◌, ◌⊎◌, ap, sym, refl, subst, inl, inr, ℕ, List, [], map, Option, Some, None, Result, Ok, Err}
use Rattle.ch_bind.proofs.Sounding.{bound_few, bound_sound}
use Rattle.ch_bind.specs.Binding.{PlainBound, bound_of, plain_bound}
use Rattle.ch_bind.specs.Checks.{bind_refusal}
use Rattle.ch_bind.specs.Shapes.{shape_of}
use Rattle.ch_bind.specs.Sums.{sum_refusal}
use Rattle.ch_bind.specs.declared.BindError.{BindError}
use Rattle.ch_bind.specs.declared.SumError.{SumError}
use Rattle.ch_bind.specs.declared.TableShape.{TableShape}
use Rattle.ch_command.specs.Command.{ReadThen, refused}
use Rattle.ch_command.specs.declared.outcome.Ending.TheVariants.{Input}
use Rattle.ch_command.specs.declared.outcome.Outcome.{Outcome}
use Rattle.ch_ir.specs.declared.profile.Profile.{Profile}
use Rattle.ch_pred.specs.declared.bound.Bound.{Bound}
use Rattle.ch_schedule.specs.declared.step.Schedule.{Schedule}
use Rattle.ch_sql.proofs.Readings.{spelled_parsed}
use Rattle.ch_sql_grammar.specs.Tree.{Select}
use Rattle.ch_sql_limits.specs.Texts.{Spells}
use Rattle.ch_tables.specs.TableValue.{TableValue}
use Rattle.cheetah_inputs.proofs.Chains.{reads_then, refused_then}
use Rattle.cheetah_inputs.proofs.Meanings.{contents_some}
use Rattle.cheetah_inputs.specs.Inputs.{AfterGiven, AreInputs, GivesSchedule, OfContents, OfSchedule, OfTables, never, profile_or_line, profile_text, schedule_text, tables_or_line}
use Rattle.cheetah_inputs.specs.Messages.{bind_line}
use Rattle.cheetah_inputs.specs.Question.{AfterBound, IsQuestion, OfBound, OfQuestion, OfSelect, bound_or_refused, or_refused, refused_sum, summed_or_refused, unfiltered}
use Rattle.cheetah_inputs.specs.Question as question
use Rattle.cheetah_inputs.specs.declared.inputs.Inputs.{Inputs}
use Rattle.cheetah_words.specs.Words.{Request}
use Rattle.cheetah_inputs_laws.proofs.Boxed.{boxed}
use Rattle.cheetah_inputs_laws.proofs.Short.{filter_short}
use Rattle.cheetah_inputs_laws.specs.Read.{IsRefusedOrRead, answering}

-- a bound query for the plain one that a text's query stands for
module _ (text : List ℕ) (tables : List TableValue) (q : Select) (spelled : Spells text q) (passes : bind_refusal q (map shape_of tables) ≡ None) where
  abbrev shapes : List TableShape
  shapes = map shape_of tables

  abbrev plain : PlainBound
  plain = bound_of q shapes

  bound_is : (b : Bound) × (plain_bound b ≡ plain)
  bound_is =
      let f = boxed plain.filter (filter_short q.source shapes q (spelled_parsed text q spelled)) in (
        record { tables = plain.tables; carried = plain.carried; kinds = plain.kinds; header = plain.header; printed = plain.printed; filter = f.0; shape = plain.shape },
        λ i. record { tables = plain.tables; carried = plain.carried; kinds = plain.kinds; header = plain.header; printed = plain.printed; filter = f.1 i; shape = plain.shape },
      )

  is_question : sum_refusal (unfiltered plain) tables ≡ None → (b : Bound) × (plain_bound b ≡ plain) × IsQuestion text tables b
  is_question summed =
      let b = bound_is in (
        b.0,
        b.1,
        record {
          query = q;
          spelled = spelled;
          passes = passes;
          is_bound = b.1;
          summed = ap (λ (p : PlainBound). sum_refusal (unfiltered p) tables) b.1 ∙ summed;
          sound = bound_sound (Ok b.0) q shapes (spelled_parsed text q spelled) (passes, b.1);
          few = bound_few (Ok b.0) q shapes (passes, b.1);
        },
      )

module _ (text : List ℕ) (tables : List TableValue) (next : AfterBound) (outcome : Outcome) where
  abbrev Refused : Type 0
  Refused = OfQuestion text tables question.never outcome

  abbrev Asked : Type 0
  Asked = (b : Bound) × IsQuestion text tables b × next (plain_bound b) outcome

  by_sum : (q : Select) → Spells text q → bind_refusal q (map shape_of tables) ≡ None → (o : Option SumError) → sum_refusal (unfiltered (bound_of q (map shape_of tables))) tables ≡ o
      → ReadThen (or_refused o (bound_of q (map shape_of tables))) (λ error. refused Input (refused_sum (bound_of q (map shape_of tables)) tables error)) next outcome → Refused ⊎ Asked
  by_sum q spelled passes None summed rest =
      let b = is_question text tables q spelled passes summed in inr (b.0, b.2, subst (λ p. next p outcome) (sym b.1) rest)
  by_sum q spelled passes (Some error) negative said =
      let p = bound_of q (map shape_of tables) in
      inl (inl (record {
        value = q;
        is = spelled;
        rest = reads_then (bound_or_refused q tables) (λ error. refused Input (bind_line error)) (OfBound tables question.never) p outcome (ap (λ o. or_refused o p) passes)
            (refused_then (summed_or_refused p tables) (λ error. refused Input (refused_sum p tables error)) question.never error outcome (ap (λ o. or_refused o p) negative) said);
      }))

  by_bind : (q : Select) → Spells text q → (o : Option BindError) → bind_refusal q (map shape_of tables) ≡ o
      → ReadThen (or_refused o (bound_of q (map shape_of tables))) (λ error. refused Input (bind_line error)) (OfBound tables next) outcome → Refused ⊎ Asked
  by_bind q spelled None passes rest = by_sum q spelled passes (sum_refusal (unfiltered (bound_of q (map shape_of tables))) tables) refl rest
  by_bind q spelled (Some error) found said =
      inl (inl (record {
        value = q;
        is = spelled;
        rest = refused_then (bound_or_refused q tables) (λ error. refused Input (bind_line error)) (OfBound tables question.never) error outcome (ap (λ o. or_refused o (bound_of q (map shape_of tables))) found) said;
      }))

  question_given : OfQuestion text tables next outcome → Refused ⊎ Asked
  question_given (inl read) = by_bind read.value read.is (bind_refusal read.value (map shape_of tables)) refl read.rest
  question_given (inr bad) = inl (inr bad)

module _ (request : Request) (contents : List (List ℕ)) (next : AfterGiven) (outcome : Outcome) where
  abbrev Comes : Type 0
  Comes = IsRefusedOrRead request contents next outcome

  abbrev behind : AfterGiven → Profile → Schedule → List TableValue → AfterBound
  behind rest profile schedule tables q = rest (record { profile = profile; schedule = schedule; tables = tables; query = q })

  module _ (profile : Profile) (read : profile_or_line (profile_text request contents) ≡ Ok profile) where
    none_left : OfSchedule request contents never profile outcome → Comes
    none_left rest = inl (reads_then (profile_or_line (profile_text request contents)) (refused Input) (OfSchedule request contents never) profile outcome read rest)

    module _ (schedule : Schedule) (gives : GivesSchedule (schedule_text request contents) schedule) where
      none_behind : OfTables request contents never profile schedule outcome → Comes
      none_behind rest = none_left (inl (record { value = schedule; is = gives; rest = rest }))

      by_tables : (r : Result (List TableValue) (List ℕ)) → tables_or_line request contents ≡ r → ReadThen r (refused Input) (λ tables. OfQuestion request.query tables (behind next profile schedule tables)) outcome → Comes
      by_tables (Ok tables) is rest = elim (question_given request.query tables (behind next profile schedule tables) outcome rest) [
        | inl bad ↦ none_behind (reads_then (tables_or_line request contents) (refused Input) (λ tables. OfQuestion request.query tables (behind never profile schedule tables)) tables outcome is bad)
        | inr asked ↦ inr (record {
          inputs = record { profile = profile; schedule = schedule; tables = tables; bound = asked.0 };
          are = record { profile = read; schedule = gives; tables = is; question = asked.1 };
          rest = asked.2;
        })
      ]
      by_tables (Err line) is said =
          none_behind (refused_then (tables_or_line request contents) (refused Input) (λ tables. OfQuestion request.query tables (behind never profile schedule tables)) line outcome is said)

    by_schedule : OfSchedule request contents next profile outcome → Comes
    by_schedule (inl given) = by_tables given.value given.is (tables_or_line request contents) refl given.rest
    by_schedule (inr bad) = none_left (inr bad)

  by_profile : (r : Result Profile (List ℕ)) → profile_or_line (profile_text request contents) ≡ r → ReadThen r (refused Input) (OfSchedule request contents next) outcome → Comes
  by_profile (Ok profile) is rest = by_schedule profile is rest
  by_profile (Err line) is said = inl (refused_then (profile_or_line (profile_text request contents)) (refused Input) (OfSchedule request contents never) line outcome is said)

  pub contents_given : OfContents request next contents outcome → Comes
  contents_given of = by_profile (profile_or_line (profile_text request contents)) refl of

pub either : (request : Request) (contents : List (List ℕ)) → ((outcome : Outcome) × OfContents request never contents outcome) ⊎ ((inputs : Inputs) × AreInputs request contents inputs)
either request contents =
    let some = contents_some request contents (answering (λ given. refused Input [])) (λ given. (refused Input [], refl)) in
    elim (contents_given request contents (answering (λ given. refused Input [])) some.0 some.1) [
      | inl bad ↦ inl (some.0, bad)
      | inr read ↦ inr (read.inputs, read.are)
    ]
