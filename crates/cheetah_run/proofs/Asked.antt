-- What was read meets what a run asks.
use Rattle.std.proofs.Common.{◌≡◌, refl, ℕ, suc, ◌<◌, ◌≤◌, ◌^◌, false, List, [], ◌∷◌, All, length, max, arith, inl, inr}
use Rattle.ch_asked.proofs.Bound.{bound_suit}
use Rattle.ch_asked.proofs.Few.{few_workers, small_workers, some_workers}
use Rattle.ch_asked.specs.Suits.{AreSmall}
use Rattle.ch_asked.specs.Texts.{asked_texts, dictionary_of}
use Rattle.ch_parts.specs.Scanned.{AreTables, parts_of}
use Rattle.ch_plan.specs.Kinds.{IsPlannable}
use Rattle.ch_plan.specs.Needs.{greatest_length}
use Rattle.ch_plan.specs.Policy.{passes_of}
use Rattle.ch_plan.specs.Ranged.{IsRanged}
use Rattle.ch_pred.specs.declared.bound.Shape.{Shape}
use Rattle.ch_pred.specs.declared.bound.Shape.TheVariants as shape
use Rattle.ch_run.specs.Asked.{AreFew}
use Rattle.ch_schedule.specs.Bad.{is_forged}
use Rattle.ch_verdicts.specs.Handed.{IsPass}
use Rattle.cheetah_inputs.proofs.Asked.{asked_inputs, planned_inputs, unforged_steps}
use Rattle.cheetah_inputs.proofs.Asked.{few_steps as schedule_steps}
use Rattle.cheetah_inputs.proofs.Sizes.{inputs_small}
use Rattle.cheetah_inputs.specs.Inputs.{profile_text}
use Rattle.cheetah_inputs.specs.declared.inputs.Inputs.{Inputs}
use Rattle.cheetah_run.proofs.Ranged.{given_is_ranged}
use Rattle.cheetah_run.specs.Asking.{AreAsked}

greatest_few : (lists : List (List ℕ)) → All (λ columns. length columns ≤ 16) lists → greatest_length lists ≤ 16
greatest_few [] few = omega arith
greatest_few (columns ∷ lists) few =
    let here : length columns ≤ 16 = few 0 columns (omega arith) in
    let more : greatest_length lists ≤ 16 = greatest_few lists (λ k d lt. few (suc k) d (omega (arith, lt))) in
    omega (arith, here, more)

pub one_or_two : (s : Shape) → IsPass (passes_of s)
one_or_two shape.Filter = inl refl
one_or_two shape.Distinct = inl refl
one_or_two (shape.Top by descending limit) = inl refl
one_or_two (shape.Group keys max value) = inl refl
one_or_two (shape.Having keys sum above) = inr refl
one_or_two (shape.Join left right) = inr refl
one_or_two (shape.Skyline dims) = inl refl
one_or_two (shape.Semi key inner) = inr refl

module _ (inputs : Inputs) (are : AreAsked inputs) where
  pub few_carried : greatest_length inputs.bound.carried ≤ 16
  few_carried = greatest_few inputs.bound.carried are.read.question.few

  pub ranged : IsRanged inputs.profile
  ranged = given_is_ranged (profile_text are.request are.contents) inputs.profile are.read.profile

  pub plannable : IsPlannable inputs.bound inputs.bound.shape
  plannable = planned_inputs are.request are.contents inputs are.read

  pub are_tables : (texts : List (List ℕ)) → texts ≡ dictionary_of (asked_texts inputs.bound inputs.tables) → length texts ≤ 2 ^ 32 → AreTables texts inputs.bound inputs.tables
  are_tables texts e few = asked_inputs are.request are.contents inputs texts are.read e few

  -- the query's tables are there
  pub known : All (λ number. number < length inputs.tables) inputs.bound.tables
  known = let q = are.read.question in (bound_suit q.query inputs.bound inputs.tables q.passes q.is_bound q.sound q.summed).there

  small : AreSmall inputs.tables
  small = inputs_small are.request are.contents inputs are.read are.few

  pub some_parts : (texts : List (List ℕ)) → 0 < length (parts_of texts inputs.bound inputs.tables)
  some_parts texts = some_workers texts inputs.bound inputs.tables are.read.question.sound known small

  pub few_parts : (texts : List (List ℕ)) → AreFew (parts_of texts inputs.bound inputs.tables)
  few_parts texts = record {
    many = few_workers texts inputs.bound inputs.tables are.read.question.sound small;
    sizes = small_workers texts inputs.bound inputs.tables small;
  }

  pub unforged : All (λ step. is_forged step ≡ false) inputs.schedule.steps
  unforged = unforged_steps are.request are.contents inputs are.read

  pub few_steps : length inputs.schedule.steps ≤ 1000000
  few_steps = schedule_steps are.request are.contents inputs are.read
