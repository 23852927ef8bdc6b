-- What the contents of the files come to.
use Rattle.std.proofs.Common.{ℕ, List, [], ◌∷◌, All, suc, arith, Result, Ok, Err}
use Rattle.std.specs.Result.{IfOk}
use Rattle.ch_command.specs.Command.{ReadThen, refused}
use Rattle.ch_command.specs.declared.outcome.Ending.TheVariants.{Input}
use Rattle.ch_command.specs.declared.outcome.Outcome.{Outcome}
use Rattle.cheetah_inputs.proofs.Chains.{reads_then}
use Rattle.cheetah_inputs.specs.Inputs.{profile_or_line, profile_text, tables_or_line}
use Rattle.cheetah_inputs.specs.Shared.{AreShared, OfShared, never}
use Rattle.cheetah_inputs.specs.declared.inputs.Shared.{Shared}
use Rattle.cheetah_words.specs.Words.{Request}
use Rattle.cheetah_pack_meaning.specs.Meaning.{OfContents, OfTables, others, queries_text}

module _ (request : Request) (contents : List (List ℕ)) where
  abbrev text : List ℕ
  text = queries_text contents

  -- over the profile and the tables it comes to what their queries do
  pub contents_read : {E : Type 0} (shared : Shared) (judged : Result Outcome E) → AreShared request (others contents) shared → IfOk judged (λ outcome. OfTables text shared.profile shared.tables outcome)
      → IfOk judged (λ outcome. OfContents request contents outcome)
  contents_read shared (Ok outcome) are comes =
      reads_then (profile_or_line (profile_text request (others contents))) (refused Input) (λ profile o. ReadThen (tables_or_line request (others contents)) (refused Input) (OfTables text profile) o) shared.profile outcome are.profile_is
      (reads_then (tables_or_line request (others contents)) (refused Input) (OfTables text shared.profile) shared.tables outcome are.tables_are comes)
  contents_read shared (Err memory) are comes = tt

  before : {X E : Type 0} (read : Result X E) (says : E → Outcome) (none next : X → Outcome → Type 0) (outcome : Outcome) → ((x : X) → none x outcome → next x outcome) → ReadThen read says none outcome → ReadThen read says next outcome
  before (Ok x) says none next outcome more p = more x p
  before (Err e) says none next outcome more p = p

  -- or one of them is refused
  pub contents_refused : (outcome : Outcome) → OfShared request (others contents) never outcome → OfContents request contents outcome
  contents_refused outcome = before (profile_or_line (profile_text request (others contents))) (refused Input) (λ profile o. ReadThen (tables_or_line request (others contents)) (refused Input) (never profile) o)
      (λ profile o. ReadThen (tables_or_line request (others contents)) (refused Input) (OfTables text profile) o) outcome (λ profile.
      before (tables_or_line request (others contents)) (refused Input) (never profile) (OfTables text profile) outcome (λ tables none. absurd none))

pub all_others : (P : List ℕ → Type 0) (contents : List (List ℕ)) → All P contents → All P (others contents)
all_others P [] all = all
all_others P (x ∷ xs) all = λ k d lt. all (suc k) d (omega (arith, lt))
