-- What the files of a request without a schedule give that several queries share: the profile and the tables.
use Rattle.std.specs.Prelude.{◌≡◌, ℕ, List, Result, Ok, Err}
use Rattle.ch_command.specs.Command.{ReadThen, refused}
use Rattle.ch_command.specs.declared.outcome.Ending.TheVariants.{Input}
use Rattle.ch_command.specs.declared.outcome.Outcome.{Outcome}
use Rattle.ch_ir.specs.declared.profile.Profile.{Profile}
use Rattle.ch_tables.specs.TableValue.{TableValue}
use Rattle.cheetah_words.specs.Words.{Request}
use Rattle.cheetah_inputs.specs.Inputs.{profile_or_line, profile_text, tables_or_line}
use Rattle.cheetah_inputs.specs.declared.inputs.Shared.{Shared}
use Rattle.cheetah_inputs.specs.declared.refusal.Refusal.{Refusal}
use Rattle.cheetah_inputs.specs.declared.refusal.Refusal.TheVariants as refusal

-- what may come behind them
abbrev pub AfterShared : Type 1
AfterShared = Profile → List TableValue → Outcome → Type 0

-- profile and tables are read in this order, and the rest is over them; or the first of them is refused
abbrev pub OfShared : Request → List (List ℕ) → AfterShared → Outcome → Type 0
OfShared request contents next outcome =
    ReadThen (profile_or_line (profile_text request contents)) (refused Input) (λ profile. ReadThen (tables_or_line request contents) (refused Input) (next profile)) outcome

-- only refusals are left
abbrev pub never : AfterShared
never profile tables outcome = ⊥

pub record AreShared (request : Request) (contents : List (List ℕ)) (shared : Shared) : Type 0 where
  pub profile_is : profile_or_line (profile_text request contents) ≡ Ok shared.profile
  pub tables_are : tables_or_line request contents ≡ Ok shared.tables

abbrev pub ReadsShared : Request → List (List ℕ) → Result Shared Refusal → Type 0
ReadsShared request contents (Ok shared) = AreShared request contents shared
ReadsShared request contents (Err (refusal.Line line)) = OfShared request contents never (refused Input line)
ReadsShared request contents (Err refusal.Memory) = Unit {0}
