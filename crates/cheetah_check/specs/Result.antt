-- What the command comes to, from its words and the files.
use Rattle.std.specs.Prelude.{◌≡◌, ℕ, List, [], ◌∷◌, Option, Some, None}
use Rattle.ch_asm.specs.Refusal.{IsBadLine}
use Rattle.ch_asm.specs.Text.{IsProgram, program_text}
use Rattle.ch_command.specs.Command.{Command, ReadThen, Refuses, Then, answered, misused, reading, refused}
use Rattle.ch_command.specs.Lines.{no_words_line}
use Rattle.ch_command.specs.declared.outcome.Ending.TheVariants.{Input, Rejected}
use Rattle.ch_command.specs.declared.outcome.Outcome.{Outcome}
use Rattle.ch_ir.specs.Measure.{first_refusal, sizes_of}
use Rattle.ch_ir.specs.Profile.{default_settings, profile_of}
use Rattle.ch_ir.specs.declared.profile.Profile.{Profile}
use Rattle.ch_ir.specs.declared.program.Program.{Program}
use Rattle.ch_ir.specs.declared.rules.Refused.{Refused}
use Rattle.ch_ir.specs.declared.rules.Sizes.{Sizes}
use Rattle.ch_messages.specs.Machine.{accepted_line, profile_line, program_line, refused_line}
use Rattle.cheetah_check.specs.Words.{Check, NoWords, Wish, WrongWords, wish_of}

abbrev pub verdict_of : Option Refused → Sizes → Outcome
verdict_of None sizes = answered (accepted_line sizes)
verdict_of (Some refusal) sizes = refused Rejected (refused_line refusal)

-- the first limit or rule that the program breaks, or what it needs of each limit
abbrev pub verdict_on : Profile → Program → Outcome
verdict_on profile p = verdict_of (first_refusal profile p) (sizes_of p)

-- the text is this program's
pub record Spells (text : List ℕ) (program : Program) : Type 0 where
  pub is_program : IsProgram program
  pub spelled : text ≡ program_text program

-- the verdict on the program that a text spells, or the line at which it is none's
abbrev pub OfText : Profile → List ℕ → Outcome → Type 0
OfText profile text outcome =
    Then (Spells text) (Refuses (IsBadLine text) (λ line. refused Input (program_line line))) (λ program outcome. outcome ≡ verdict_on profile program) outcome

-- under the profile that a text gives, or the first bad line of that
abbrev pub UnderProfile : List ℕ → List ℕ → Outcome → Type 0
UnderProfile settings text outcome = ReadThen (profile_of settings) (λ error. refused Input (profile_line error)) (λ profile. OfText profile text) outcome

-- the files that are read
abbrev pub names_of : Option (List ℕ) → List ℕ → List (List ℕ)
names_of None program = program ∷ []
names_of (Some profile) program = profile ∷ program ∷ []

-- over what they hold
abbrev pub OfContents : List (List ℕ) → Outcome → Type 0
OfContents [] outcome = ⊥
OfContents (text ∷ []) outcome = OfText default_settings text outcome
OfContents (settings ∷ text ∷ []) outcome = UnderProfile settings text outcome
OfContents (settings ∷ text ∷ other ∷ others) outcome = ⊥

-- what words with this wish mean. The text that refuses words isn't fixed, but that of no words is
abbrev pub command_for : Wish → Command
command_for NoWords = misused (λ line. line ≡ no_words_line)
command_for WrongWords = misused (λ line. Unit {0})
command_for (Check profile program) = reading (names_of profile program) OfContents

abbrev pub command_of : List (List ℕ) → Command
command_of words = command_for (wish_of words)
