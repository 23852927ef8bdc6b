-- The words are a command's: what they come to is there, and is one thing.
use Rattle.std.proofs.Common.{◌≡◌, ◌≢◌, ◌∙◌, ◌≤◌, ◌<◌, ap, arith, sym, refl, inl, inr, false, ℕ, List, [], ◌∷◌, length, Option, Some, None, Result, Ok, Err}
use Rattle.ch_asm.proofs.BadLines.{told_once}
use Rattle.ch_asm.proofs.Decided.{texts_decided}
use Rattle.ch_asm.proofs.Refusals.{bad_is_none, once}
use Rattle.ch_asm.specs.Refusal.{IsBadLine}
use Rattle.ch_command.proofs.Commands.{IsMeaning, Total, Unique, misused_is_command, read_ends, read_one, read_some, reading_is_command, said_all, said_once, then_all, then_one, then_some}
use Rattle.ch_command.specs.Command.{IsCommand, IsDecided, Refuses, refused}
use Rattle.ch_command.specs.Lines.{no_words_line}
use Rattle.ch_command.specs.Status.{is_usage}
use Rattle.ch_command.specs.declared.outcome.Ending.TheVariants.{Done, Input}
use Rattle.ch_command.specs.declared.outcome.Outcome.{Outcome}
use Rattle.ch_ir.specs.Measure.{first_refusal, sizes_of}
use Rattle.ch_ir.specs.Profile.{default_settings, profile_of}
use Rattle.ch_ir.specs.declared.profile.Profile.{Profile}
use Rattle.ch_ir.specs.declared.program.Program.{Program}
use Rattle.ch_ir.specs.declared.rules.Refused.{Refused}
use Rattle.ch_ir.specs.declared.rules.Sizes.{Sizes}
use Rattle.ch_messages.specs.Machine.{profile_line, program_line}
use Rattle.cheetah_check.specs.Result.{OfContents, OfText, Spells, UnderProfile, command_for, names_of, verdict_of, verdict_on}
use Rattle.cheetah_check.specs.Words.{Check, NoWords, Wish, WrongWords}

abbrev says_line : ℕ → Outcome
says_line line = refused Input (program_line line)

text_is_decided : (text : List ℕ) → IsDecided (Spells text) (Refuses (IsBadLine text) says_line)
text_is_decided text = record {
  either = elim (texts_decided text) [
    | inl read ↦ inl (read.0, record { is_program = read.1; spelled = read.2 })
    | inr bad ↦ inr (says_line bad.0, record { error = bad.0; is = bad.1; said = refl })
  ];
  one_value = λ p q a b. once p q a.is_program b.is_program (sym a.spelled ∙ b.spelled);
  one_refusal = said_once (IsBadLine text) says_line (told_once text);
  not_both = λ p outcome a b. bad_is_none text b.error p b.is a.is_program a.spelled;
}

text_some : (profile : Profile) (text : List ℕ) → Total (OfText profile text)
text_some profile text = then_some (Spells text) (Refuses (IsBadLine text) says_line) (λ program outcome. outcome ≡ verdict_on profile program) (text_is_decided text) (λ program is. (verdict_on profile program, refl))

text_one : (profile : Profile) (text : List ℕ) → Unique (OfText profile text)
text_one profile text = then_one (Spells text) (Refuses (IsBadLine text) says_line) (λ program outcome. outcome ≡ verdict_on profile program) (text_is_decided text) (λ program is a b p q. p ∙ sym q)

-- what holds of a verdict on a program and of a refusal holds of what a text comes to
text_all : (P : Outcome → Type 0) → ((refusal : Option Refused) (sizes : Sizes) → P (verdict_of refusal sizes)) → ((line : List ℕ) → P (refused Input line)) → (profile : Profile) (text : List ℕ) (outcome : Outcome) → OfText profile text outcome → P outcome
text_all P verdict none profile text = then_all P (Spells text) (Refuses (IsBadLine text) says_line) (λ program outcome. outcome ≡ verdict_on profile program)
    (said_all P (IsBadLine text) says_line (λ line. none (program_line line)))
    (λ program outcome p. rw p (verdict (first_refusal profile program) (sizes_of program)))

contents_all : (P : Outcome → Type 0) → ((refusal : Option Refused) (sizes : Sizes) → P (verdict_of refusal sizes)) → ((line : List ℕ) → P (refused Input line)) → (contents : List (List ℕ)) (outcome : Outcome) → OfContents contents outcome → P outcome
contents_all P verdict none [] outcome p = absurd p
contents_all P verdict none (text ∷ []) outcome p = text_all P verdict none default_settings text outcome p
contents_all P verdict none (settings ∷ text ∷ []) outcome p =
    read_ends P (profile_of settings) (λ error. refused Input (profile_line error)) (λ profile. OfText profile text) (λ error. none (profile_line error)) (λ profile e. text_all P verdict none profile text) outcome p
contents_all P verdict none (settings ∷ text ∷ other ∷ others) outcome p = absurd p

contents_some : (count : ℕ) (contents : List (List ℕ)) → 0 < count → count ≤ 2 → length contents ≡ count → Total (OfContents contents)
contents_some count [] some two same = absurd (omega (arith, some, same))
contents_some count (text ∷ []) some two same = text_some default_settings text
contents_some count (settings ∷ text ∷ []) some two same = read_some (profile_of settings) _ (λ profile. OfText profile text) (λ profile e. text_some profile text)
contents_some count (settings ∷ text ∷ other ∷ others) some two same = absurd (omega (arith, two, same))

contents_one : (contents : List (List ℕ)) → Unique (OfContents contents)
contents_one [] a b p q = absurd p
contents_one (text ∷ []) a b p q = text_one default_settings text a b p q
contents_one (settings ∷ text ∷ []) a b p q = read_one (profile_of settings) (λ error. refused Input (profile_line error)) (λ profile. OfText profile text) (λ profile. text_one profile text) a b p q
contents_one (settings ∷ text ∷ other ∷ others) a b p q = absurd p

never_usage : (refusal : Option Refused) (sizes : Sizes) → is_usage (verdict_of refusal sizes).ending ≡ false
never_usage None sizes = refl
never_usage (Some refusal) sizes = refl

quiet : (refusal : Option Refused) (sizes : Sizes) → (verdict_of refusal sizes).ending ≢ Done → (verdict_of refusal sizes).out ≡ []
quiet None sizes other = absurd (other refl)
quiet (Some refusal) sizes other = refl

pub never_misused : (contents : List (List ℕ)) (outcome : Outcome) → OfContents contents outcome → is_usage outcome.ending ≡ false
never_misused = contents_all (λ o. is_usage o.ending ≡ false) never_usage (λ line. refl)

meaning : (count : ℕ) → 0 < count → count ≤ 2 → IsMeaning count OfContents
meaning count some two = record {
  some = λ contents same. contents_some count contents some two same;
  one = contents_one;
  taken = never_misused;
  quiet = contents_all (λ o. o.ending ≢ Done → o.out ≡ []) quiet (λ line other. refl);
}

pub is_command : (asked : Wish) → IsCommand (command_for asked)
is_command NoWords = misused_is_command (λ line. line ≡ no_words_line) (no_words_line, refl)
is_command WrongWords = misused_is_command (λ line. Unit {0}) ([], tt)
is_command (Check None program) = reading_is_command (program ∷ []) OfContents (meaning 1 (omega arith) (omega arith))
is_command (Check (Some profile) program) = reading_is_command (profile ∷ program ∷ []) OfContents (meaning 2 (omega arith) (omega arith))
