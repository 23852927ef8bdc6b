-- What the command has to say, by what it asked for, read and judged.
use Rattle.std.proofs.Common.{◌≡◌, ◌≤◌, ◌<◌, arith, List, length, ℕ, Option, Some, None, Result, Ok, Err, refl}
use Rattle.ch_outside.specs.Shelf.{Files}
use Rattle.ch_command.proofs.Verdicts.{misuse_fits}
use Rattle.ch_command.specs.Call.{Faults}
use Rattle.ch_command.specs.Lines.{no_words_line}
use Rattle.ch_command.specs.Verdict.{Fits, misuse_verdict}
use Rattle.ch_command.specs.declared.verdict.Misuse.{Misuse}
use Rattle.ch_command.specs.declared.verdict.Misuse.TheVariants as misuse
use Rattle.cheetah_check.specs.Result.{command_for, names_of}
use Rattle.cheetah_check.specs.Words.{Asks, Check, NoWords, Wish, WrongWords}

pub refused_fits : (told : Option Files) (shelf : Faults) (asked : Wish) (why : Misuse) → Asks asked (Err why) → Fits told shelf (command_for asked) (misuse_verdict why)
refused_fits told shelf NoWords (misuse.Line line) asks = misuse_fits told shelf (λ line. line ≡ no_words_line) line asks
refused_fits told shelf WrongWords (misuse.Line line) asks = misuse_fits told shelf (λ line. Unit {0}) line tt
refused_fits told shelf (Check profile program) (misuse.Line line) asks = absurd asks
refused_fits told shelf asked misuse.Memory asks = tt

pub one_or_two : (profile : Option (List ℕ)) (program : List ℕ) → (0 < length (names_of profile program)) × (length (names_of profile program) ≤ 2)
one_or_two None program = (omega arith, omega arith)
one_or_two (Some profile) program = (omega arith, omega arith)
