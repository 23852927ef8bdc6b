-- Words that are refused with a usage.
use Rattle.std.proofs.Common.{◌≢◌, ℕ, List, [], Err}
use Rattle.ch_command.specs.declared.verdict.Misuse.{Misuse}
use Rattle.ch_command.specs.declared.verdict.Misuse.TheVariants as misuse
use Rattle.cheetah_words.specs.Parsed.{Parses, kinds_of}

pub not_parsed : (words : List (List ℕ)) (why : Misuse) → kinds_of words ≢ [] → Parses words (Err why)
not_parsed words (misuse.Line line) kinds = kinds
not_parsed words misuse.Memory kinds = tt
