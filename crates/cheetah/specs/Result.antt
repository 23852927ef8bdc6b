-- What the command comes to, from its words and the files.
use Rattle.std.specs.Prelude.{◌≡◌, ℕ, List}
use Rattle.ch_command.specs.Command.{Command, misused, reading}
use Rattle.ch_command.specs.Lines.{no_words_line}
use Rattle.cheetah_inputs.specs.Inputs.{OfContents, names_of}
use Rattle.cheetah_words.specs.Words.{Asking, NoWords, Wish, WrongTables, WrongWords, wish_of}
use Rattle.cheetah.specs.Answering.{Answers}

-- what words with this wish mean. The text with which clap refuses words isn't fixed
abbrev pub command_for : Wish → Command
command_for NoWords = misused (λ line. line ≡ no_words_line)
command_for WrongWords = misused (λ line. Unit {0})
command_for (WrongTables said) = misused (λ line. line ≡ said)
command_for (Asking request) = reading (names_of request) (OfContents request (Answers request.plan))

abbrev pub command_of : List (List ℕ) → Command
command_of words = command_for (wish_of words)
