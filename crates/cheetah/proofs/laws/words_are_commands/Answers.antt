use Rattle.cheetah.proofs.Meanings.{is_command}
use Rattle.cheetah.proofs.laws.words_are_commands.Goals as goal
use Rattle.cheetah_words.specs.Words.{wish_of}

pub returns : goal.returns
returns c words = is_command (wish_of words)
