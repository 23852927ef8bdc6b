use Rattle.cheetah_check.proofs.Meanings.{is_command}
use Rattle.cheetah_check.proofs.laws.words_are_commands.Goals as goal
use Rattle.cheetah_check.specs.Words.{wish_of}

pub returns : goal.returns
returns c words = is_command (wish_of words)
