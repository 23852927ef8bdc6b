use Rattle.cheetah_pack_meaning.proofs.Meanings.{is_command}
use Rattle.cheetah_pack_meaning.proofs.words_are_commands.Goals as goal
use Rattle.cheetah_pack_words.specs.Words.{wish_of}

pub returns : goal.returns
returns c words = is_command (wish_of words)
