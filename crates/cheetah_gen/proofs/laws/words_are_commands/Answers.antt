use Rattle.cheetah_gen.proofs.Meanings.{is_command}
use Rattle.cheetah_gen.proofs.laws.words_are_commands.Goals as goal

pub returns : goal.returns
returns c words = is_command words
