use Rattle.cheetah_audit_meaning.proofs.Meanings.{is_command}
use Rattle.cheetah_audit_words.specs.Words.{wish_of}
use Rattle.cheetah_audit.specs.Result.{runs}
use Rattle.cheetah_audit.proofs.laws.words_are_commands.Goals as goal

pub returns : goal.returns
returns c words = is_command runs (wish_of words)
