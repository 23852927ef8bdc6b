use Rattle.cheetah_audit_meaning.proofs.Meanings.{is_command}
use Rattle.cheetah_audit_meaning.proofs.words_are_commands.Goals as goal

pub returns : goal.returns
returns c = is_command
