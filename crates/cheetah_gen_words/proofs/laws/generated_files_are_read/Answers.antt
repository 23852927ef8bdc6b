use Rattle.cheetah_gen_words.proofs.Reading.{files_are_read}
use Rattle.cheetah_gen_words.proofs.laws.generated_files_are_read.Goals as goal

pub returns : goal.returns
returns c request short = files_are_read request short
