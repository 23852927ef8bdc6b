use Rattle.cheetah_gen_words.proofs.Taken.{taken}
use Rattle.cheetah_gen_words.proofs.laws.generated_words_are_taken.Goals as goal

pub returns : goal.returns
returns c kind = taken kind
