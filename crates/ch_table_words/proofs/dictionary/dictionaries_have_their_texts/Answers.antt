use Rattle.ch_table_words.proofs.Dictionaries.{all_there}
use Rattle.ch_table_words.proofs.dictionary.dictionaries_have_their_texts.Goals as goal

pub returns : goal.returns
returns c = all_there
