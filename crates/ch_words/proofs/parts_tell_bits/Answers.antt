use Rattle.ch_pred.specs.Plain.{plain_of}
use Rattle.ch_pred.specs.Sound.{IsCarried}
use Rattle.ch_words.proofs.PartBits.{bit_by_part}
use Rattle.ch_words.proofs.PartNames.{part_named}
use Rattle.ch_words.proofs.SoundQueries.{sound_filter}
use Rattle.ch_words.proofs.parts_tell_bits.Goals as goal

pub returns-clause-names : goal.returns-clause-names
returns-clause-names _ b s side = part_named side (IsCarried b) (plain_of b.filter) (sound_filter b s)

pub returns-clause-bit : goal.returns-clause-bit
returns-clause-bit _ = bit_by_part
