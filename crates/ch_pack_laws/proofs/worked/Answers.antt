use Rattle.std.proofs.Common.{refl}
use Rattle.ch_ir.specs.Measure.{sizes_of}
use Rattle.ch_ir.specs.Rules.{rule_refusal}
use Rattle.ch_pack_laws.specs.Packed.{moved_word, packed}
use Rattle.ch_pack_laws.proofs.worked.Goals as goal

pub returns : goal.returns
unfolding moved_word packed rule_refusal sizes_of
returns c = record { first_row = refl; second_row = refl; shut = refl; set_bit = refl; clear_bit = refl; unbroken = refl; sizes = refl }
