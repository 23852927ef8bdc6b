use Rattle.std.proofs.Common.{sym, subst, refl}
use Rattle.ch_cover.specs.Rows.{Policy}
use Rattle.ch_cover.specs.Cover.{CoversOnce, CoversTwice}
use Rattle.ch_cover.specs.Samples.{is_any, is_gated, greatest, how_many, keys}
use Rattle.ch_protocol_laws.proofs.Once.{one_pass_answer}
use Rattle.ch_protocol_laws.proofs.Twice.{two_pass_answer}
use Rattle.ch_cover.proofs.Greatest.{greatest_covers}
use Rattle.ch_cover.proofs.FirstOfKey.{first_of_key_covers}
use Rattle.ch_cover.proofs.ByBit.{by_bit_covers}
use Rattle.ch_protocol_laws.proofs.samples.Goals as goal

pub returns-clause-greatest : goal.returns-clause-greatest
returns-clause-greatest _ c s kind e r stop = one_pass_answer c is_any greatest s kind (subst (λ (p : Policy). CoversOnce is_any p greatest) (sym e) greatest_covers) (λ x h. refl) r stop

pub returns-clause-gated : goal.returns-clause-gated
returns-clause-gated _ c s kind e are r stop = one_pass_answer c is_gated how_many s kind (subst (λ (p : Policy). CoversOnce is_gated p how_many) (sym e) by_bit_covers) are r stop

pub returns-clause-keys : goal.returns-clause-keys
returns-clause-keys _ c s kind e r stop = two_pass_answer c is_any keys s kind (subst (λ (p : Policy). CoversTwice is_any p keys) (sym e) first_of_key_covers) (λ x h. refl) r stop
