use Rattle.ch_asm.proofs.Refusals.{once}
use Rattle.ch_asm.proofs.laws.programs_are_spelled_once.Goals as goal

pub returns : goal.returns
returns c p q hp hq e = once p q hp hq e
