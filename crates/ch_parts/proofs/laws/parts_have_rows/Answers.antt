use Rattle.ch_parts.proofs.Permuting.{permuted}
use Rattle.ch_parts.proofs.laws.parts_have_rows.Goals as goal

pub returns : goal.returns
returns c = permuted
