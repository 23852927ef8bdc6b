-- The worked needs and refusals, computed.
use Rattle.std.proofs.Common.{refl}
use Rattle.ch_plan.specs.Worked.{NeedsOfKinds, RefusalsInOrder}

pub needs_of_kinds : NeedsOfKinds
needs_of_kinds = record { filter = refl; distinct = refl; top = refl; group = refl; having = refl; join = refl; skyline = refl; semi = refl; semi_by_rows = refl }

pub refusals_in_order : RefusalsInOrder
refusals_in_order = record { width = refl; cells = refl; words = refl; stages = refl; reached = refl; filter_stages = refl; filter_width = refl }
