-- What becomes of all workers at once.
use Rattle.std.specs.Prelude.{ℕ, Bool, List, length, map}
use Rattle.ch_ends.specs.Worker.{Progress, IsAt, acked_of}
use Rattle.ch_protocol.specs.Packets.{Part}
use Rattle.ch_protocol.specs.Sender.{cut_to_least, is_done, first_number, none_acked}

-- the worker's Fin is acknowledged
abbrev pub is_over : Progress → Bool
is_over w = is_done w.rows (acked_of w)

-- the worker was told of a restart into this epoch
abbrev pub HasRestarted : ℕ → Progress → Progress → Type 0
HasRestarted epoch old new = IsAt new old.rows old.window old.pass epoch old.next (cut_to_least old.rows (acked_of old))

-- the worker began this pass
abbrev pub HasBegun : ℕ → Progress → Progress → Type 0
HasBegun pass old new = IsAt new old.rows old.window pass old.epoch first_number none_acked

-- how many rows each worker has
abbrev pub sizes_of : List Part → List ℕ
sizes_of parts = map (λ p. length p.tuples) parts
