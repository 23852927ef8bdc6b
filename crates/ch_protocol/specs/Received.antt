-- The rows of a run, and those of them that the master received.
use Rattle.std.specs.Prelude.{ℕ, ◌==◌, nat_lt, Bool, ◌&&◌, List, map, filter, reverse, flat_map}
use Rattle.ch_cover.specs.Rows.{Row}
use Rattle.ch_protocol.specs.Packets.{Name}
use Rattle.ch_protocol.specs.Machine.{Config, tables, row_at, size}

-- all rows of all workers
abbrev pub all_rows : Config → List Row
all_rows c = flat_map (λ rows. rows) (tables c)

-- whether it names a row of the pass, and no Fin
abbrev pub is_row_of : Config → ℕ → Name → Bool
is_row_of c pass x = (x.pass == pass) && nat_lt x.number (size c x.worker)

-- the rows of a pass among the names that the master received, the newest first
abbrev pub rows_received : Config → ℕ → List Name → List Row
rows_received c pass received = map (row_at c) (filter (is_row_of c pass) received)

-- their names, the oldest first: in the order in which they came
abbrev pub names_arrived : Config → ℕ → List Name → List Name
names_arrived c pass received = filter (is_row_of c pass) (reverse received)

-- the rows in that order
abbrev pub rows_arrived : Config → ℕ → List Name → List Row
rows_arrived c pass received = map (row_at c) (names_arrived c pass received)
