-- The master's half: the set of what it received, as a list of names, the newest first.
use Rattle.std.specs.Prelude.{Bool, List, ◌∷◌, if◌then◌else◌}
use Rattle.std.specs.List.{list_any}
use Rattle.ch_protocol.specs.Packets.{Name, same_name}

-- whether it was received
abbrev pub has : List Name → Name → Bool
has received x = list_any (same_name x) received

-- it is added where it isn't there
abbrev pub collect : List Name → Name → List Name
collect received x = if has received x then received else x ∷ received
