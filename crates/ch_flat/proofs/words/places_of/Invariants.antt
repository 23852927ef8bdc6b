use Rattle.std.proofs.Common.{◌≡◌, ◌+◌, ◌-◌, ◌≤◌, map, take, length, vec_len, vec_capacity}
use Rattle.ch_flat.specs.Heads.{place_of}
use Rattle.ch_flat.proofs.words.places_of.Given as goal

abbrev pub invariant-loop-head : goal.invariant-loop-head
invariant-loop-head l = (l.places.items ≡ map place_of (take l.head-index l.heads)) × (vec_len l.places + (length l.heads - l.head-index) ≤ vec_capacity l.places)
