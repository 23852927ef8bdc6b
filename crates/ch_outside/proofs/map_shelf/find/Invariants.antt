use Rattle.std.proofs.Common.{◌≡◌, drop, map}
use Rattle.ch_outside.specs.MapShelf.{bytes_at, named}
use Rattle.ch_outside.proofs.map_shelf.find.Given as goal

abbrev pub invariant-loop-file : goal.invariant-loop-file
invariant-loop-file l = bytes_at (map named (drop l.file-index l.files)) l.name ≡ bytes_at (map named l.files) l.name
