use Rattle.std.proofs.Common.{◌≡◌, ◌≤◌, All, drop, length, map}
use Rattle.std.specs.Option.{IfSome}
use Rattle.ch_outside.specs.Faults.{StaysReliable}
use Rattle.ch_command.specs.Reading.{most_bytes, most_bytes_in_all, read_all, read_on, taken}
use Rattle.ch_command.proofs.reading.read_files.Given as goal

-- what the names left give is what all of them give
abbrev pub invariant-loop-name : goal.invariant-loop-name
invariant-loop-name g l = record {
  told : g.F.Shelf.told l.shelf ≡ g.F.Shelf.told l.fn.shelf;
  later : g.F.Shelf.faults l.fn.shelf ≤ g.F.Shelf.faults l.shelf;
  steady : StaysReliable (g.F.Shelf.reliable l.fn.shelf) (g.F.Shelf.reliable l.shelf) (g.F.Shelf.faults l.fn.shelf) (g.F.Shelf.faults l.shelf);
  many : length l.contents ≡ l.name-index;
  small : All (λ bytes. length bytes ≤ most_bytes) l.contents;
  count : l.taken ≡ taken l.contents;
  room : l.taken ≤ most_bytes_in_all;
  left : IfSome (g.F.Shelf.told l.fn.shelf) (λ files. read_on files l.contents (map (λ s. s.now) (drop l.name-index l.names)) ≡ read_all files (map (λ s. s.now) l.names));
}
