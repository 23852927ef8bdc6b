use Rattle.std.proofs.Common.{◌≡◌, ◌+◌, length}
use Rattle.std.specs.Prelude.{min}
use Rattle.ch_asm.proofs.Places.{said}
use Rattle.ch_asm.proofs.Reading.{IsRead}
use Rattle.ch_asm.proofs.read.read_program.Given as goal

abbrev pub invariant-loop-first : goal.invariant-loop-first
invariant-loop-first l = record {
  read : IsRead l.fn.text l.place l.rest;
  line : l.line ≡ min (length (said l.place) + 1) 4294967295;
}

abbrev pub decreases-loop-first : goal.decreases-loop-first
decreases-loop-first l = length l.rest
