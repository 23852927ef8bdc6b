use Rattle.std.proofs.Common.{◌≡◌, drop}
use Rattle.std.specs.Prelude.{bytes_eq}
use Rattle.ch_bind.specs.First.{first_from}
use Rattle.ch_bind.proofs.scope.number_of.Given as goal

-- the tables left decide
abbrev pub invariant-loop-at : goal.invariant-loop-at
invariant-loop-at l = first_from (λ s. bytes_eq l.name s.name) l.at (drop l.at l.shapes) ≡ first_from (λ s. bytes_eq l.name s.name) 0 l.shapes
