use Rattle.std.proofs.Common.{◌≡◌, drop}
use Rattle.ch_bind.specs.First.{first_from}
use Rattle.ch_bind.proofs.checks.kind_refusal.Given as goal

-- the references left decide
abbrev pub invariant-loop-place : goal.invariant-loop-place
invariant-loop-place l = first_from (λ r. r.clash) l.place (drop l.place l.refs) ≡ first_from (λ r. r.clash) 0 l.refs
