use Rattle.std.proofs.Common.{◌≡◌, drop}
use Rattle.ch_bind.specs.Checks.{column_refusal}
use Rattle.ch_bind.proofs.checks.column_refusal.Given as goal

-- the references left decide
abbrev pub invariant-loop-place : goal.invariant-loop-place
invariant-loop-place l = column_refusal l.place (drop l.place l.refs) ≡ column_refusal 0 l.refs
