-- What is found in the first table is one of its columns.
use Rattle.std.proofs.Common.{ℕ, ◌<◌, Option, Some, None, IfSome, arith}
use Rattle.ch_bind.specs.Scope.{found_among}
use Rattle.ch_bind.specs.Within.{IsWithin}

pub among_within : (n : ℕ) (a b : Option ℕ) → IfSome a (λ at. at < n) → IsWithin n (found_among a b)
among_within n None None h = tt
among_within n None (Some at) h = λ e. absurd (omega arith)
among_within n (Some at) None h = λ e. h
among_within n (Some at) (Some other) h = tt
