-- The ends of lists.
use Rattle.std.proofs.Common.{◌≡◌, ◌<◌, ℕ, List, [], ◌∷◌, ◌++◌, arith, max, length}
use Rattle.ch_ir.specs.declared.program.Operand.{Operand}
use Rattle.ch_ir.specs.declared.program.Array.{Array}
use Rattle.std.specs.Prelude.{nat_lt, true}
use Rattle.std.proofs.lemmas.Bool.{and_parts, ltb-true, cases_lt}
use Rattle.std.proofs.Common.{inl, inr}
use Rattle.ch_ir.specs.declared.program.Access.{Access}
use Rattle.ch_ir.specs.Rules.{entries_of, has_shape}
use Rattle.ch_ir.specs.Measure.{operands_end}
use Rattle.ch_ir.proofs.Arrays.{entries_past}

pub end_append : (xs ys : List Operand) → operands_end (xs ++ ys) ≡ max (operands_end xs) (operands_end ys)
end_append [] ys = omega arith
end_append (x ∷ xs) ys = let e = end_append xs ys in omega arith

-- an array that isn't there has no entry
pub has_entries : (arrays : List Array) (a : ℕ) → 0 < entries_of arrays a → a < length arrays
has_entries arrays a h = elim (cases_lt a (length arrays)) [
  | inl lt ↦ lt
  | inr past ↦ let none = entries_past arrays a past in absurd (omega arith)
]

pub shape_there : (arrays : List Array) (x : Access) → has_shape arrays x ≡ true → x.array < length arrays
shape_there arrays x h = has_entries arrays x.array (ltb-true 0 (entries_of arrays x.array) ((and_parts (nat_lt 0 (entries_of arrays x.array)) _ h).0))
