-- The arrays of programs around those of one of them.
use Rattle.std.proofs.Common.{◌≡◌, ◌∙◌, ◌≤◌, refl, sym, ap, ℕ, zero, suc, ◌+◌, List, [], ◌∷◌, ◌++◌, length, take, drop, Some, arith}
use Rattle.std.specs.Prelude.{slice_get, slice_index}
use Rattle.std.proofs.lemmas.List.{append_assoc, length-append}
use Rattle.std.proofs.lemmas.Option.{slice_get-map}
use Rattle.ch_ir.specs.Machine.{Registers, cleared}
use Rattle.ch_ir.specs.declared.program.Array.{Array}
use Rattle.ch_ir.specs.declared.program.Program.{Program}
use Rattle.ch_pack.specs.Plans.{needs_of, programs_of}
use Rattle.ch_pack_laws.specs.Needs.{greatest}
use Rattle.ch_pack_laws.specs.Packed.{all_arrays, bases_from}
use Rattle.ch_plan.specs.Kinds.{kind_needs}
use Rattle.ch_plan.specs.declared.planned.Planned.{Planned}

pub behind : (ps : List Program) (q : ℕ) (p : Program) → slice_get ps q ≡ Some p → all_arrays (drop q ps) ≡ p.arrays ++ all_arrays (drop (suc q) ps)
behind [] q p e = absurd cc
behind (x ∷ ps) zero p e = let same : x ≡ p = cc in ap (λ (y : Program). y.arrays ++ all_arrays ps) same
behind (x ∷ ps) (suc q) p e = behind ps q p e

pub up_to : (ps : List Program) (q : ℕ) (p : Program) → slice_get ps q ≡ Some p → length (all_arrays (take (suc q) ps)) ≡ length (all_arrays (take q ps)) + length p.arrays
up_to [] q p e = absurd cc
up_to (x ∷ ps) zero p e =
    let same : x ≡ p = cc in
    let one = ap (λ (y : Program). length y.arrays) same in
    let size = length-append x.arrays [] in
    omega (arith, one, size)
up_to (x ∷ ps) (suc q) p e =
    let rest = up_to ps q p e in
    let a = length-append x.arrays (all_arrays (take (suc q) ps)) in
    let b = length-append x.arrays (all_arrays (take q ps)) in
    omega (arith, rest, a, b)

-- a program's first array is behind those of the programs before it
pub base_is : (ps : List Program) (q base : ℕ) (p : Program) → slice_get ps q ≡ Some p → slice_index (bases_from base ps) q ≡ base + length (all_arrays (take q ps))
base_is [] q base p e = absurd cc
base_is (x ∷ ps) zero base p e = omega arith
base_is (x ∷ ps) (suc q) base p e =
    let rest = base_is ps q (base + length x.arrays) p e in
    let size = length-append x.arrays (all_arrays (take q ps)) in
    rest ∙ omega (arith, size)

pub cleared_append : (xs ys : List Array) → cleared (xs ++ ys) ≡ cleared xs ++ cleared ys
cleared_append [] ys = refl
cleared_append (x ∷ xs) ys = ap (λ (r : Registers). cleared (x ∷ []) ++ r) (cleared_append xs ys)

pub cleared_count : (xs : List Array) → length (cleared xs) ≡ length xs
cleared_count [] = refl
cleared_count (x ∷ xs) = ap suc (cleared_count xs)

-- all arrays, those before a program's and those from it on
pub whole : (ps : List Program) (q : ℕ) → all_arrays ps ≡ all_arrays (take q ps) ++ all_arrays (drop q ps)
whole ps zero = refl
whole [] (suc q) = refl
whole (x ∷ ps) (suc q) = ap (λ (r : List Array). x.arrays ++ r) (whole ps q) ∙ sym (append_assoc x.arrays (all_arrays (take q ps)) (all_arrays (drop q ps)))

pub program_at : (plans : List Planned) (q : ℕ) (p : Planned) → slice_get plans q ≡ Some p → slice_get (programs_of plans) q ≡ Some p.checked
program_at plans q p e = slice_get-map (λ (x : Planned). x.checked) plans q ∙ rw e refl

pub width_at : (plans : List Planned) (q : ℕ) (p : Planned) → slice_get plans q ≡ Some p → (kind_needs p.kind).width ≤ greatest (λ n. n.width) (needs_of plans)
width_at [] q p e = absurd cc
width_at (x ∷ plans) zero p e = let same : x ≡ p = cc in let one = ap (λ (y : Planned). (kind_needs y.kind).width) same in omega (arith, one)
width_at (x ∷ plans) (suc q) p e = let rest = width_at plans q p e in omega (arith, rest)
