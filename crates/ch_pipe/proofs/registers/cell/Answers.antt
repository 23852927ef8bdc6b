use Rattle.std.proofs.Common.{◌≡◌, ◌<◌, ◌+◌, ◌*◌, ℕ, ℤ, List, pos, arith, ap, ap₂, sym, length, get_or, drop, ◌∙◌, rules, w64}
use Rattle.std.proofs.lemmas.Int.{to_z-of_z}
use Rattle.std.proofs.lemmas.List.{get_or-take, get_or-drop}
use mir.Val.{SFits}
use Rattle.ch_ir.specs.declared.program.Array.{Array}
use Rattle.ch_ir.specs.Machine.{cells_of}
use Rattle.ch_ir.specs.Rules.{entries_of}
use Rattle.ch_pipe.specs.Flat.{base_of, IsLaid}
use Rattle.ch_pipe.proofs.Cuts.{base_is, base_there, cut_at, inside}
use Rattle.ch_pipe.proofs.registers.cell.Goals as goal

-- the place of a cell
place : (arrays : List Array) (bases : List ℕ) (size a e at k : ℕ) → IsLaid arrays bases size → a < length arrays → e < entries_of arrays a → at < cells_of arrays a → k ≡ cells_of arrays a
    → (get_or bases a 0 + e * k ≡ base_of arrays a + e * cells_of arrays a) × (get_or bases a 0 + e * k + at < size)
place arrays bases size a e at k l h i j m =
    let same : get_or bases a 0 + e * k ≡ base_of arrays a + e * cells_of arrays a = ap₂ (λ (b n : ℕ). b + e * n) (base_is arrays bases size a 0 l h) m in
    let within = inside arrays a e i in
    let all = l.size_is in
    (same, omega arith)

pub bounds-bases-array : goal.bounds-bases-array
bounds-bases-array c = base_there c.args.arrays.now c.args.bases.now (length c.args.registers.now) c.args.array c.requires.laid c.requires.array

pub bounds-registers-bases : goal.bounds-registers-bases
bounds-registers-bases c =
    (place c.args.arrays.now c.args.bases.now (length c.args.registers.now) c.args.array c.args.entry c.args.at c.cells_of-cells.result c.requires.laid c.requires.array c.requires.entry c.requires.at c.cells_of-cells.ensures).1

pub overflow_add-result : goal.overflow_add-result
overflow_add-result c =
    let p = place c.args.arrays.now c.args.bases.now (length c.args.registers.now) c.args.array c.args.entry c.args.at c.cells_of-cells.result c.requires.laid c.requires.array c.requires.entry c.requires.at c.cells_of-cells.ensures in
    let below = p.1 in
    search rules

pub overflow_add-result-2 : goal.overflow_add-result-2
overflow_add-result-2 c =
    let p = place c.args.arrays.now c.args.bases.now (length c.args.registers.now) c.args.array c.args.entry c.args.at c.cells_of-cells.result c.requires.laid c.requires.array c.requires.entry c.requires.at c.cells_of-cells.ensures in
    let below = p.1 in
    search rules

pub offset_bounds-registers-bases : goal.offset_bounds-registers-bases
offset_bounds-registers-bases c =
    let p = place c.args.arrays.now c.args.bases.now (length c.args.registers.now) c.args.array c.args.entry c.args.at c.cells_of-cells.result c.requires.laid c.requires.array c.requires.entry c.requires.at c.cells_of-cells.ensures in
    let below = p.1 in
    search rules

pub returns : goal.returns
returns c =
    let p = place c.args.arrays.now c.args.bases.now (length c.args.registers.now) c.args.array c.args.entry c.args.at c.cells_of-cells.result c.requires.laid c.requires.array c.requires.entry c.requires.at c.cells_of-cells.ensures in
    let flat : List ℤ = c.args.registers.now in
    let at : ℕ = get_or c.args.bases.now c.args.array 0 + c.args.entry * c.cells_of-cells.result + c.args.at in
    let fits : SFits w64 (get_or flat at (pos 0)) = search rules in
    let place : ℕ = base_of c.args.arrays.now c.args.array + c.args.entry * cells_of c.args.arrays.now c.args.array in
    to_z-of_z w64 (get_or flat at (pos 0)) fits ∙ ap (λ (b : ℕ). get_or flat (b + c.args.at) (pos 0)) p.0 ∙ sym (get_or-drop place flat c.args.at (pos 0))
    ∙ sym (get_or-take (cells_of c.args.arrays.now c.args.array) (drop place flat) c.args.at (pos 0) c.requires.at)
    ∙ ap (λ (xs : List ℤ). get_or xs c.args.at (pos 0)) (sym (cut_at c.args.arrays.now flat c.args.array c.args.entry c.requires.entry))
