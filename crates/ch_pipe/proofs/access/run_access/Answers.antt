use Rattle.std.proofs.Common.{◌≡◌, ℕ, ℤ, List, ◌+◌, ◌*◌, true, arith, ap₂, length, get_or, take, drop, ◌∙◌}
use Rattle.ch_ir.specs.declared.program.Access.{Access}
use Rattle.ch_ir.specs.declared.program.Array.{Array}
use Rattle.ch_ir.specs.Machine.{cells_of, is_set}
use Rattle.ch_pipe.specs.Total.{nat_of, value_at, total_store}
use Rattle.ch_pipe.specs.Entry.{cells_on, words_on}
use Rattle.ch_pipe.specs.Flat.{base_of}
use Rattle.ch_pipe.proofs.Cuts.{base_is, base_there, cut_count, cut_many, inside}
use Rattle.ch_pipe.proofs.Accessed.{guard_set, registers_accessed, words_accessed}
use Rattle.ch_pipe.proofs.access.run_access.Goals as goal

pub bounds-bases-x : goal.bounds-bases-x
bounds-bases-x c =
    let many = cut_count c.args.arrays.now c.args.registers.now in
    let there = c.requires.can.there in
    base_there c.args.arrays.now c.args.bases.now (length c.args.registers.now) c.args.x.now.array c.requires.laid (omega arith)

pub access_on-requires-clause-there : goal.access_on-requires-clause-there
access_on-requires-clause-there c =
    let x : Access = c.args.x.now in
    let arrays : List Array = c.args.arrays.now in
    let many = cut_count arrays c.args.registers.now in
    let there = c.requires.can.there in
    let base : get_or c.args.bases.now x.array 0 ≡ base_of arrays x.array = base_is arrays c.args.bases.now (length c.args.registers.now) x.array 0 c.requires.laid (omega arith) in
    let on : is_set (value_at c.args.words.now x.guard) ≡ true = guard_set c.value_of.result _ c.is_on.result (record { sfits = c.value_of.type_inv }) c.value_of.ensures c.is_on.ensures c.if-is_on.true in
    let index : ℕ = nat_of (value_at c.args.words.now x.index) in
    let entries = cut_many arrays c.args.registers.now x.array in
    let below = c.requires.can.inside on in
    let within = inside arrays x.array index (omega arith) in
    let size = c.requires.laid.size_is in
    let e : get_or c.args.bases.now x.array 0 + index * c.cells_of-cells.result + c.cells_of-cells.result ≡ base_of arrays x.array + index * cells_of arrays x.array + cells_of arrays x.array =
    ap₂ (λ (b k : ℕ). b + index * k + k) base c.cells_of-cells.ensures in
    omega arith

pub returns-then-is_on-clause-words : goal.returns-then-is_on-clause-words
returns-then-is_on-clause-words c =
    let x : Access = c.args.x.now in
    let arrays : List Array = c.args.arrays.now in
    let flat : List ℤ = c.args.registers.now in
    let words : List ℤ = c.args.words.now in
    let many = cut_count arrays flat in
    let there = c.requires.can.there in
    let base : get_or c.args.bases.now x.array 0 ≡ base_of arrays x.array = base_is arrays c.args.bases.now (length flat) x.array 0 c.requires.laid (omega arith) in
    let on : is_set (value_at words x.guard) ≡ true = guard_set c.value_of.result _ c.is_on.result (record { sfits = c.value_of.type_inv }) c.value_of.ensures c.is_on.ensures c.if-is_on.true in
    let index : ℕ = nat_of (value_at words x.index) in
    let entries = cut_many arrays flat x.array in
    let below = c.requires.can.inside on in
    words_accessed arrays flat words c.access_on.new.words x on (omega arith)
    (c.access_on.ensures.words ∙ ap₂ (λ (b k : ℕ). words_on x words (take k (drop (b + index * k) flat))) base c.cells_of-cells.ensures)

pub returns-then-is_on-clause-registers : goal.returns-then-is_on-clause-registers
returns-then-is_on-clause-registers c =
    let x : Access = c.args.x.now in
    let arrays : List Array = c.args.arrays.now in
    let flat : List ℤ = c.args.registers.now in
    let words : List ℤ = c.args.words.now in
    let many = cut_count arrays flat in
    let there = c.requires.can.there in
    let base : get_or c.args.bases.now x.array 0 ≡ base_of arrays x.array = base_is arrays c.args.bases.now (length flat) x.array 0 c.requires.laid (omega arith) in
    let on : is_set (value_at words x.guard) ≡ true = guard_set c.value_of.result _ c.is_on.result (record { sfits = c.value_of.type_inv }) c.value_of.ensures c.is_on.ensures c.if-is_on.true in
    let index : ℕ = nat_of (value_at words x.index) in
    let entries = cut_many arrays flat x.array in
    let below = c.requires.can.inside on in
    let size = c.requires.laid.size_is in
    registers_accessed (length words) arrays flat words c.access_on.new.registers x on (omega arith) c.requires.can.room (omega arith)
    (c.access_on.ensures.registers ∙ ap₂ (λ (b k : ℕ). total_store (b + index * k) (cells_on x words (take k (drop (b + index * k) flat))) flat) base c.cells_of-cells.ensures)
