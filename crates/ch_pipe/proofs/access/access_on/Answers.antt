use Rattle.std.proofs.Common.{◌≡◌, ℕ, ℤ, List, ◌+◌, ◌-◌, ◌*◌, arith, ap, ap₂, refl, sym, length, take, drop, ◌∙◌}
use Rattle.ch_ir.specs.declared.program.Access.{Access}
use Rattle.ch_pipe.specs.Total.{nat_of, value_at, total_store}
use Rattle.ch_pipe.specs.Entry.{cells_on}
use Rattle.ch_pipe.proofs.Cuts.{written, length_part}
use Rattle.ch_pipe.proofs.access.access_on.Goals as goal

pub returns-clause-registers : goal.returns-clause-registers
returns-clause-registers c =
    let x : Access = c.args.x.now in
    let words : List ℤ = c.args.words.now in
    let flat : List ℤ = c.args.registers.now in
    let cells : ℕ = c.args.cells in
    let at : ℕ = c.args.base + c.index_at.result * cells in
    let place : ℕ = c.args.base + nat_of (value_at words x.index) * cells in
    let same : at ≡ place = ap (λ (i : ℕ). c.args.base + i * cells) c.index_at.ensures in
    let k : at + cells - at ≡ cells = omega arith in
    let part : take (at + cells - at) (drop at flat) ≡ take cells (drop place flat) = ap₂ (λ (m i : ℕ). take m (drop i flat)) k same in
    let many : length c.access_cells.new.cells ≡ cells = c.access_cells.auto.cells ∙ ap (λ (ys : List ℤ). length ys) part ∙ length_part flat place cells c.requires.there in
    let there = c.requires.there in
    written c.access_cells.new.cells c.access_cells.new.cells flat at _ refl (k ∙ sym many) (omega arith)
    ∙ ap₂ (λ (i : ℕ) (ys : List ℤ). total_store i ys flat) same (c.access_cells.ensures.cells ∙ ap (cells_on x words) part)
