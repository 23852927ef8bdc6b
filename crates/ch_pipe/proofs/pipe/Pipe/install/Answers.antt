use Rattle.std.proofs.Common.{◌≡◌, ℕ, ℤ, List, pos, length, replicate, sym, ◌∙◌, ap, subst, arith}
use Rattle.std.proofs.lemmas.List.{length-replicate}
use Rattle.ch_ir.specs.declared.program.Array.{Array}
use Rattle.ch_ir.specs.declared.program.Program.{Program}
use Rattle.ch_ir.specs.declared.rules.Sizes.{Sizes}
use Rattle.ch_ir.specs.Machine.{cleared}
use Rattle.ch_ir.specs.Measure.{sizes_of, words_of}
use Rattle.ch_verify.specs.Fits.{RegistersFit}
use Rattle.ch_pipe.specs.Flat.{cut, all_cells, bases_from, IsLaid}
use Rattle.ch_pipe.specs.Installed.{widest}
use Rattle.ch_pipe.proofs.Cuts.{cleared_fit, cut_zero}
use Rattle.ch_pipe.proofs.Ready.{ready}
use Rattle.ch_pipe.proofs.pipe.Pipe.install.Goals as goal

zero_cut : (arrays given : List Array) (bases : List ℕ) (size : ℕ) (flat : List ℤ) → IsLaid given bases size → given ≡ arrays → flat ≡ replicate size (pos 0) → cut arrays flat ≡ cleared arrays
zero_cut arrays given bases size flat l e z =
    let all = l.size_is ∙ ap all_cells e in
    ap (cut arrays) z ∙ cut_zero arrays size (omega arith)

laid_at : (arrays given : List Array) (bases : List ℕ) (size : ℕ) (flat : List ℤ) → IsLaid given bases size → given ≡ arrays → flat ≡ replicate size (pos 0) → IsLaid arrays bases (length flat)
laid_at arrays given bases size flat l e z = record {
  bases_are = l.bases_are ∙ ap (bases_from 0) e;
  size_is = ap (λ (xs : List ℤ). length xs) z ∙ length-replicate size (pos 0) ∙ l.size_is ∙ ap all_cells e;
}

pub invariant_of-result : goal.invariant_of-result
unfolding sizes_of
invariant_of-result c =
    let p : Program = c.args.checked in
    let same = c.program-program.ensures.same in
    let words : length c.in_ok-words.words.items ≡ words_of p = ap length c.in_ok-words.ensures ∙ length-replicate c.measure.result.words (pos 0)
    ∙ ap (λ (s : Sizes). s.words) c.measure.ensures ∙ ap words_of same in
    let room : length c.in_ok-room.room.items ≡ widest p.arrays = ap length c.in_ok-room.ensures ∙ length-replicate c.widest.result (pos 0)
    ∙ c.widest.ensures ∙ ap widest c.as_slice.ensures ∙ ap (λ (q : Program). widest q.arrays) same in
    let given = c.as_slice-2.ensures ∙ ap (λ (q : Program). q.arrays) same in
    let zero = c.in_ok-registers.ensures in
    let registers : cut p.arrays c.in_ok-registers.registers.items ≡ cleared p.arrays = zero_cut p.arrays _ _ _ c.in_ok-registers.registers.items c.in_ok-layout.ensures given zero in (
      laid_at p.arrays _ _ _ c.in_ok-registers.registers.items c.in_ok-layout.ensures given zero,
      ready p (length c.in_ok-words.words.items) (length c.in_ok-room.room.items) (cut p.arrays c.in_ok-registers.registers.items) c.program-program.ensures.checked words room
          (subst (RegistersFit p.arrays) (sym registers) (cleared_fit p.arrays)),
    )

pub returns-clause-registers : goal.returns-clause-registers
returns-clause-registers c =
    zero_cut c.args.checked.arrays _ _ _ c.in_ok-registers.registers.items c.in_ok-layout.ensures
    (c.as_slice-2.ensures ∙ ap (λ (q : Program). q.arrays) c.program-program.ensures.same) c.in_ok-registers.ensures
