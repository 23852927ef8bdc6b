use Rattle.std.proofs.Common.{◌≡◌, ◌++◌, ℤ, List, pos, length, take, drop, replicate, sym, ◌∙◌, ap, arith, subst}
use Rattle.std.proofs.lemmas.List.{with_items_is, length-replicate}
use Rattle.std.specs.declared.vec.Vec.{Vec}
use Rattle.std.specs.declared.alloc.Global.{Global}
use Rattle.ch_ir.specs.declared.program.Array.{Array}
use Rattle.ch_ir.specs.Machine.{cleared}
use Rattle.ch_verify.specs.Fits.{RegistersFit}
use Rattle.ch_pipe.specs.Flat.{cut}
use Rattle.ch_pipe.specs.Installed.{Installed}
use Rattle.ch_pipe.proofs.Cuts.{cleared_fit, cut_zero}
use Rattle.ch_pipe.proofs.Ready.{ready_with}
use Rattle.ch_pipe.proofs.pipe.Pipe.clear.Goals as goal
use Rattle.ch_pipe.proofs.pipe.Pipe.clear.Goals.{After-fill}

zeros : (c : After-fill) → take c.self.inside.registers.len (c.fill.new.self ++ drop (length c.fill.new.self) c.self.inside.registers.items) ≡ replicate (length c.self.inside.registers.items) (pos 0)
zeros c =
    let v : Vec ℤ Global = c.self.inside.registers in
    let many : length c.fill.new.self ≡ v.len = omega (arith, c.fill.auto.self, c.as_mut_slice.ensures.len) in
    with_items_is v c.fill.new.self many ∙ c.fill.ensures.after (λ y e. e) ∙ ap (λ (xs : List ℤ). replicate (length xs) (pos 0)) c.as_mut_slice.ensures.value

made : (c : After-fill) → cut c.self.inside.checked.arrays (take c.self.inside.registers.len (c.fill.new.self ++ drop (length c.fill.new.self) c.self.inside.registers.items)) ≡ cleared c.self.inside.checked.arrays
made c =
    let size = c.self.invariant.0.size_is in
    ap (cut c.self.inside.checked.arrays) (zeros c) ∙ cut_zero c.self.inside.checked.arrays (length c.self.inside.registers.items) (omega arith)

pub invariant_of-self : goal.invariant_of-self
invariant_of-self c =
    let d : After-fill = (goal.at.invariant_of-self c).After-fill in
    let m = made d in
    let n = ap (λ (xs : List ℤ). length xs) (zeros d) ∙ length-replicate (length c.self.inside.registers.items) (pos 0) in
    let arrays : List Array = c.self.inside.checked.arrays in (
      record { bases_are = c.self.invariant.0.bases_are; size_is = n ∙ c.self.invariant.0.size_is },
      ready_with c.self.inside.checked (length c.self.inside.words.items) (length c.self.inside.room.items) (cut arrays c.self.inside.registers.items) _ c.self.invariant.1
          (subst (RegistersFit arrays) (sym m) (cleared_fit arrays)),
    )

pub returns-clause-registers : goal.returns-clause-registers
returns-clause-registers c =
    made ((goal.at.returns-clause-registers c).After-fill) ∙ ap (λ (v : Installed). cleared v.program.arrays) c.self.view_is
