-- One step of a pipeline that is ready.
use Rattle.std.proofs.Common.{◌≡◌, ◌<◌, ℕ, ℤ, pos, sym, ◌∙◌, Option, Some, None, length, get_or, List, ap₂, subst, inl, inr, nat_lt}
use Rattle.std.proofs.lemmas.Bool.{cases_Bool, ltb-true}
use Rattle.ch_ir.specs.declared.program.Program.{Program}
use Rattle.ch_ir.specs.Machine.{Registers, Outcome, given, machine, is_set}
use Rattle.std.specs.Prelude.{is_some}
use Rattle.ch_ir.specs.declared.rules.Refused.TheVariants as refused
use Rattle.ch_ir.specs.Rules.{Known, none_used, stages_refusal, verdict_refusal, rule_refusal, inputs, after_stages}
use Rattle.ch_verify.proofs.Sound.{none_else, needs_none}
use Rattle.ch_verify.specs.Fits.{AllFits, RegistersFit}
use Rattle.ch_verify.proofs.SoundAccess.{input_covers, known_value, ended}
use Rattle.ch_pipe.specs.Step.{Ready}
use Rattle.ch_pipe.proofs.Agree.{Shows}
use Rattle.ch_pipe.specs.Stages.{Held, total_stages, StagesCan}
use Rattle.ch_pipe.proofs.Follow.{stages_follow}

abbrev pub held_after : Program → List ℤ → Registers → Held
held_after p words registers = total_stages p.arrays p.stages (record { words = words; registers = registers })

pub record Steps (p : Program) (n room : ℕ) (words : List ℤ) (registers : Registers) (row : List ℤ) : Type 0 where
  pub can : StagesCan n room p.arrays p.stages (record { words = words; registers = registers })
  pub value : machine p registers row ≡ Some (record { prune = is_set (get_or (held_after p words registers).words p.verdict (pos 0)); registers = (held_after p words registers).registers })
  pub still : RegistersFit p.arrays (held_after p words registers).registers

same_outcome : (v w : ℤ) (r q : Registers) → v ≡ w → r ≡ q → ◌≡◌ {A = Option Outcome} (Some (record { prune = is_set v; registers = r })) (Some (record { prune = is_set w; registers = q }))
same_outcome v w r q e f = ap₂ (λ (x : ℤ) (y : Registers). Some (record { prune = is_set x; registers = y })) e f

pub steps : (p : Program) (n room : ℕ) (registers : Registers) → Ready p n room registers → (row : List ℤ) → AllFits row → (words : List ℤ) → length words ≡ n
    → Shows (given p.width row) words → Steps p n room words registers row
unfolding rule_refusal
steps p n room registers ready row typed words l sh =
    let known : Known = after_stages p.arrays p.stages (inputs p.width) in
    let parts = none_else (stages_refusal p.arrays 0 none_used (inputs p.width) p.stages) (verdict_refusal (length p.stages) known p.verdict) ready.checked.unbroken in
    let run = stages_follow n room p.arrays 0 none_used p.stages (inputs p.width) (record { words = given p.width row; registers = registers }) words
    ready.rooms ready.checked.fits (input_covers p.width row typed) ready.fits sh l parts.0 in
    let v = known_value (known p.verdict) (run.state.words p.verdict) (needs_none (is_some (known p.verdict)) (refused.Word (length p.stages) p.verdict) parts.1) (run.covers p.verdict) in
    let shown : get_or (held_after p words registers).words p.verdict (pos 0) ≡ v.0 = run.reaches.shows p.verdict v.0 v.1 in
    record {
      can = run.can_go;
      value = ended p.verdict _ run.state v.0 run.is v.1 ∙ same_outcome v.0 (get_or (held_after p words registers).words p.verdict (pos 0)) run.state.registers (held_after p words registers).registers (sym shown) (sym run.reaches.same);
      still = subst (RegistersFit p.arrays) (sym run.reaches.same) run.fits;
    }

-- what is written of a row
pub shows_row : (width : ℕ) (row words : List ℤ) → ((w : ℕ) → w < width → get_or words w (pos 0) ≡ get_or row w (pos 0)) → Shows (given width row) words
shows_row width row words h w v e = elim (cases_Bool (nat_lt w width)) [
  | inl t ↦ let same : Some (get_or row w (pos 0)) ≡ Some v = rw t at e in h w (ltb-true w width t) ∙ cc
  | inr t ↦ let bad : None ≡ Some v = rw t at e in cc
]
