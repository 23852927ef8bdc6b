use Rattle.std.proofs.Common.{◌≡◌, ℕ, ℤ, Bool, List, pos, length, get_or, sym, ◌∙◌, ap, subst, Option, Some}
use Rattle.ch_ir.specs.declared.program.Array.{Array}
use Rattle.ch_ir.specs.declared.program.Stage.{Stage}
use Rattle.ch_ir.specs.declared.program.Program.{Program}
use Rattle.ch_ir.specs.Machine.{Registers, Outcome, is_set}
use Rattle.ch_verify.specs.Fits.{RegistersFit}
use Rattle.ch_pipe.specs.Flat.{cut}
use Rattle.ch_pipe.specs.Stages.{Held, total_stages, StagesCan}
use Rattle.ch_pipe.specs.Step.{Ready}
use Rattle.ch_pipe.proofs.Steps.{Steps, steps, shows_row, held_after}
use Rattle.ch_pipe.proofs.step.step_row.Goals as goal
use Rattle.ch_pipe.proofs.step.step_row.Goals.{After-write_row, After-run_stages}

can_at : (n m room : ℕ) (arrays given : List Array) (ss ts : List Stage) (words flat : List ℤ) → m ≡ n → given ≡ arrays → ts ≡ ss
    → StagesCan n room arrays ss (record { words = words; registers = cut arrays flat }) → StagesCan m room given ts (record { words = words; registers = cut given flat })
can_at n m room arrays given ss ts words flat en ea es t = rw (en, ea, es) t

abbrev record_held : List ℤ → Registers → Held
record_held words registers = record { words = words; registers = registers }

abbrev Totals : List ℤ → List ℤ → List ℤ → List ℤ → List Array → List Stage → Type 0
Totals words new flat after arrays ss = record_held new (cut arrays after) ≡ total_stages arrays ss (record_held words (cut arrays flat))

total_at : (words new flat after : List ℤ) (arrays given : List Array) (ss ts : List Stage) → given ≡ arrays → ts ≡ ss → Totals words new flat after given ts → Totals words new flat after arrays ss
total_at words new flat after arrays given ss ts ea es t = subst (λ (a : List Array). Totals words new flat after a ss) ea (subst (λ (s : List Stage). Totals words new flat after given s) es t)

finish : (verdict : ℕ) (got h : Held) (o : Option Outcome) (b : Bool) → got ≡ h → o ≡ Some (record { prune = is_set (get_or h.words verdict (pos 0)); registers = h.registers })
    → b ≡ is_set (get_or got.words verdict (pos 0)) → o ≡ Some (record { prune = b; registers = got.registers })
finish verdict got h o b e v p = v ∙ ap (λ (x : Held). Some (record { prune = is_set (get_or x.words verdict (pos 0)); registers = x.registers })) (sym e) ∙ ap (λ (x : Bool). Some (record { prune = x; registers = got.registers })) (sym p)

ready_at : (p : Program) (n m room space : ℕ) (registers now : Registers) → m ≡ n → space ≡ room → Ready p n room registers → RegistersFit p.arrays now → Ready p m space now
ready_at p n m room space registers now en er r f = rw (en, er) (record { checked = r.checked; rooms = r.rooms; verdict = r.verdict; width = r.width; fits = f })

stepped : (c : After-write_row) → Steps c.args.program.now (length c.args.words.now) (length c.args.room.now) c.write_row.new.words (cut c.args.program.now.arrays c.args.registers.now) c.args.row.now
stepped c = steps c.args.program.now (length c.args.words.now) (length c.args.room.now) (cut c.args.program.now.arrays c.args.registers.now) c.requires.ready c.args.row.now c.write_row.ensures.fits
    c.write_row.new.words c.write_row.auto.words (shows_row c.args.program.now.width c.args.row.now c.write_row.new.words c.write_row.ensures.given)

reached : (c : After-run_stages) → record { words = c.run_stages.new.words; registers = cut c.args.program.now.arrays c.run_stages.new.registers } ≡ held_after c.args.program.now c.write_row.new.words (cut c.args.program.now.arrays c.args.registers.now)
reached c = total_at c.write_row.new.words c.run_stages.new.words c.args.registers.now c.run_stages.new.registers _ _ _ _ c.as_slice-2.ensures c.as_slice.ensures c.run_stages.ensures

pub run_stages-requires-clause-can : goal.run_stages-requires-clause-can
run_stages-requires-clause-can c =
    let s = stepped ((goal.at.run_stages-requires-clause-can c).After-write_row) in
    can_at _ _ _ _ _ _ _ _ _ c.write_row.auto.words c.as_slice-2.ensures c.as_slice.ensures s.can

pub returns-clause-value : goal.returns-clause-value
returns-clause-value c =
    let s = stepped ((goal.at.returns-clause-value c).After-write_row) in
    let r = reached ((goal.at.returns-clause-value c).After-run_stages) in
    finish c.args.program.now.verdict _ _ _ _ r s.value c.is_on_at.ensures

pub returns-clause-ready : goal.returns-clause-ready
returns-clause-ready c =
    let s = stepped ((goal.at.returns-clause-ready c).After-write_row) in
    let r = reached ((goal.at.returns-clause-ready c).After-run_stages) in
    let p : Program = c.args.program.now in
    ready_at p (length c.args.words.now) _ (length c.args.room.now) _ (cut c.args.program.now.arrays c.args.registers.now) (cut c.args.program.now.arrays c.run_stages.new.registers)
    (c.run_stages.auto.words ∙ c.write_row.auto.words) c.run_stages.auto.room c.requires.ready
    (subst (λ (x : Held). RegistersFit p.arrays x.registers) (sym r) s.still)
