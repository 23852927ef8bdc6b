-- Runs of queries whose plans are packed, one after the other on the same registers.
use Rattle.std.specs.Prelude.{◌≡◌, ◌≤◌, ℕ, List, slice_get, Some}
use Rattle.ch_ir.specs.Machine.{Registers}
use Rattle.ch_ir.specs.declared.profile.Profile.{Profile}
use Rattle.ch_pack.specs.Plans.{IsPacked}
use Rattle.ch_pack.specs.declared.packing.Packed.{Packed}
use Rattle.ch_parts.specs.Scanned.{AreTables, parts_of}
use Rattle.ch_plan.specs.Kinds.{IsPlanOf}
use Rattle.ch_plan.specs.Needs.{greatest_length}
use Rattle.ch_plan.specs.declared.planned.Planned.{Planned}
use Rattle.ch_pred.specs.declared.bound.Bound.{Bound}
use Rattle.ch_run.specs.Asked.{AreFew, begun_over}
use Rattle.ch_run.specs.Runs.{Begun}
use Rattle.ch_switch.specs.Switching.{Switching, fresh}
use Rattle.ch_tables.specs.TableValue.{TableValue}
use Rattle.ch_verify.specs.Checked.{IsChecked}

-- One of the packed plans is this one, it is a plan of this query, and the query is asked of these tables
pub record IsPackedPlan (plans : List Planned) (profile : Profile) (it : Packed) (q : ℕ) (p : Planned) (texts : List (List ℕ)) (b : Bound) (tables : List TableValue) : Type 0 where
  pub packed : IsPacked plans profile it
  pub place : slice_get plans q ≡ Some p
  pub checked : IsChecked p.checked
  pub tables_are : AreTables texts b tables
  pub plan : IsPlanOf p.kind b profile
  pub carried : greatest_length b.carried ≤ 16
  pub few : AreFew (parts_of texts b tables)

-- the packed program on registers as they stand, told that each packet is this plan's
abbrev pub switch_over : Packed → ℕ → ℕ → Registers → Switching
switch_over it q workers registers = fresh it.checked registers (Some (record { place = it.selector; program = q })) workers

-- what the run of this plan over those registers is begun with
abbrev pub begun_at : Packed → ℕ → Planned → List (List ℕ) → Bound → List TableValue → ℕ → ℕ → Registers → Begun
begun_at it q p texts b tables window workers registers = begun_over texts b tables p.kind window (switch_over it q workers registers)
