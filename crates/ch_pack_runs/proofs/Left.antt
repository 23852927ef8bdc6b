-- What the rows of one query leave in the registers: its own arrays change as they would alone, and all others stay.
use Rattle.std.proofs.Common.{◌≡◌, ◌∙◌, ◌≤◌, refl, ap, ℕ, ◌+◌, Bool, List, [], ◌∷◌, ◌++◌, ℤ, pos, length, get_or, replicate, Option, Some, arith, inl, inr}
use Rattle.std.specs.Prelude.{◌-◌, slice_get, slice_index}
use Rattle.std.specs.Option.{option_map}
use Rattle.std.proofs.lemmas.List.{get_or_at, length-append, length-replicate}
use Rattle.ch_cover.specs.Rows.{Row}
use Rattle.ch_ir.specs.Machine.{Outcome, Registers, machine}
use Rattle.ch_ir.specs.declared.program.Program.{Program}
use Rattle.ch_pack_laws.specs.Handing.{RowsFit, machine_same}
use Rattle.ch_pack_laws.specs.Packs.{Packs, between}
use Rattle.ch_verdicts.specs.Agrees.{ArePassed, IsTaken}
use Rattle.ch_verdicts.specs.Handed.{front, handed, leaves, registers_by, slotted}
use Rattle.ch_verdicts.specs.declared.Slot.{Slot}
use Rattle.ch_verify.specs.Checked.{AlwaysRuns}
use Rattle.ch_verify.specs.Fits.{RegistersFit}

-- the selector stands behind the words and the zeros
selects : (words : List ℤ) (place q : ℕ) → length words ≤ place → get_or (slotted (Some (record { place = place; program = q })) words) place (pos 0) ≡ pos q
selects words place q few =
    let all = length-append words (replicate (place - length words) (pos 0)) in
    let zeros = length-replicate (place - length words) (pos 0) in
    get_or_at (words ++ replicate (place - length words) (pos 0)) (pos q) [] (pos 0) place (omega (arith, all, zeros, few))

-- the registers after rows: some of the program's own, between what was there
pub record IsLeft (alone : Program) (used rest after : Registers) : Type 0 where
  pub own : Registers
  pub fits : RegistersFit alone.arrays own
  pub is : after ≡ used ++ (own ++ rest)

module _ (ps : List Program) (p alone : Program) (place q : ℕ) (bases : List ℕ) (packs : Packs ps p place bases) (at : slice_get ps q ≡ Some alone) (narrow : alone.width ≤ place) (runs : AlwaysRuns alone)
    (is_row : Row → Bool) (rows_fit : RowsFit is_row place) (used rest : Registers) (base : length used ≡ slice_index bases q) where
  abbrev slot : Option Slot
  slot = Some (record { place = place; program = q })

  one_row : (x : ℕ × Row) → IsTaken is_row x → (registers : Registers) → IsLeft alone used rest registers → IsLeft alone used rest (leaves (machine p registers (handed slot x.0 x.1)))
  one_row x taken registers left =
      let words : List ℤ = front x.0 x.1 in
      let few = rows_fit.few x taken in
      let has = runs left.own left.fits words (rows_fit.fits x taken) in
      let step = packs.steps q alone at used left.own rest (slotted slot words) base left.fits.count (selects words place q few) in
      record {
        own = has.outcome.registers;
        fits = has.registers;
        is =
            ap (λ (r : Registers). leaves (machine p r (slotted slot words))) left.is
            ∙ (ap leaves step
            ∙ ap (λ (o : Option Outcome). leaves (option_map (between used rest) o)) (machine_same alone left.own words place q narrow ∙ has.is));
      }

  pub rows_leave : (own : Registers) → RegistersFit alone.arrays own → (rows : List (ℕ × Row)) → ArePassed is_row rows → IsLeft alone used rest (registers_by p slot (used ++ (own ++ rest)) rows)
  rows_leave own fits [] passed = record { own = own; fits = fits; is = refl }
  rows_leave own fits (x ∷ rows) passed = one_row x (passed x (inl refl)) _ (rows_leave own fits rows (λ y i. passed y (inr i)))
