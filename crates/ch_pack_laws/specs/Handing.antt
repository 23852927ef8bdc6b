-- In a packed program a plan has the policy's verdicts that it has alone, also from registers that other plans have used.
use Rattle.std.proofs.Common.{◌≡◌, ◌≤◌, ◌<◌, ℕ, Bool, List, [], ◌∷◌, ◌++◌, ℤ, pos, refl, sym, ◌∙◌, ap, arith, inl, inr, subst, Option, Some, None, length, get_or, replicate}
use Rattle.std.specs.Prelude.{◌-◌, slice_get, slice_index}
use Rattle.std.specs.Option.{option_and_then, option_map}
use Rattle.std.proofs.lemmas.Bool.{cases_lt, lt-ltb, le-ltb}
use Rattle.std.proofs.lemmas.List.{get_or_append_left, get_or-append_right, get_or-replicate, get_or_at, get_or_past, length-append, length-replicate}
use mathlib.Core.Path.{fun_ext}
use Rattle.ch_cover.specs.Rows.{Policy, Row}
use Rattle.ch_ir.specs.declared.program.Program.{Program}
use Rattle.ch_ir.specs.Machine.{Outcome, Registers, Words, ends, exec_stages, given, machine}
use Rattle.ch_verdicts.specs.declared.Slot.{Slot}
use Rattle.ch_verdicts.specs.Agrees.{Agrees, ArePassed, IsTaken}
use Rattle.ch_verdicts.specs.Handed.{front, handed, leaves, registers_by, says, slotted}
use Rattle.ch_verify.specs.Checked.{AlwaysRuns}
use Rattle.ch_verify.specs.Fits.{AllFits, RegistersFit}
use Rattle.ch_pack_laws.specs.Packs.{Packs, between}

-- a word that the program is given is the same with the selector behind it
word_same : (words : List ℤ) (place q w : ℕ) → w < place → get_or (slotted (Some (record { place = place; program = q })) words) w (pos 0) ≡ get_or words w (pos 0)
word_same words place q w h = elim (cases_lt w (length words)) [
  | inl a ↦
      get_or_append_left (words ++ replicate (place - length words) (pos 0)) (pos q ∷ []) (pos 0) w (let e = length-append words (replicate (place - length words) (pos 0)) in omega arith)
      ∙ get_or_append_left words (replicate (place - length words) (pos 0)) (pos 0) w a
  | inr a ↦
      let e = length-append words (replicate (place - length words) (pos 0)) in
      let f = length-replicate (place - length words) (pos 0) in
      get_or_append_left (words ++ replicate (place - length words) (pos 0)) (pos q ∷ []) (pos 0) w (omega (arith, e, f, a, h))
      ∙ (get_or-append_right words (replicate (place - length words) (pos 0)) (length words) w (pos 0) refl a
      ∙ (get_or-replicate (place - length words) (w - length words) (pos 0) (pos 0) (omega (arith, a, h)) ∙ sym (get_or_past words w (pos 0) a)))
]

given_same : (width place q : ℕ) (words : List ℤ) → width ≤ place → given width (slotted (Some (record { place = place; program = q })) words) ≡ given width words
given_same width place q words l = fun_ext (λ w. elim (cases_lt w width) [
  | inl a ↦ rw (lt-ltb w width a) (ap (λ (v : ℤ). Some v) (word_same words place q w (omega (arith, a, l))))
  | inr a ↦ rw (le-ltb w width a) refl
])

pub machine_same : (p : Program) (registers : Registers) (words : List ℤ) (place q : ℕ) → p.width ≤ place → machine p registers (slotted (Some (record { place = place; program = q })) words) ≡ machine p registers words
machine_same p registers words place q l =
    ap (λ (ws : Words). option_and_then (ends p.verdict) (exec_stages p.arrays p.stages (record { words = ws; registers = registers }))) (given_same p.width place q words l)

-- the selector stands at its place
selector_at : (words : List ℤ) (place q : ℕ) → length words ≤ place → get_or (slotted (Some (record { place = place; program = q })) words) place (pos 0) ≡ pos q
selector_at words place q l =
    let e = length-append words (replicate (place - length words) (pos 0)) in
    let f = length-replicate (place - length words) (pos 0) in
    get_or_at (words ++ replicate (place - length words) (pos 0)) (pos q) [] (pos 0) place (omega (arith, e, f, l))

-- what a plan's rows keep to: their words have places before the selector, and fit 64 bits
pub record RowsFit (is_row : Row → Bool) (place : ℕ) : Type 0 where
  pub few : (x : ℕ × Row) → IsTaken is_row x → length (front x.0 x.1) ≤ place
  pub fits : (x : ℕ × Row) → IsTaken is_row x → AllFits (front x.0 x.1)

-- one row's step
step_alone : (ps : List Program) (p alone : Program) (place q : ℕ) (bases : List ℕ) → Packs ps p place bases → slice_get ps q ≡ Some alone → alone.width ≤ place
    → (before own rest : Registers) (words : List ℤ) → length before ≡ slice_index bases q → length own ≡ length alone.arrays → length words ≤ place
    → machine p (before ++ (own ++ rest)) (slotted (Some (record { place = place; program = q })) words) ≡ option_map (between before rest) (machine alone own words)
step_alone ps p alone place q bases packs at narrow before own rest words lb lo few =
    packs.steps q alone at before own rest (slotted (Some (record { place = place; program = q })) words) lb lo (selector_at words place q few)
    ∙ ap (option_map (between before rest)) (machine_same alone own words place q narrow)

-- the registers after a history
record Held (p alone : Program) (slot : Option Slot) (before own rest : Registers) (rows : List (ℕ × Row)) : Type 0 where
  all : registers_by p slot (before ++ (own ++ rest)) rows ≡ before ++ (registers_by alone None own rows ++ rest)
  fit : RegistersFit alone.arrays (registers_by alone None own rows)

held : (ps : List Program) (p alone : Program) (place q : ℕ) (bases : List ℕ) (is_row : Row → Bool) → Packs ps p place bases → slice_get ps q ≡ Some alone → alone.width ≤ place
    → AlwaysRuns alone → RowsFit is_row place → (before own rest : Registers) → length before ≡ slice_index bases q → RegistersFit alone.arrays own → (rows : List (ℕ × Row)) → ArePassed is_row rows
    → Held p alone (Some (record { place = place; program = q })) before own rest rows
held ps p alone place q bases is_row packs at narrow runs rows_fit before own rest lb fit [] passed = record { all = refl; fit = fit }
held ps p alone place q bases is_row packs at narrow runs rows_fit before own rest lb fit (x ∷ rows) passed =
    let slot : Option Slot = Some (record { place = place; program = q }) in
    let h = held ps p alone place q bases is_row packs at narrow runs rows_fit before own rest lb fit rows (λ y i. passed y (inr i)) in
    let mine : Registers = registers_by alone None own rows in
    let words : List ℤ = front x.0 x.1 in
    let taken = passed x (inl refl) in
    let has = runs mine h.fit words (rows_fit.fits x taken) in
    let step = step_alone ps p alone place q bases packs at narrow before mine rest words lb h.fit.count (rows_fit.few x taken) in
    let left : leaves (machine alone mine words) ≡ has.outcome.registers = ap leaves has.is in
    record {
      all =
          ap (λ (r : Registers). leaves (machine p r (handed slot x.0 x.1))) h.all
          ∙ (ap leaves step ∙ (ap (λ (o : Option Outcome). leaves (option_map (between before rest) o)) has.is ∙ ap (λ (r : Registers). before ++ (r ++ rest)) (sym left)));
      fit = subst (λ (r : Registers). RegistersFit alone.arrays r) (sym left) has.registers;
    }

-- From any registers of the others, and from own registers from which the program alone has the policy's verdicts, the packed
-- program that is handed the rows with the selector has them.
abbrev pub AgreesPacked : Type 0
AgreesPacked = (ps : List Program) (p alone : Program) (place q : ℕ) (bases : List ℕ) (is_row : Row → Bool) (prunes : Policy) → Packs ps p place bases → slice_get ps q ≡ Some alone → alone.width ≤ place
    → AlwaysRuns alone → RowsFit is_row place → (before own rest : Registers) → length before ≡ slice_index bases q → RegistersFit alone.arrays own → Agrees is_row alone None own prunes
    → Agrees is_row p (Some (record { place = place; program = q })) (before ++ (own ++ rest)) prunes

pub packed_agrees : AgreesPacked
packed_agrees ps p alone place q bases is_row prunes packs at narrow runs rows_fit before own rest lb fit agrees history x passed taken =
    let slot : Option Slot = Some (record { place = place; program = q }) in
    let h = held ps p alone place q bases is_row packs at narrow runs rows_fit before own rest lb fit history passed in
    let mine : Registers = registers_by alone None own history in
    let step = step_alone ps p alone place q bases packs at narrow before mine rest (front x.0 x.1) lb h.fit.count (rows_fit.few x taken) in
    ap (λ (r : Registers). says (machine p r (handed slot x.0 x.1))) h.all
    ∙ (ap says step ∙ (says_same (machine alone mine (front x.0 x.1)) before rest ∙ agrees history x passed taken))
  where
    says_same : (o : Option Outcome) (before rest : Registers) → says (option_map (between before rest) o) ≡ says o
    says_same None before rest = refl
    says_same (Some o) before rest = refl
