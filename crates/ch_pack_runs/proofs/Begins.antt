-- The run of a packed plan may begin, and leaves the plans behind it as they were.
use Rattle.std.proofs.Common.{◌≡◌, ◌∙◌, ◌≤◌, ◌<◌, refl, sym, ap, subst, ℕ, suc, ◌+◌, Bool, true, false, ◌&&◌, List, [], ◌++◌, length, take, drop, Option, Some, None, arith}
use Rattle.std.specs.Prelude.{nat_lt, slice_index}
use Rattle.std.proofs.lemmas.List.{append_assoc, length-append}
use Rattle.ch_cover.specs.Rows.{Row}
use Rattle.ch_engine.specs.declared.engine.Engine.{Engine}
use Rattle.ch_ir.specs.Machine.{Registers, cleared}
use Rattle.ch_ir.specs.Measure.{sizes_of}
use Rattle.ch_ir.specs.declared.profile.Profile.{Profile}
use Rattle.ch_ir.specs.declared.program.Program.{Program}
use Rattle.ch_pack.specs.Plans.{IsPacked, programs_of}
use Rattle.ch_pack.specs.declared.packing.Packed.{Packed}
use Rattle.ch_pack_laws.specs.Handing.{RowsFit, packed_agrees}
use Rattle.ch_pack_laws.specs.Packed.{all_arrays, packed}
use Rattle.ch_pipe.proofs.Cuts.{cleared_fit}
use Rattle.ch_plan.specs.Kinds.{kind_needs, kind_policy, kind_program}
use Rattle.ch_plan.specs.Needs.{greatest_length}
use Rattle.ch_plan.specs.declared.kind.PlanKind.{PlanKind}
use Rattle.ch_plan.specs.declared.kind.PlanKind.TheVariants as kind
use Rattle.ch_plan.specs.declared.planned.Planned.{Planned}
use Rattle.ch_pred.specs.declared.bound.Bound.{Bound}
use Rattle.ch_protocol.specs.Drain.{drain}
use Rattle.ch_protocol.specs.Machine.{Config, State, start}
use Rattle.ch_protocol_laws.proofs.Reached.{reached_sound}
use Rattle.ch_prune.specs.Sent.{is_sent}
use Rattle.ch_prune.specs.declared.operator.Need.{Need}
use Rattle.ch_run.proofs.Asking.{planned}
use Rattle.ch_run.specs.Asked.{MayBegin}
use Rattle.ch_run.specs.Runs.{Begun, IsRunOf}
use Rattle.ch_stands.proofs.Judged.{history_passed}
use Rattle.ch_stands.specs.Parties.{begun_in, history}
use Rattle.ch_survival.specs.Asked.{asked_gate}
use Rattle.ch_survival.specs.Given.{Given}
use Rattle.ch_tables.specs.TableValue.{TableValue}
use Rattle.ch_verdicts.specs.Agrees.{Agrees, ArePassed}
use Rattle.ch_verdicts.specs.Handed.{registers_by}
use Rattle.ch_verdicts.specs.declared.Slot.{Slot}
use Rattle.ch_verify.proofs.Apart.{always_runs}
use Rattle.ch_pack_runs.proofs.Epochs.{drain_stays}
use Rattle.ch_pack_runs.proofs.Left.{IsLeft, rows_leave}
use Rattle.ch_pack_runs.proofs.Sent.{few_words, words_are_small}
use Rattle.ch_pack_runs.proofs.Splits.{base_is, behind, cleared_append, cleared_count, program_at, up_to, whole, width_at}
use Rattle.ch_pack_runs.specs.Cleared.{AreClearedFrom}
use Rattle.ch_pack_runs.specs.Runs.{IsPackedPlan, begun_at, switch_over}

-- the arrays of a packed program are those of its programs
arrays_are : (ps : List Program) (p : Program) → p ≡ packed ps → cleared p.arrays ≡ cleared (all_arrays ps)
unfolding packed
arrays_are ps p e = ap (λ (x : Program). cleared x.arrays) e

pub installed : (plans : List Planned) (profile : Profile) (it : Packed) → IsPacked plans profile it → AreClearedFrom (programs_of plans) 0 (cleared it.checked.arrays)
installed plans profile it is = record { used = []; many = refl; rest = arrays_are (programs_of plans) it.checked is.program }

-- the width of a plan's program is its need's
same_width : (k : PlanKind) → (kind_program k).width ≡ (kind_needs k).width
same_width (kind.Filter o) = refl
same_width (kind.Distinct o) = refl
same_width (kind.Top o) = refl
same_width (kind.Group o) = refl
same_width (kind.Having o) = refl
same_width (kind.Join o) = refl
same_width (kind.Skyline o) = refl
same_width (kind.Semi o) = refl

width_is : (p : Program) → (sizes_of p).width ≡ p.width
unfolding sizes_of
width_is p = refl

module _ (plans : List Planned) (profile : Profile) (it : Packed) (q : ℕ) (p : Planned) (texts : List (List ℕ)) (b : Bound) (tables : List TableValue) (is : IsPackedPlan plans profile it q p texts b tables) where
  abbrev ps : List Program
  ps = programs_of plans

  abbrev slot : Option Slot
  slot = Some (record { place = it.selector; program = q })

  abbrev is_row : Row → Bool
  is_row = is_sent (asked_gate texts b) b

  abbrev rest : Registers
  rest = cleared (all_arrays (drop (suc q) ps))

  -- the selector stands behind the words of the plan's rows, and is the last of the packed program's given words
  kind_width : (kind_program p.kind).width ≡ (kind_needs p.kind).width
  kind_width = same_width p.kind

  need_width : (kind_needs p.kind).width ≡ greatest_length b.carried + 3
  need_width = ap (λ (n : Need). n.width) is.plan.needs

  wide : (kind_program p.kind).width ≤ it.selector
  wide = let w = width_at plans q p is.place in let e = kind_width in let s = is.packed.widest in omega (arith, w, e, s)

  narrow : p.checked.width ≤ it.selector
  narrow = let e = ap (λ (x : Program). x.width) p.same in let w = wide in omega (arith, e, w)

  pub within : it.selector < it.checked.width
  within = let s = is.packed.widest in let w = is.packed.within.width in let e = width_is it.checked in omega (arith, s, w, e)

  pub three_words : 3 ≤ it.selector
  three_words = let e = kind_width in let n = need_width in let w = wide in omega (arith, e, n, w)

  rows_fit : RowsFit is_row it.selector
  rows_fit = record {
    few = λ x taken. let m = few_words (asked_gate texts b) b x taken in let e = kind_width in let n = need_width in let w = wide in omega (arith, m, e, n, w);
    fits = λ x taken. words_are_small (asked_gate texts b) b x taken;
  }

  -- the plan alone has the policy's verdicts
  alone_agrees : Agrees is_row p.checked None (cleared p.checked.arrays) (kind_policy p.kind)
  alone_agrees =
      let alone = planned texts b tables p.kind profile 1 is.tables_are is.plan is.carried is.few (omega arith) (omega arith) in
      subst (λ (x : Program). Agrees is_row x None (cleared x.arrays) (kind_policy p.kind)) (sym p.same) alone.begun

  -- its first array stands behind those of the plans before it
  first_array : (used : Registers) → length used ≡ length (all_arrays (take q ps)) → length used ≡ slice_index it.bases q
  first_array used many =
      let bases = ap (λ (bs : List ℕ). slice_index bs q) is.packed.first_arrays in
      let base = base_is ps q 0 p.checked (program_at plans q p is.place) in
      omega (arith, many, bases, base)

  -- so it has them between any arrays of the others
  agrees : (used others : Registers) → length used ≡ length (all_arrays (take q ps)) → Agrees is_row it.checked slot (used ++ (cleared p.checked.arrays ++ others)) (kind_policy p.kind)
  agrees used others many =
      let at = program_at plans q p is.place in
      packed_agrees ps it.checked p.checked it.selector q it.bases is_row (kind_policy p.kind) is.packed.packs at narrow (always_runs p.checked is.checked) rows_fit used (cleared p.checked.arrays) others
      (first_array used many) (cleared_fit p.checked.arrays) alone_agrees

  own_is : cleared (all_arrays (drop q ps)) ≡ cleared p.checked.arrays ++ rest
  own_is = ap cleared (behind ps q p.checked (program_at plans q p is.place)) ∙ cleared_append p.checked.arrays (all_arrays (drop (suc q) ps))

  cleared_is : cleared it.checked.arrays ≡ cleared (all_arrays (take q ps)) ++ (cleared p.checked.arrays ++ rest)
  cleared_is =
      arrays_are ps it.checked is.packed.program
      ∙ (ap cleared (whole ps q)
      ∙ (cleared_append (all_arrays (take q ps)) (all_arrays (drop q ps))
      ∙ ap (λ (r : Registers). cleared (all_arrays (take q ps)) ++ r) own_is))

  module _ (registers : Registers) (from : AreClearedFrom ps q registers) where
    registers_are : registers ≡ from.used ++ (cleared p.checked.arrays ++ rest)
    registers_are = from.rest ∙ ap (λ (r : Registers). from.used ++ r) own_is

    pub may_begin : (workers : ℕ) → MayBegin texts b p.kind workers (switch_over it q workers registers)
    may_begin workers = record {
      is_new = refl;
      slot = record { place = it.selector; program = q };
      slot_is = refl;
      within = within;
      wide = wide;
      begun = subst (λ (r : Registers). Agrees is_row it.checked slot r (kind_policy p.kind)) (sym registers_are) (agrees from.used rest from.many);
      cleared = subst (λ (r : Registers). Agrees is_row it.checked slot r (kind_policy p.kind)) (sym cleared_is) (agrees (cleared (all_arrays (take q ps))) rest (cleared_count (all_arrays (take q ps))));
    }

    -- what rows of this query make of them
    left : (rows : List (ℕ × Row)) → ArePassed is_row rows → IsLeft p.checked from.used rest (registers_by it.checked slot registers rows)
    left rows passed =
        let at = program_at plans q p is.place in
        subst (λ (r : Registers). IsLeft p.checked from.used rest (registers_by it.checked slot r rows)) (sym registers_are)
        (rows_leave ps it.checked p.checked it.selector q it.bases is.packed.packs at narrow (always_runs p.checked is.checked) is_row rows_fit from.used rest
        (first_array from.used from.many) (cleared p.checked.arrays) (cleared_fit p.checked.arrays) rows passed)

    next : (after : Registers) → IsLeft p.checked from.used rest after → AreClearedFrom ps (suc q) after
    next after l =
        let a = length-append from.used l.own in
        let count = l.fits.count in
        let many = from.many in
        let more = up_to ps q p.checked (program_at plans q p is.place) in
        record {
          used = from.used ++ l.own;
          many = omega (arith, a, count, many, more);
          rest = l.is ∙ sym (append_assoc from.used l.own rest);
        }

    module _ (window workers : ℕ) (x : Engine) where
      abbrev begun : Begun
      begun = begun_at it q p texts b tables window workers registers

      abbrev c : Config
      c = begun.given.config

      never_keeps : (two : Bool) (epoch : ℕ) → epoch ≡ 0 → (two && nat_lt 0 epoch) ≡ false
      never_keeps true epoch e = rw e refl
      never_keeps false epoch e = refl

      pub leaves_cleared : IsRunOf begun x (drain c (start c)) → (x.switch.program ≡ it.checked) × AreClearedFrom ps (suc q) x.switch.registers
      leaves_cleared r =
          let g : Given = begun.given in
          let s : State = drain c (start c) in
          let st = r.stands.switch in
          let epoch : s.epoch ≡ 0 = drain_stays c (start c) in
          let keeps : x.switch.keeps ≡ false = st.keeps_is ∙ never_keeps c.two_passes s.epoch epoch in
          let passed = history_passed g s r.planned (reached_sound c s r.reached) in
          let first : begun_in g s.epoch ≡ registers = ap (begun_in g) epoch in
          let after : x.switch.registers ≡ registers_by it.checked slot registers (history g s.epoch s.processed) =
          st.registers_is keeps ∙ ap (λ (z : Registers). registers_by it.checked slot z (history g s.epoch s.processed)) first in (
            st.program_is,
            next x.switch.registers (subst (IsLeft p.checked from.used rest) (sym after) (left (history g s.epoch s.processed) passed)),
          )
