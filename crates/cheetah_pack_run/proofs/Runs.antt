-- A query that is read and planned may be run over the packed program, and what its run leaves and says.
use Rattle.std.proofs.Common.{◌≡◌, ◌∙◌, ◌≤◌, ◌<◌, ◌^◌, refl, sym, ap, subst, ℕ, zero, suc, List, [], ◌∷◌, All, length, Some, Result, Ok, arith}
use Rattle.std.specs.Prelude.{slice_get}
use Rattle.std.proofs.lemmas.List.{length-map}
use Rattle.ch_asked.specs.Texts.{asked_texts, dictionary_of}
use Rattle.ch_bind.specs.Binding.{plain_bound}
use Rattle.ch_command.specs.declared.outcome.Outcome.{Outcome}
use Rattle.ch_engine.specs.declared.engine.Engine.{Engine}
use Rattle.ch_ir.specs.declared.profile.Profile.{Profile}
use Rattle.ch_ir.specs.declared.setting.Setting.TheVariants.{Window}
use Rattle.ch_pack.specs.Plans.{programs_of}
use Rattle.ch_pack_runs.proofs.Begins.{leaves_cleared, may_begin, three_words, within}
use Rattle.ch_pack_runs.specs.Cleared.{AreClearedFrom}
use Rattle.ch_pack_runs.specs.Runs.{IsPackedPlan, begun_at, switch_over}
use Rattle.ch_parts.specs.Scanned.{parts_of}
use Rattle.ch_pipe.specs.Installed.{Installed}
use Rattle.ch_plan.specs.declared.planned.Planned.{Planned}
use Rattle.ch_pred.specs.declared.bound.Bound.{Bound}
use Rattle.ch_protocol.specs.Drain.{drain}
use Rattle.ch_protocol.specs.Machine.{Config, rows_in, start, workers}
use Rattle.ch_protocol_laws.proofs.Drained.{drains_after}
use Rattle.ch_protocol_laws.proofs.Reached.{reached_ready}
use Rattle.ch_run.specs.Asked.{MayBegin, begun_over, config_of}
use Rattle.ch_run.specs.Runs.{IsRunOf}
use Rattle.ch_switch.specs.Switching.{Switching, fresh}
use Rattle.ch_tables.specs.TableValue.{TableValue}
use Rattle.ch_verify.specs.Checked.{IsChecked}
use Rattle.cheetah_pack_meaning.specs.Meaning.{said_alone}
use Rattle.cheetah_pack_run.specs.Running.{AreAskedPlans, IsAskedPlan, IsInstalled, StopsDrained, inputs_alone}
use Rattle.cheetah_pack_meaning.proofs.Asked.{are_tables, few_carried, few_parts, known, ranged, some_parts}
use Rattle.cheetah_pack_meaning.proofs.Ends.{run_comes}
use Rattle.cheetah_pack_meaning.specs.Saying.{said_in}

-- each query with its plan
pub asked_at : (profile : Profile) (tables : List TableValue) (bounds : List Bound) (plans : List Planned) → AreAskedPlans profile tables bounds plans → (k : ℕ) (b : Bound) (p : Planned)
    → slice_get bounds k ≡ Some b → slice_get plans k ≡ Some p → IsAskedPlan profile tables b p
asked_at profile tables [] [] are k b p e f = absurd cc
asked_at profile tables (x ∷ bounds) [] are k b p e f = absurd are
asked_at profile tables [] (y ∷ plans) are k b p e f = absurd are
asked_at profile tables (x ∷ bounds) (y ∷ plans) are zero b p e f =
    let c : x ≡ b = cc in
    let d : y ≡ p = cc in
    subst (λ (z : Bound). IsAskedPlan profile tables z p) c (subst (λ (z : Planned). IsAskedPlan profile tables x z) d are.0)
asked_at profile tables (x ∷ bounds) (y ∷ plans) are (suc k) b p e f = asked_at profile tables bounds plans are.1 k b p e f

-- as many queries as plans
pub same_count : (profile : Profile) (tables : List TableValue) (bounds : List Bound) (plans : List Planned) → AreAskedPlans profile tables bounds plans → length bounds ≡ length plans
same_count profile tables [] [] are = refl
same_count profile tables (x ∷ bounds) [] are = absurd are
same_count profile tables [] (y ∷ plans) are = absurd are
same_count profile tables (x ∷ bounds) (y ∷ plans) are = ap suc (same_count profile tables bounds plans are.1)

-- the query's tables are there, and the window has room for a number
pub known_tables : (profile : Profile) (tables : List TableValue) (b : Bound) (p : Planned) → IsAskedPlan profile tables b p → All (λ number. number < length tables) b.tables
known_tables profile tables b p asked = known (inputs_alone profile tables b) asked.asked

pub least_window : (profile : Profile) (tables : List TableValue) (b : Bound) (p : Planned) → IsAskedPlan profile tables b p → 1 ≤ profile.window
least_window profile tables b p asked = (ranged (inputs_alone profile tables b) asked.asked Window).0

module _ (plans : List Planned) (profile : Profile) (selector number : ℕ) (pipe : Installed) (p : Planned) (b : Bound) (tables : List TableValue) (texts : List (List ℕ))
    (asked : IsAskedPlan profile tables b p) (stands : IsInstalled plans profile selector number pipe) (place : slice_get plans number ≡ Some p) (checked : IsChecked p.checked)
    (texts_are : texts ≡ dictionary_of (asked_texts b tables)) (few : length texts < 2 ^ 32) where
  pub packed_plan : IsPackedPlan plans profile stands.it number p texts b tables
  packed_plan =
      let inputs = inputs_alone profile tables b in
      record {
        packed = stands.packed;
        place = place;
        checked = checked;
        tables_are = are_tables inputs asked.asked texts texts_are (omega (arith, few));
        plan = asked.plan;
        carried = few_carried inputs asked.asked;
        few = few_parts inputs asked.asked texts;
      }

  -- the selector is a word of the program, behind the first three
  pub behind_three : 3 ≤ selector
  behind_three = let s = stands.selects in let w = three_words plans profile stands.it number p texts b tables packed_plan in omega (arith, s, w)

  pub is_word : selector < pipe.program.width
  is_word =
      let s = stands.selects in
      let w = within plans profile stands.it number p texts b tables packed_plan in
      let e = ap (λ q. q.width) stands.program_is in
      omega (arith, s, w, e)

  module _ (count : ℕ) (switch : Switching) (count_is : count ≡ length (parts_of texts b tables)) (made : switch ≡ fresh pipe.program pipe.registers (Some (record { place = selector; program = number })) count) where
    over_is : switch ≡ switch_over stands.it number (length (parts_of texts b tables)) pipe.registers
    over_is = made ∙ (λ i. fresh (stands.program_is i) pipe.registers (Some (record { place = stands.selects i; program = number })) (count_is i))

    pub begins : MayBegin texts b p.kind (length (parts_of texts b tables)) switch
    begins =
        subst (λ (sw : Switching). MayBegin texts b p.kind (length (parts_of texts b tables)) sw) (sym over_is)
        (may_begin plans profile stands.it number p texts b tables packed_plan pipe.registers stands.untouched (length (parts_of texts b tables)))

    abbrev c : Config
    c = config_of texts b tables p.kind profile.window

    -- a drain stops it
    pub stops : (x : Engine) → IsRunOf (begun_over texts b tables p.kind profile.window switch) x (start c) → StopsDrained x
    stops x run =
        let inputs = inputs_alone profile tables b in
        let many : workers c ≡ length (parts_of texts b tables) = length-map (parts_of texts b tables) rows_in in
        let there = some_parts inputs asked.asked texts in
        let some : 0 < workers c = omega (arith, many, there) in
        let room : 1 ≤ c.window = (ranged inputs asked.asked Window).0 in
        record { begun = begun_over texts b tables p.kind profile.window switch; state = start c; is = run; stop = drains_after c some room (start c) (reached_ready c (start c) some room ([], refl)) }

    -- what it says
    pub says : (said : Outcome) → said ≡ said_in (begun_over texts b tables p.kind profile.window switch) (drain c (start c)) → said ≡ said_alone profile tables (plain_bound b)
    says said is =
        let judged : Result Outcome ℕ = Ok said in
        run_comes (inputs_alone profile tables b) p.kind asked.asked asked.plan texts tables judged texts_are few refl is

    module _ (x : Engine) (run : IsRunOf (begun_over texts b tables p.kind profile.window switch) x (drain c (start c))) where
      -- what it leaves
      pub leaves : (after : Installed) → after.program ≡ x.switch.program → after.registers ≡ x.switch.registers → IsInstalled plans profile selector (suc number) after
      leaves after program registers =
          let many = length (parts_of texts b tables) in
          let over : IsRunOf (begun_at stands.it number p texts b tables profile.window many pipe.registers) x (drain c (start c)) =
          subst (λ (sw : Switching). IsRunOf (begun_over texts b tables p.kind profile.window sw) x (drain c (start c))) over_is run in
          let left = leaves_cleared plans profile stands.it number p texts b tables packed_plan pipe.registers stands.untouched profile.window many x over in
          record {
            it = stands.it;
            packed = stands.packed;
            selects = stands.selects;
            program_is = program ∙ left.0;
            untouched = subst (AreClearedFrom (programs_of plans) (suc number)) (sym registers) left.1;
          }
