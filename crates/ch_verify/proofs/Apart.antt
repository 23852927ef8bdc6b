-- A checked program runs, and its accesses are apart.
use Rattle.std.proofs.Common.{◌≡◌, ◌≤◌, ℕ, ◌+◌, Bool, true, false, List, [], ◌∷◌, ◌++◌, Some, None, length, map, arith, refl}
use Rattle.std.specs.Prelude.{if◌then◌else◌}
use Rattle.ch_ir.specs.declared.program.Program.{Program}
use Rattle.ch_ir.specs.Rules.{inputs, none_used}
use Rattle.ch_ir.specs.declared.program.Access.{Access}
use Rattle.ch_ir.specs.declared.program.Array.{Array}
use Rattle.ch_ir.specs.declared.program.Stage.{Stage}
use Rattle.ch_ir.specs.declared.rules.Refused.{Refused}
use Rattle.ch_ir.specs.declared.rules.Refused.TheVariants as refused
use Rattle.ch_ir.specs.Rules.{Known, Used, with_arrays, accesses_refusal, after_ops, after_stage, ops_refusal, reach_refusal, rule_refusal, stage_refusal, stages_refusal}
use Rattle.ch_verify.specs.Checked.{IsChecked, AlwaysRuns, OneAccessEach, arrays_accessed, AllNew, AccessesApart}
use Rattle.ch_verify.proofs.Sound.{none_else}
use Rattle.ch_verify.proofs.SoundAccess.{has_value}

pub always_runs : (p : Program) → IsChecked p → AlwaysRuns p
always_runs p c registers r row f = has_value p c.fits c.unbroken registers r row f

unused : (b : Bool) (f : Refused) → (if b then Some f else None) ≡ None → b ≡ false
unused true f h = cc
unused false f h = refl

new_first : (arrays : List Array) (stage : ℕ) (used : Used) (ks : Known) (xs : List Access) (rest : List ℕ) → accesses_refusal arrays stage used ks xs ≡ None
    → AllNew (with_arrays used xs) rest → (length xs ≤ 1) × AllNew used (map (λ (x : Access). x.array) xs ++ rest)
new_first arrays stage used ks [] rest h new = (omega arith, new)
new_first arrays stage used ks (x ∷ y ∷ zs) rest h new = cc
new_first arrays stage used ks (x ∷ []) rest h new =
    let reach = none_else (reach_refusal arrays stage used ks x) _ h in
    let first = none_else (if used x.array then Some (refused.TwoAccesses stage) else None) _ reach.0 in
    (omega arith, (unused (used x.array) (refused.TwoAccesses stage) first.0, new))

apart : (arrays : List Array) (stage : ℕ) (used : Used) (ks : Known) (ts : List Stage) → stages_refusal arrays stage used ks ts ≡ None → OneAccessEach ts × AllNew used (arrays_accessed ts)
apart arrays stage used ks [] h = (tt, tt)
apart arrays stage used ks (t ∷ ts) h =
    let parts = none_else (stage_refusal arrays stage used ks t) _ h in
    let inner = none_else (ops_refusal stage ks t.ops) _ parts.0 in
    let more = apart arrays (stage + 1) (with_arrays used t.accesses) (after_stage arrays t ks) ts parts.1 in
    let both = new_first arrays stage used (after_ops t.ops ks) t.accesses (arrays_accessed ts) inner.1 more.1 in
    ((both.0, more.0), both.1)

pub accesses_apart : (p : Program) → IsChecked p → AccessesApart p
unfolding rule_refusal
accesses_apart p c =
    let parts = none_else (stages_refusal p.arrays 0 none_used (inputs p.width) p.stages) _ c.unbroken in
    apart p.arrays 0 none_used (inputs p.width) p.stages parts.0
