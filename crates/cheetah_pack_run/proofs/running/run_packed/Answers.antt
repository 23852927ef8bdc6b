use Rattle.std.proofs.Common.{◌≡◌, ◌∙◌, ◌+◌, ◌++◌, ap, refl, subst, sym, ℕ, suc, List, Some, arith, length, map, take}
use Rattle.std.specs.Prelude.{codes, flat_map}
use Rattle.std.proofs.Math.Seq.{take-length}
use Rattle.ch_bind.specs.Binding.{plain_bound}
use Rattle.ch_command.specs.declared.outcome.Ending.TheVariants.{Done}
use Rattle.ch_command.specs.declared.outcome.Outcome.{Outcome}
use Rattle.ch_pred.specs.declared.bound.Bound.{Bound}
use Rattle.cheetah_pack_meaning.specs.Meaning.{said_alone}
use Rattle.cheetah_pack_run.proofs.Joined.{added}
use Rattle.std.proofs.lemmas.Option.{slice_get-get_or}
use Rattle.ch_ir.specs.Machine.{Registers}
use Rattle.ch_pack.specs.Plans.{programs_of}
use Rattle.ch_pack_runs.proofs.Begins.{installed}
use Rattle.ch_pack_runs.specs.Cleared.{AreClearedFrom}
use Rattle.cheetah_pack_run.proofs.Runs.{asked_at, same_count}
use Rattle.cheetah_pack_run.proofs.running.run_packed.Goals as goal
use Rattle.cheetah_pack_run.specs.Running.{IsInstalled}

pub loop-number-init : goal.loop-number-init
loop-number-init c = record {
  installed = record {
    it = c.args.packed;
    packed = c.requires.packed;
    selects = refl;
    program_is = c.in_ok-pipe.ensures.program;
    untouched = subst (λ (r : Registers). AreClearedFrom (programs_of c.args.plans.now) 0 r) (sym c.in_ok-pipe.ensures.registers) (installed c.args.plans.now c.args.profile.now c.args.packed c.requires.packed);
  };
  out = c.new-out.ensures.items;
  err = c.new-err.ensures.items;
}

pub run_one-requires-clause-number : goal.run_one-requires-clause-number
run_one-requires-clause-number c = let many = same_count c.args.profile.now c.args.tables.now c.args.bounds.now c.args.plans.now c.requires.asked in omega (arith, many)

pub run_one-requires-clause-asked : goal.run_one-requires-clause-asked
run_one-requires-clause-asked c p at =
    asked_at c.args.profile.now c.args.tables.now c.args.bounds.now c.args.plans.now c.requires.asked c.loop-number.number c.index-bounds-number.result p
    (slice_get-get_or c.args.bounds.now c.loop-number.number c.index-bounds-number.result (omega arith) ∙ ap Some (sym c.index-bounds-number.is)) at

pub loop-number-preserved : goal.loop-number-preserved
loop-number-preserved c =
    let bounds : List Bound = c.args.bounds.now in
    let f = λ (b : Bound). said_alone c.args.profile.now c.args.tables.now (plain_bound b) in
    let b = c.index-bounds-number.result in
    let k = c.loop-number.number in
    let at = slice_get-get_or bounds k b (omega arith) ∙ ap Some (sym c.index-bounds-number.is) in
    let n : suc k ≡ k + 1 = omega arith in
    let g : Outcome → List ℕ = λ (said : Outcome). said.out ++ codes "\n" in
    let h : Outcome → List ℕ = λ (said : Outcome). said.err in
    let out = added g f bounds k b c.in_ok-ran.ran.said c.loop-number.out.items c.add_answer.new.out.items at c.in_ok-ran.ensures.said c.loop-number.invariant.out
    (c.in_ok-add_answer.ensures ∙ ap (λ (text : List ℕ). c.loop-number.out.items ++ (text ++ codes "\n")) c.as_slice.ensures) in
    let err = added h f bounds k b c.in_ok-ran.ran.said c.loop-number.err.items c.add_counts.new.err.items at c.in_ok-ran.ensures.said c.loop-number.invariant.err
    (c.in_ok-add_counts.ensures ∙ ap (λ (text : List ℕ). c.loop-number.err.items ++ text) c.as_slice-in-loop-number.ensures) in
    record {
      installed = subst (λ m. IsInstalled c.args.plans.now c.args.profile.now c.args.packed.selector m c.in_ok-ran.ran.pipe) n c.in_ok-ran.ensures.installed;
      out = out ∙ ap (λ m. flat_map g (map f (take m bounds))) n;
      err = err ∙ ap (λ m. flat_map h (map f (take m bounds))) n;
    }

pub returns : goal.returns
returns c =
    let bounds : List Bound = c.args.bounds.now in
    let f = λ (b : Bound). said_alone c.args.profile.now c.args.tables.now (plain_bound b) in
    let n : c.loop-number.number ≡ length bounds = omega arith in
    let whole : take c.loop-number.number bounds ≡ bounds = ap (λ k. take k bounds) n ∙ take-length bounds in
    let out = c.from_vec.ensures ∙ (c.loop-number.invariant.out ∙ ap (λ (bs : List Bound). flat_map (λ (said : Outcome). said.out ++ codes "\n") (map f bs)) whole) in
    let err = c.from_vec-2.ensures ∙ (c.loop-number.invariant.err ∙ ap (λ (bs : List Bound). flat_map (λ (said : Outcome). said.err) (map f bs)) whole) in
    λ i. record { ending = Done; out = out i; err = err i }
