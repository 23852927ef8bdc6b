-- The call of `cheetah` over the generated files, whose shelf and sinks don't fail.
use Rattle.std.proofs.Common.{◌≡◌, ◌⊎◌, ◌∙◌, ap, arith, inl, inr, refl, sym, ℕ, List, [], Option, Some}
use Rattle.ch_command.specs.Call.{Call, Failed, Faults, IsResult, Promise, RanOut}
use Rattle.ch_command.specs.Command.{answered}
use Rattle.ch_command.specs.declared.Outcome.{Outcome}
use Rattle.ch_command.specs.declared.Ending.{Ending}
use Rattle.ch_generated.specs.Inputs.{command_words, files_of}
use Rattle.ch_generated.specs.declared.Request.{Request}
use Rattle.ch_generated_laws.specs.Tables.{IsInRange}
use Rattle.ch_outside.specs.FaultPlan.{Plan}
use Rattle.ch_outside.specs.Faults.{StaysReliable}
use Rattle.ch_outside.specs.MapShelf.{FilesInMemory, bytes_at}
use Rattle.ch_outside.specs.Sink.{with_more}
use Rattle.ch_outside.specs.VecSink.{BytesInMemory}
use Rattle.cheetah.specs.Complete.{IsComplete}
use Rattle.cheetah_gen.proofs.Answerable.{answerable, inner_done}
use Rattle.cheetah_gen.specs.InMemory.{untouched}
use Rattle.cheetah_gen.specs.Result.{SumsUp, inner_command, sum_of, summed_up}
use Rattle.cheetah_gen_words.specs.Files.{files_told}
use Rattle.cheetah_gen_words.specs.Summary.{summary}

pub not_failed : (faults : Faults) → faults.before ≡ 0 → faults.now ≡ faults.before → Failed faults → ⊥
not_failed faults none same (inl rose) = absurd (omega arith)
not_failed faults none same (inr end) = absurd (omega arith)

-- a call whose shelf tells the generated files, with sinks that had written nothing
pub record IsWithin (request : Request) (out err : List ℕ) (call : Call) : Type 0 where
  pub told : call.told ≡ Some (files_told request)
  pub shelf : Failed call.shelf → ⊥
  pub out_faults : Failed call.out.faults → ⊥
  pub err_faults : Failed call.err.faults → ⊥
  pub out_old : call.out.old ≡ Some []
  pub out_new : call.out.new ≡ Some out
  pub err_old : call.err.old ≡ Some []
  pub err_new : call.err.new ≡ Some err

module _ (request : Request) (range : IsInRange request) (out err : List ℕ) (call : Call) (is : IsWithin request out err call) where
  pub answered_or_not : IsComplete (command_words request.kind) call → (call.status ≡ 0) ⊎ (call.status ≡ 7)
  answered_or_not complete = complete (files_told request) is.told (answerable request range) is.shelf is.out_faults is.err_faults

  same_bytes : (old new : Option (List ℕ)) (all bytes : List ℕ) → old ≡ Some [] → new ≡ Some all → new ≡ with_more old bytes → bytes ≡ all
  same_bytes old new all bytes empty whole gains = let e : Some all ≡ Some bytes = sym whole ∙ (gains ∙ ap (λ (o : Option (List ℕ)). with_more o bytes) empty) in cc

  pub summed : Promise (inner_command request) call → call.status ≡ 0 → SumsUp request (answered (summary request.kind out err))
  summed promise ended = by ((promise.headline (files_told request) is.told).exact is.shelf is.out_faults is.err_faults)
    where
      by : IsResult (inner_command request) (files_told request) call ⊎ RanOut (inner_command request) (files_told request) call → SumsUp request (answered (summary request.kind out err))
      by (inr ran) = let seven = ran.status in absurd (omega arith)
      by (inl result) =
          let inner : Outcome = result.outcome in
          let done = inner_done request range inner result.comes in
          let text : inner.out ≡ out = same_bytes call.out.old call.out.new out inner.out is.out_old is.out_new result.out in
          let counts : inner.err ≡ err = same_bytes call.err.old call.err.new err inner.err is.err_old is.err_new result.err in
          let sum : sum_of request.kind inner ≡ answered (summary request.kind out err) =
          ap (λ (e : Ending). summed_up request.kind e inner.out inner.err) done ∙ (ap (λ (t : List ℕ). answered (summary request.kind t inner.err)) text ∙ ap (λ (t : List ℕ). answered (summary request.kind out t)) counts) in
          record { inner = inner; comes = result.comes; sum = sym sum }

-- a shelf and two sinks in memory, of which no call is to fail, before the call and after it
module _ (s0 s1 : FilesInMemory) (o0 o1 e0 e1 : BytesInMemory) (status : ℕ) where
  abbrev pub call_in_memory : Call
  call_in_memory = record {
    told = Some (bytes_at s0.files);
    shelf = record { before = s0.plan.faults; now = s1.plan.faults };
    out = record { old = Some o0.bytes; new = Some o1.bytes; faults = record { before = o0.plan.faults; now = o1.plan.faults } };
    err = record { old = Some e0.bytes; new = Some e1.bytes; faults = record { before = e0.plan.faults; now = e1.plan.faults } };
    status = status;
  }

  abbrev Stays : Plan → Plan → Type 0
  Stays before now = StaysReliable (before.fail ≡ []) (now.fail ≡ []) before.faults now.faults

  quiet : (before now : Plan) → before ≡ untouched → Stays before now → Failed (record { before = before.faults; now = now.faults }) → ⊥
  quiet before now new stays = not_failed _ (ap (λ (p : Plan). p.faults) new) (stays (ap (λ (p : Plan). p.fail) new)).1

  pub is_within : (request : Request) → s0.files ≡ files_of request → s0.plan ≡ untouched → o0 ≡ record { bytes = []; plan = untouched } → e0 ≡ record { bytes = []; plan = untouched }
      → Stays s0.plan s1.plan → Stays o0.plan o1.plan → Stays e0.plan e1.plan → IsWithin request o1.bytes e1.bytes call_in_memory
  is_within request files shelf out err s o e = record {
    told = ap (λ fs. Some (bytes_at fs)) files;
    shelf = quiet s0.plan s1.plan shelf s;
    out_faults = quiet o0.plan o1.plan (ap (λ (b : BytesInMemory). b.plan) out) o;
    err_faults = quiet e0.plan e1.plan (ap (λ (b : BytesInMemory). b.plan) err) e;
    out_old = ap (λ (b : BytesInMemory). Some b.bytes) out;
    out_new = refl;
    err_old = ap (λ (b : BytesInMemory). Some b.bytes) err;
    err_new = refl;
  }
