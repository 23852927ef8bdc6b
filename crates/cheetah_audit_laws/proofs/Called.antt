-- Calls that write and check.
use Rattle.std.proofs.Common.{◌≡◌, ◌∙◌, ◌⊎◌, ap, sym, refl, subst, ℕ, List, [], Option, Some, inl, inr, arith}
use Rattle.ch_command.specs.Call.{Call, Gains, IsResult, Promise, RanOut, ReadFailed, WriteFailed}
use Rattle.ch_command.specs.Command.{Command}
use Rattle.ch_command.specs.Status.{code_of}
use Rattle.ch_command.specs.declared.outcome.Ending.{Ending}
use Rattle.ch_command.specs.declared.outcome.Ending.TheVariants as ending
use Rattle.ch_command.specs.declared.outcome.Outcome.{Outcome}
use Rattle.ch_outside.specs.Shelf.{Files}
use Rattle.ch_outside.specs.Sink.{with_more}
use Rattle.cheetah_audit.specs.Result.{command_of}
use Rattle.cheetah_audit_laws.proofs.Worded.{accepts, listing}
use Rattle.cheetah_audit_laws.specs.Checked.{Accepts, Asked, CallAccepts, IsKept, to_check, to_write}
use Rattle.cheetah_audit_laws.specs.Listed.{CallLists}

code_zero : (e : Ending) → code_of e ≡ 0 → e ≡ ending.Done
code_zero ending.Done h = refl
code_zero ending.Usage h = absurd (omega (arith, h))
code_zero ending.Input h = absurd (omega (arith, h))
code_zero ending.Rejected h = absurd (omega (arith, h))
code_zero ending.Open h = absurd (omega (arith, h))

-- a call with status 0 has an outcome that is done
done_of : (command : Command) (call : Call) (files : Files) → Promise command call → call.told ≡ Some files → call.status ≡ 0
    → (outcome : Outcome) × command.comes_to files outcome × (outcome.ending ≡ ending.Done) × Gains call.out outcome.out
done_of command call files promise told zero = by ((promise.headline files told).faulty)
  where
    by : IsResult command files call ⊎ (RanOut command files call ⊎ (ReadFailed command call ⊎ WriteFailed command files call))
        → (outcome : Outcome) × command.comes_to files outcome × (outcome.ending ≡ ending.Done) × Gains call.out outcome.out
    by (inl result) = (result.outcome, result.comes, code_zero result.outcome.ending (sym result.status ∙ zero), result.out)
    by (inr (inl ran)) = let seven = ran.status in absurd (omega (arith, seven, zero))
    by (inr (inr (inl read))) = let five = read.status in absurd (omega (arith, five, zero))
    by (inr (inr (inr write))) = let six = write.status in absurd (omega (arith, six, zero))

gained : (old new : Option (List ℕ)) (text out : List ℕ) → old ≡ Some [] → new ≡ Some text → new ≡ with_more old out → out ≡ text
gained old new text out none some gains =
    let all : with_more old out ≡ Some out = ap (λ o. with_more o out) none in let same : Some out ≡ Some text = sym all ∙ (sym gains ∙ some) in cc

pub call_accepts : (asked : Asked) (schedule trace text : List ℕ) (before after : Files) (wrote checked : Call) → Promise (command_of (to_write asked schedule)) wrote → wrote.told ≡ Some before
    → wrote.out.old ≡ Some [] → wrote.out.new ≡ Some text → wrote.status ≡ 0
    → IsKept asked trace text before after → Promise (command_of (to_check asked trace)) checked → checked.told ≡ Some after → CallAccepts asked trace text after checked
call_accepts asked schedule trace text before after wrote checked promise told none some zero kept check_promise check_told =
    let w = done_of (command_of (to_write asked schedule)) wrote before promise told zero in
    let text_is : w.0.out ≡ text = gained wrote.out.old wrote.out.new text w.0.out none some w.3 in
    let tells = λ (o : Outcome) (comes : (command_of (to_check asked trace)).comes_to after o).
    subst (λ t. Accepts asked trace t after o) text_is (accepts asked schedule trace before after w.0 o w.1 w.2 (subst (λ t. IsKept asked trace t before after) (sym text_is) kept) comes) in
    by tells ((check_promise.headline after check_told).faulty)
  where
    result_is : (r : IsResult (command_of (to_check asked trace)) after checked) → Accepts asked trace text after r.outcome → CallAccepts asked trace text after checked
    result_is r (inl done) = inl (r.status ∙ ap code_of done)
    result_is r (inr large) = inr (inl (record {
      status = r.status ∙ ap (λ (o : Outcome). code_of o.ending) large.2;
      file = large.0;
      is = large.1;
      out = r.out ∙ ap (λ (o : Outcome). with_more checked.out.old o.out) large.2;
      err = r.err ∙ ap (λ (o : Outcome). with_more checked.err.old o.err) large.2;
    }))

    by : ((o : Outcome) → (command_of (to_check asked trace)).comes_to after o → Accepts asked trace text after o)
        → IsResult (command_of (to_check asked trace)) after checked ⊎ (RanOut (command_of (to_check asked trace)) after checked ⊎ (ReadFailed (command_of (to_check asked trace)) checked ⊎ WriteFailed (command_of (to_check asked trace)) after checked)) → CallAccepts asked trace text after checked
    by tells (inl r) = result_is r (tells r.outcome r.comes)
    by tells (inr (inl ran)) = inr (inr (inl ran.status))
    by tells (inr (inr (inl read))) = inr (inr (inr (inl (read.status, (check_promise.causes.read_fault read.status).0))))
    by tells (inr (inr (inr write))) = inr (inr (inr (inr (write.status, check_promise.causes.write_fault write.status))))

pub call_lists : (asked : Asked) (trace : List ℕ) (files : Files) (checked : Call) → Promise (command_of (to_check asked trace)) checked → checked.told ≡ Some files → checked.status ≡ 0
    → CallLists asked trace files checked
call_lists asked trace files checked promise told zero =
    let d = done_of (command_of (to_check asked trace)) checked files promise told zero in
    record { text = d.0.out; out = d.3; lists = listing asked trace files d.0 d.1 d.2 }
