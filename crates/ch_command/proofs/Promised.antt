-- A verdict that fits, and that is said as it must be, keeps the promise of a call.
use Rattle.std.proofs.Common.{◌≡◌, ◌⊎◌, ap, inl, inr, ℕ, false, List, [], Option, Some, sym, arith}
use Rattle.ch_outside.specs.Shelf.{Files}
use Rattle.ch_command.specs.Call.{Call, Causes, Change, Failed, Faults, Gains, GainsWhole, Headline, IsResult, Promise, RanOut, ReadFailed, WriteFailed}
use Rattle.ch_command.specs.Command.{Command}
use Rattle.ch_command.specs.Status.{code_of, exit_code, is_usage}
use Rattle.ch_command.specs.Verdict.{Ends, Fits, GivesUp, Says}
use Rattle.ch_command.specs.declared.outcome.Ending.{Ending}
use Rattle.ch_command.specs.declared.outcome.Ending.TheVariants.{Done, Usage, Input, Rejected, Open}
use Rattle.ch_command.specs.declared.outcome.Outcome.{Outcome}
use Rattle.ch_command.specs.declared.status.Status.{Status}
use Rattle.ch_command.specs.declared.status.Status.TheVariants as status
use Rattle.ch_command.specs.declared.verdict.Verdict.{Verdict}
use Rattle.ch_command.specs.declared.verdict.Verdict.TheVariants.{Said, ReadFault, Memory}

-- The four ways in which a call may end.

by_result : (command : Command) (call : Call) (files : Files) → IsResult command files call → Headline command call files
by_result command call files is = record { exact = λ shelf out err. inl is; faulty = inl is }

by_memory : (command : Command) (call : Call) (files : Files) → RanOut command files call → Headline command call files
by_memory command call files is = record { exact = λ shelf out err. inr is; faulty = inr (inl is) }

by_read : (command : Command) (call : Call) (files : Files) → ReadFailed command call → Headline command call files
by_read command call files is = record { exact = λ shelf out err. absurd (shelf is.at.failed); faulty = inr (inr (inl is)) }

by_write : (command : Command) (call : Call) (files : Files) → Failed call.out.faults ⊎ Failed call.err.faults → WriteFailed command files call → Headline command call files
by_write command call files (inl failed) is = record { exact = λ shelf out err. absurd (out failed); faulty = inr (inr (inr is)) }
by_write command call files (inr failed) is = record { exact = λ shelf out err. absurd (err failed); faulty = inr (inr (inr is)) }

-- Their causes.

plain_causes : (command : Command) (call : Call) → command.is_misuse ≡ false → (call.status ≡ 1 → ⊥) → (call.status ≡ 5 → ⊥) → (call.status ≡ 6 → ⊥) → Causes command call
plain_causes command call fine one five six = record {
  misuse = λ q. absurd (one q);
  misused = λ q. cc;
  read_fault = λ q. absurd (five q);
  write_fault = λ q. absurd (six q);
}

said_causes : (command : Command) (call : Call) (e : Ending) → is_usage e ≡ command.is_misuse → call.status ≡ code_of e → Causes command call
said_causes command call Done m s = plain_causes command call (sym m) (λ q. omega (arith, s, q)) (λ q. omega (arith, s, q)) (λ q. omega (arith, s, q))
said_causes command call Usage m s = record { misuse = λ q. sym m; misused = λ q. inl s; read_fault = λ q. absurd (omega (arith, s, q)); write_fault = λ q. absurd (omega (arith, s, q)) }
said_causes command call Input m s = plain_causes command call (sym m) (λ q. omega (arith, s, q)) (λ q. omega (arith, s, q)) (λ q. omega (arith, s, q))
said_causes command call Rejected m s = plain_causes command call (sym m) (λ q. omega (arith, s, q)) (λ q. omega (arith, s, q)) (λ q. omega (arith, s, q))
said_causes command call Open m s = plain_causes command call (sym m) (λ q. omega (arith, s, q)) (λ q. omega (arith, s, q)) (λ q. omega (arith, s, q))

memory_causes : (command : Command) (call : Call) → call.status ≡ 7 → Causes command call
memory_causes command call seven = record {
  misuse = λ q. absurd (omega (arith, seven, q));
  misused = λ q. inr (inr seven);
  read_fault = λ q. absurd (omega (arith, seven, q));
  write_fault = λ q. absurd (omega (arith, seven, q));
}

write_causes : (command : Command) (call : Call) → call.status ≡ 6 → Failed call.out.faults ⊎ Failed call.err.faults → Causes command call
write_causes command call six failed = record {
  misuse = λ q. absurd (omega (arith, six, q));
  misused = λ q. inr (inl six);
  read_fault = λ q. absurd (omega (arith, six, q));
  write_fault = λ q. failed;
}

abbrev call_of : Option Files → Faults → Change → Change → Status → Call
call_of told shelf out err s = record { told = told; shelf = shelf; out = out; err = err; status = exit_code s }

abbrev Keeps : Command → Option Files → Faults → Change → Change → Status → Type 0
Keeps command told shelf out err s = Promise command (call_of told shelf out err s)

-- Memory ran out, and out gained nothing or the whole.
by_giving_up : (command : Command) (told : Option Files) (shelf : Faults) (out err : Change) (s : Status) → ((files : Files) → told ≡ Some files → Gains out [] ⊎ ((outcome : Outcome) × command.comes_to files outcome × Gains out outcome.out)) → GivesUp err s → Keeps command told shelf out err s
by_giving_up command told shelf out err s left (inl up) = record {
  headline = λ files e. by_memory _ _ _ (record { status = ap exit_code up.0; out = whole files (left files e); err = up.1 });
  causes = memory_causes _ _ (ap exit_code up.0);
}
  where
    whole : (files : Files) → Gains out [] ⊎ ((outcome : Outcome) × command.comes_to files outcome × Gains out outcome.out) → Gains out [] ⊎ GainsWhole command files (call_of told shelf out err s)
    whole files (inl none) = inl none
    whole files (inr all) = inr (record { outcome = all.0; comes = all.1; out = all.2 })
by_giving_up command told shelf out err s left (inr up) = record {
  headline = λ files e. by_write _ _ _ (inr up.1) (record { status = ap exit_code up.0; at = inr (inr (inl (record { failed = up.1; out = whole files (left files e); err = up.2 }))) });
  causes = write_causes _ _ (ap exit_code up.0) (inr up.1);
}
  where
    whole : (files : Files) → Gains out [] ⊎ ((outcome : Outcome) × command.comes_to files outcome × Gains out outcome.out) → Gains out [] ⊎ GainsWhole command files (call_of told shelf out err s)
    whole files (inl none) = inl none
    whole files (inr all) = inr (record { outcome = all.0; comes = all.1; out = all.2 })

-- An outcome, whose text out took.
by_saying : (command : Command) (told : Option Files) (shelf : Faults) (out err : Change) (o : Outcome) (s : Status) → Fits told shelf command (Said o) → Gains out o.out → Says o.err (status.Ended o.ending) err s → Keeps command told shelf out err s
by_saying command told shelf out err o s fits all (inl said) = record {
  headline = λ files e. by_result _ _ _ (record { outcome = o; comes = fits.1 files e; status = ap exit_code said.0; out = all; err = said.1 });
  causes = said_causes _ _ o.ending fits.0 (ap exit_code said.0);
}
by_saying command told shelf out err o s fits all (inr (inl up)) = by_giving_up command told shelf out err s (λ files e. inr (o, fits.1 files e, all)) up
by_saying command told shelf out err o s fits all (inr (inr broke)) = record {
  headline = λ files e. by_write _ _ _ (inr broke.1) (record { status = ap exit_code broke.0; at = inr (inl (record { failed = broke.1; outcome = o; comes = fits.1 files e; out = all; err = broke.2 })) });
  causes = write_causes _ _ (ap exit_code broke.0) (inr broke.1);
}

by_outcome : (command : Command) (told : Option Files) (shelf : Faults) (out err : Change) (o : Outcome) (s : Status) → Fits told shelf command (Said o) → Ends (Said o) out err s → Keeps command told shelf out err s
by_outcome command told shelf out err o s fits (inl ends) = by_saying command told shelf out err o s fits ends.0 ends.1
by_outcome command told shelf out err o s fits (inr (inl broke)) = record {
  headline = λ files e. by_write _ _ _ (inl broke.1) (record { status = ap exit_code broke.0; at = inl (record { failed = broke.1; outcome = o; comes = fits.1 files e; out = broke.2; err = broke.3 }) });
  causes = write_causes _ _ (ap exit_code broke.0) (inl broke.1);
}
by_outcome command told shelf out err o s fits (inr (inr up)) = by_giving_up command told shelf out err s (λ files e. inl up.0) up.1

-- The line of a file that wasn't read.
by_fault : (command : Command) (told : Option Files) (shelf : Faults) (out err : Change) (line : List ℕ) (s : Status) → Fits told shelf command (ReadFault line) → Gains out [] → Says line status.ReadFault err s → Keeps command told shelf out err s
by_fault command told shelf out err line s fits none (inl said) = record {
  headline = λ files e. by_read _ _ _ (record { status = ap exit_code said.0; file = fits.1.file; at = record { named = fits.1.named; failed = fits.0; out = none }; err = rw (← fits.1.said) said.1 });
  causes = record {
    misuse = λ q. absurd (omega (arith, ap exit_code said.0, q));
    misused = λ q. cc;
    read_fault = λ q. (fits.0, none);
    write_fault = λ q. absurd (omega (arith, ap exit_code said.0, q));
  };
}
by_fault command told shelf out err line s fits none (inr (inl up)) = by_giving_up command told shelf out err s (λ files e. inl none) up
by_fault command told shelf out err line s fits none (inr (inr broke)) = record {
  headline = λ files e. by_write _ _ _ (inr broke.1) (record { status = ap exit_code broke.0; at = inr (inr (inr (record { failed = broke.1; file = fits.1.file; at = record { named = fits.1.named; failed = fits.0; out = none }; err = rw (← fits.1.said) broke.2 }))) });
  causes = write_causes _ _ (ap exit_code broke.0) (inr broke.1);
}

pub promised : (command : Command) (told : Option Files) (shelf : Faults) (out err : Change) (verdict : Verdict) (s : Status) →
    Fits told shelf command verdict → Ends verdict out err s → Promise command (record { told = told; shelf = shelf; out = out; err = err; status = exit_code s })
promised command told shelf out err (Said o) s fits ends = by_outcome command told shelf out err o s fits ends
promised command told shelf out err (ReadFault line) s fits ends = by_fault command told shelf out err line s fits ends.0 ends.1
promised command told shelf out err Memory s fits ends = by_giving_up command told shelf out err s (λ files e. inl ends.0) ends.1
