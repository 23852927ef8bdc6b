-- What a walk from the start finds, of the whole text.
use Rattle.std.proofs.Common.{◌∙◌, ap, arith, sym, ◌≡◌, subst, inl, inr, ◌⊎◌, ℕ, List, take}
use Rattle.std.specs.Prelude.{◌==◌}
use Rattle.ch_protocol.specs.Machine.{Config, start}
use Rattle.ch_schedule.specs.declared.step.Step.{Step}
use Rattle.ch_trace_lines.proofs.Splits.{split_some}
use Rattle.ch_trace_lines.specs.declared.line.Line.{Line}
use Rattle.ch_audit_laws.specs.Own.{Begins, IsOwn, IsRefusedAt, cut, steps_in}
use Rattle.ch_audit_laws.specs.Walks.{Walk, walk}
use Rattle.ch_audit_laws.specs.Walks.Walk.{Whole, Refused}
use Rattle.std.proofs.lemmas.Bool.{cases_lt}
use Rattle.ch_lists.specs.Members.{Each}
use Rattle.ch_trace_lines.proofs.Texts.{text_back, text_is}
use Rattle.ch_trace_lines.specs.Range.{IsLine}
use Rattle.ch_trace_lines.specs.Spelling.{lines_text}
use Rattle.ch_trace_lines.specs.Trace.{IsTrace, trace_lines, trace_text}
use Rattle.ch_audit_laws.proofs.Traces.{again, fair}
use Rattle.ch_audit_laws.proofs.Own.{Goes, Starts}
use Rattle.ch_audit_laws.proofs.Walks.{FailsAt, Finds, walk_finds}

pub own : (c : Config) (texts : List (List ℕ)) (lines : List Line) → Goes c (start c) texts lines → IsOwn c texts lines
own c texts lines goes = record { read = goes.read; own = goes.own }

goes : (c : Config) (texts : List (List ℕ)) (lines : List Line) → IsOwn c texts lines → Goes c (start c) texts lines
goes c texts lines is = record { read = is.read; own = is.own }

begins : (c : Config) (texts : List (List ℕ)) → Starts c (start c) texts → Begins c texts
begins c texts s = record { next = s.next; others = s.others; lines = s.lines; is = own c _ s.lines s.is }

starts : (c : Config) (texts : List (List ℕ)) → Begins c texts → Starts c (start c) texts
starts c texts b = record { next = b.next; others = b.others; lines = b.lines; is = goes c _ b.lines b.is }

pub refused : (c : Config) (texts : List (List ℕ)) (line : ℕ) → FailsAt c (start c) texts line → IsRefusedAt c texts line
refused c texts line f = record {
  within = f.within;
  before = λ count lt. begins c (take count texts) (f.before count lt);
  wrong = λ more b. f.wrong more (starts c (take line texts) b);
  none = λ lines is. f.none lines (goes c texts lines is);
}

pub finds : (c : Config) (text : List ℕ) → Finds c (start c) (cut text) (walk c (start c) (cut text))
finds c text = walk_finds c (start c) (cut text) (split_some (λ b. b == 10) text)

pub either : (c : Config) (text : List ℕ) → ((lines : List Line) × IsOwn c (cut text) lines) ⊎ ((line : ℕ) × IsRefusedAt c (cut text) line)
either c text = by (walk c (start c) (cut text)) (finds c text)
  where
    by : (w : Walk) → Finds c (start c) (cut text) w → ((lines : List Line) × IsOwn c (cut text) lines) ⊎ ((line : ℕ) × IsRefusedAt c (cut text) line)
    by (Whole steps) f = inl (f.0, own c (cut text) f.0 f.1)
    by (Refused line) f = inr (line, refused c (cut text) line f)

pub whole : (c : Config) (text : List ℕ) (steps : List Step) → walk c (start c) (cut text) ≡ Whole steps → (lines : List Line) × IsOwn c (cut text) lines × (steps_in lines ≡ steps)
whole c text steps e = let f : Finds c (start c) (cut text) (Whole steps) = subst (Finds c (start c) (cut text)) e (finds c text) in (f.0, own c (cut text) f.0 f.1, f.2)

pub fails : (c : Config) (text : List ℕ) (line : ℕ) → walk c (start c) (cut text) ≡ Refused line → IsRefusedAt c (cut text) line
fails c text line e = let f : Finds c (start c) (cut text) (Refused line) = subst (Finds c (start c) (cut text)) e (finds c text) in refused c (cut text) line f

pub one_refused : (c : Config) (texts : List (List ℕ)) (a b : ℕ) → IsRefusedAt c texts a → IsRefusedAt c texts b → a ≡ b
one_refused c texts a b p q = elim (cases_lt a b) [
  | inl below ↦ absurd (p.wrong (omega (arith, q.within)) (q.before a below))
  | inr not_below ↦ elim (cases_lt b a) [ inl above ↦ absurd (q.wrong (omega (arith, p.within)) (p.before b above)) | inr not_above ↦ omega (arith, not_below, not_above) ]
]

pub own_is_trace : (c : Config) (text : List ℕ) (lines : List Line) → IsOwn c (cut text) lines → IsTrace c text
own_is_trace c text lines is =
    let said = text_is text lines is.read in
    record { steps = steps_in lines; fair = fair lines said.1; is = said.0 ∙ ap lines_text is.own }

pub own_of_trace : (c : Config) (steps : List Step) → Each IsLine (trace_lines c steps) → IsOwn c (cut (trace_text c steps)) (trace_lines c steps)
own_of_trace c steps lines = record { read = text_back (trace_lines c steps) lines; own = sym (again c (start c) steps) }
