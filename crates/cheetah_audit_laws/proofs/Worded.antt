-- What the words of the audit come to, by their requests.
use Rattle.std.proofs.Common.{◌≡◌, ◌∙◌, ap, sym, refl, subst, ℕ, ◌+◌, ◌≤◌, Bool, true, false, List, [], ◌∷◌, length, length-append, Option, Some, None, Result, Ok, Err, inl, inr, arith}
use Rattle.std.specs.Prelude.{nat_lt}
use Rattle.std.proofs.lemmas.Bool.Decides.{nat_tests}
use Rattle.ch_command.specs.Command.{ReadThen, refused}
use Rattle.ch_command.specs.Reading.{read_all}
use Rattle.ch_command.specs.declared.outcome.Ending.TheVariants.{Done, Input, Usage}
use Rattle.ch_command.specs.declared.outcome.Outcome.{Outcome}
use Rattle.ch_outside.specs.Shelf.{Files}
use Rattle.cheetah_audit.specs.Result.{command_of, runs}
use Rattle.cheetah_audit_meaning.specs.Meaning.{OfErrand, command_for}
use Rattle.cheetah_audit_words.specs.Words.{Wish, wish_with}
use Rattle.cheetah_audit_words.specs.Words.Wish.{Asking, Misused}
use Rattle.cheetah_audit_words.specs.declared.words.Task.{Task}
use Rattle.cheetah_audit_words.specs.declared.words.Task.TheVariants.{Check, Write}
use Rattle.cheetah_inputs.specs.Inputs.{names_of}
use Rattle.cheetah_words.specs.Tables.{Part, part_of, parts_in, tables_refusal, too_many_line}
use Rattle.cheetah_words.specs.Tables as words
use Rattle.cheetah_words.specs.Words.{Request}
use Rattle.cheetah_audit_laws.proofs.Coming.{accepted}
use Rattle.cheetah_audit_laws.proofs.Large.{checked_or_large}
use Rattle.cheetah_audit_laws.proofs.Listed.{lists}
use Rattle.cheetah_audit_laws.specs.Checked.{Accepts, Asked, IsKept, request_with, to_check, to_write}
use Rattle.cheetah_audit_laws.specs.Listed.{IsListing}

-- ---- words that are taken name at most 64 parts

one_at_most : (part : Option Part) → length (words.listed part) ≤ 1
one_at_most None = omega arith
one_at_most (Some part) = omega arith

few_named : (ws : List (List ℕ)) → length (parts_in ws) ≤ length ws
few_named [] = omega arith
few_named (w ∷ ws) =
    let here = one_at_most (part_of w) in
    let more = few_named ws in
    let all : length (parts_in (w ∷ ws)) ≡ length (words.listed (part_of w)) + length (parts_in ws) = length-append (words.listed (part_of w)) (parts_in ws) in
    omega (arith, here, more, all)

not_refused : (ws : List (List ℕ)) → tables_refusal ws ≡ None → length ws ≤ 64
not_refused ws none = by_test (nat_lt 64 (length ws)) refl
  where
    by_test : (b : Bool) → nat_lt 64 (length ws) ≡ b → length ws ≤ 64
    by_test true e = absurd (let some : tables_refusal ws ≡ Some (too_many_line (length ws)) = rw e refl in let no : Some (too_many_line (length ws)) ≡ None = sym some ∙ none in cc)
    by_test false e = grind (arith, nat_tests)

-- ---- what is done is an errand

misused_not_done : (files : Files) (outcome : Outcome) → (command_for runs Misused).comes_to files outcome → outcome.ending ≡ Done → ⊥
misused_not_done files outcome comes done = let wrong : Usage ≡ Done = sym (ap (λ (o : Outcome). o.ending) comes.2) ∙ done in cc

abbrev Comes : Wish → Files → Outcome → Type 0
Comes wish files outcome = (command_for runs wish).comes_to files outcome

-- the table words are taken
abbrev AreTaken : List (List ℕ) → Type 0
AreTaken tables = (length (parts_in tables) ≤ 64) × (tables_refusal tables ≡ None)

by_refusal : (task : Task) (refusal : Option (List ℕ)) (request : Request) (files : Files) (outcome : Outcome) → Comes (wish_with (Some task) refusal request) files outcome → outcome.ending ≡ Done
    → (refusal ≡ None) × Comes (Asking task request) files outcome
by_refusal task None request files outcome comes done = (refl, comes)
by_refusal task (Some line) request files outcome comes done = absurd (misused_not_done files outcome comes done)

taken : (tables : List (List ℕ)) → tables_refusal tables ≡ None → AreTaken tables
taken tables none = let few = few_named tables in let all = not_refused tables none in (omega (arith, few, all), none)

module _ (program query file profile : List ℕ) where
  abbrev of_tables : List (List ℕ) → Asked
  of_tables tables = record { program = program; query = query; profile = profile; tables = tables }

  writes : (tables : List (List ℕ)) (files : Files) (outcome : Outcome) → (command_of (to_write (of_tables tables) file)).comes_to files outcome → outcome.ending ≡ Done
      → AreTaken tables × Comes (Asking Write (request_with (of_tables tables) file)) files outcome
  writes [] files outcome comes done = absurd (misused_not_done files outcome comes done)
  writes (t ∷ tables) files outcome comes done =
      let b = by_refusal Write (tables_refusal (t ∷ tables)) (request_with (of_tables (t ∷ tables)) file) files outcome comes done in (taken (t ∷ tables) b.0, b.1)

  checks : (tables : List (List ℕ)) (files : Files) (outcome : Outcome) → (command_of (to_check (of_tables tables) file)).comes_to files outcome → outcome.ending ≡ Done
      → AreTaken tables × Comes (Asking Check (request_with (of_tables tables) file)) files outcome
  checks [] files outcome comes done = absurd (misused_not_done files outcome comes done)
  checks (t ∷ tables) files outcome comes done =
      let b = by_refusal Check (tables_refusal (t ∷ tables)) (request_with (of_tables (t ∷ tables)) file) files outcome comes done in (taken (t ∷ tables) b.0, b.1)

  -- words that write and are taken check too, whatever comes of it
  asks_check : (tables : List (List ℕ)) (files written_over : Files) (written outcome : Outcome) (schedule : List ℕ) → (command_of (to_write (of_tables tables) schedule)).comes_to written_over written → written.ending ≡ Done
      → AreTaken tables → (command_of (to_check (of_tables tables) file)).comes_to files outcome → Comes (Asking Check (request_with (of_tables tables) file)) files outcome
  asks_check [] files over written outcome schedule wrote done are comes = absurd (misused_not_done over written wrote done)
  asks_check (t ∷ tables) files over written outcome schedule wrote done are comes =
      subst (λ refusal. Comes (wish_with (Some Check) refusal (request_with (of_tables (t ∷ tables)) file)) files outcome) are.1 comes

-- ---- what is done has read its files

by_read : (r : Result (List (List ℕ)) (List ℕ)) (next : List (List ℕ) → Outcome → Type 0) (outcome : Outcome) → ReadThen r (refused Input) next outcome → outcome.ending ≡ Done
    → (contents : List (List ℕ)) × (r ≡ Ok contents) × next contents outcome
by_read (Ok contents) next outcome comes done = (contents, refl, comes)
by_read (Err line) next outcome comes done = let wrong : Input ≡ Done = sym (ap (λ (o : Outcome). o.ending) comes) ∙ done in absurd cc

done_read : (task : Task) (request : Request) (files : Files) (outcome : Outcome) → Comes (Asking task request) files outcome → outcome.ending ≡ Done
    → (contents : List (List ℕ)) × (read_all files (names_of request) ≡ Ok contents) × OfErrand runs task request contents outcome
done_read task request files outcome comes done = by_read (read_all files (names_of request)) (OfErrand runs task request) outcome comes done

-- ---- both laws

pub accepts : (asked : Asked) (schedule trace : List ℕ) (before after : Files) (written told : Outcome) → (command_of (to_write asked schedule)).comes_to before written → written.ending ≡ Done
    → IsKept asked trace written.out before after → (command_of (to_check asked trace)).comes_to after told → Accepts asked trace written.out after told
accepts asked schedule trace before after written told comes done kept tells =
    let w = writes asked.program asked.query schedule asked.profile asked.tables before written comes done in
    let r = done_read Write (request_with asked schedule) before written w.1 done in
    let c : Comes (Asking Check (request_with asked trace)) after told = asks_check asked.program asked.query trace asked.profile asked.tables after before written told schedule comes done w.0 tells in
    elim (checked_or_large asked schedule trace written.out before after kept r.0 r.1) [
      | inl all ↦
          let rest : OfErrand runs Check (request_with asked trace) all.0 told = subst (λ found. ReadThen found (refused Input) (OfErrand runs Check (request_with asked trace)) told) all.1 c in
          inl (accepted asked schedule trace written.out before after kept r.0 all.0 r.1 all.1 written told refl w.0.0 r.2 done rest)
      | inr large ↦ inr (large.0, large.1, subst (λ found. ReadThen found (refused Input) (OfErrand runs Check (request_with asked trace)) told) large.2 c)
    ]

pub listing : (asked : Asked) (trace : List ℕ) (files : Files) (told : Outcome) → (command_of (to_check asked trace)).comes_to files told → told.ending ≡ Done → IsListing asked trace files told.out
listing asked trace files told comes done =
    let w = checks asked.program asked.query trace asked.profile asked.tables files told comes done in
    let r = done_read Check (request_with asked trace) files told w.1 done in
    let l = lists (request_with asked trace) r.0 told w.0.0 r.2 done in
    record { contents = r.0; inputs = l.0; there = r.1; read = l.1; lists = l.2 }
