-- A command that must be answered is.
use Rattle.std.proofs.Common.{◌≡◌, ◌⊎◌, ◌∙◌, ◌≤◌, ◌+◌, ap, arith, refl, subst, sym, inl, inr, ℕ, Bool, true, false, List, [], ◌∷◌, length, Option, Some, None}
use Rattle.std.specs.Prelude.{if◌then◌else◌, nat_lt}
use Rattle.std.proofs.lemmas.Bool.Decides.{nat_tests}
use Rattle.std.proofs.lemmas.List.{length-append}
use Rattle.ch_command.specs.Call.{Call, IsResult, Promise, RanOut}
use Rattle.ch_command.specs.Command.{ReadThen, refused}
use Rattle.ch_command.specs.Status.{code_of}
use Rattle.ch_command.specs.declared.outcome.Ending.TheVariants.{Done, Input}
use Rattle.ch_command.specs.declared.outcome.Outcome.{Outcome}
use Rattle.ch_outside.specs.Shelf.{Files}
use Rattle.ch_plan.specs.declared.error.PlanError.{PlanError}
use Rattle.ch_protocol.specs.Outcome as run
use Rattle.cheetah_inputs.proofs.Meanings.{contents_one, contents_read}
use Rattle.cheetah_inputs.specs.Inputs.{Given, OfContents, given_of}
use Rattle.cheetah_run.proofs.Ends.{drained_is_done}
use Rattle.cheetah_run.specs.Asking.{AreAsked}
use Rattle.cheetah_run.specs.Running.{config_of, last_state}
use Rattle.cheetah_run.specs.Saying.{said_by_run, said_of}
use Rattle.cheetah_words.specs.Tables.{Part, part_of, parts_in, tables_refusal, too_many_line}
use Rattle.cheetah_words.specs.Tables as words
use Rattle.cheetah_words.specs.Words.{Asking, Request, Wish, request_by, table_words, wish_by, wish_of, wish_with}
use Rattle.cheetah_words.specs.Parsed.{given_by, kinds_of}
use Rattle.clap.specs.Words.{Kinds, Row}
use Rattle.cheetah.specs.Answering.{Answers, outcome_of, outcome_planned, within_limits}
use Rattle.cheetah.specs.Complete.{IsAnswerable, IsBroughtHome, IsComplete, IsConfirmed}
use Rattle.cheetah.specs.Result.{command_for, command_of}

-- Words that are taken name at most 64 parts.

one_at_most : (part : Option Part) → length (words.listed part) ≤ 1
one_at_most None = omega arith
one_at_most (Some part) = omega arith

few_named : (ws : List (List ℕ)) → length (parts_in ws) ≤ length ws
few_named [] = omega arith
few_named (w ∷ ws) =
    let here = one_at_most (part_of w) in
    let more = few_named ws in
    let all : length (parts_in (w ∷ ws)) ≡ length (words.listed (part_of w)) + length (parts_in ws) = length-append (words.listed (part_of w)) (parts_in ws) in
    omega (arith, here, more, all)

not_refused : (ws : List (List ℕ)) → tables_refusal ws ≡ None → length ws ≤ 64
not_refused ws none = by_test (nat_lt 64 (length ws)) refl
  where
    by_test : (b : Bool) → nat_lt 64 (length ws) ≡ b → length ws ≤ 64
    by_test true e = absurd (let some : tables_refusal ws ≡ Some (too_many_line (length ws)) = rw e refl in let no : Some (too_many_line (length ws)) ≡ None = sym some ∙ none in cc)
    by_test false e = grind (arith, nat_tests)

few_by : (refusal : Option (List ℕ)) (rows : List Row) (request : Request) → tables_refusal (table_words rows) ≡ refusal → wish_with refusal (request_by rows) ≡ Asking request → length request.tables ≤ 64
few_by (Some line) rows request e is = absurd cc
few_by None rows request e is =
    let same : request_by rows ≡ request = cc in
    let few = few_named (table_words rows) in
    let all = not_refused (table_words rows) e in
    let tables : length request.tables ≡ length (parts_in (table_words rows)) = ap (λ (r : Request). length r.tables) (sym same) in
    omega (arith, few, all, tables)

few_of : (kinds : Kinds) (rows : List Row) (request : Request) → wish_by kinds rows ≡ Asking request → length request.tables ≤ 64
few_of (kind ∷ kinds) rows request is = absurd cc
few_of [] rows request is = few_by (tables_refusal (table_words rows)) rows request refl is

pub few_tables : (ws : List (List ℕ)) (request : Request) → wish_of ws ≡ Asking request → length request.tables ≤ 64
few_tables [] request is = absurd cc
few_tables (program ∷ ws) request is = few_of (kinds_of (program ∷ ws)) (given_by (program ∷ ws)) request is

-- What is brought home is answered.

confirmed_is_done : (given : Given) → IsConfirmed given → (said_by_run given).ending ≡ Done
confirmed_is_done given stop =
    let s = last_state given in
    ap (λ (b : Bool). (said_of given (if b then run.Outcome.Done s.counts else run.Outcome.Open (run.report (config_of given) s))).ending) stop

by_plan : (plan : Bool) (given : Given) → (plan ≡ true) ⊎ ((said_by_run given).ending ≡ Done) → (outcome_planned plan given).ending ≡ Done
by_plan true given is = refl
by_plan false given (inl plan) = absurd cc
by_plan false given (inr done) = done

home_done : (request : Request) (given : Given) → (given.schedule.drain ≡ true → (said_by_run given).ending ≡ Done) → IsBroughtHome request given → (request.plan ≡ true) ⊎ ((said_by_run given).ending ≡ Done)
home_done request given drained (inl plan) = inl plan
home_done request given drained (inr (inl drain)) = inr (drained drain)
home_done request given drained (inr (inr stop)) = inr (confirmed_is_done given stop)

pub answered_of : (ws : List (List ℕ)) (files : Files) (is : IsAnswerable ws files) → (outcome_of is.request.plan (given_of is.inputs)).ending ≡ Done
answered_of ws files is =
    let given : Given = given_of is.inputs in
    let asked : AreAsked is.inputs = record { request = is.request; contents = is.contents; few = few_tables ws is.request is.taken; read = is.accepted } in
    ap (λ (o : Option PlanError). (within_limits o (outcome_planned is.request.plan given)).ending) is.within
    ∙ by_plan is.request.plan given (home_done is.request given (drained_is_done is.inputs asked) is.home)

-- they come to this alone
pub come_to_answer : (ws : List (List ℕ)) (files : Files) (is : IsAnswerable ws files) (outcome : Outcome) → (command_of ws).comes_to files outcome → outcome ≡ outcome_of is.request.plan (given_of is.inputs)
come_to_answer ws files is outcome comes =
    let next = OfContents is.request (Answers is.request.plan) in
    let asked : (command_for (Asking is.request)).comes_to files outcome = subst (λ (w : Wish). (command_for w).comes_to files outcome) is.taken comes in
    let rest : next is.contents outcome = subst (λ read. ReadThen read (refused Input) next outcome) is.there asked in
    contents_one is.request is.contents (Answers is.request.plan) (λ given a b p q. p ∙ sym q) outcome (outcome_of is.request.plan (given_of is.inputs)) rest
    (contents_read is.request is.contents (Answers is.request.plan) is.inputs (outcome_of is.request.plan (given_of is.inputs)) is.accepted refl)

pub answerable_is_done : (ws : List (List ℕ)) (files : Files) (outcome : Outcome) → IsAnswerable ws files → (command_of ws).comes_to files outcome → outcome.ending ≡ Done
answerable_is_done ws files outcome is comes = ap (λ (o : Outcome). o.ending) (come_to_answer ws files is outcome comes) ∙ answered_of ws files is

-- so a call that keeps its promise is complete
pub completed : (ws : List (List ℕ)) (call : Call) → Promise (command_of ws) call → IsComplete ws call
completed ws call promise files told is shelf out err =
    by ((promise.headline files told).exact shelf out err)
  where
    by : IsResult (command_of ws) files call ⊎ RanOut (command_of ws) files call → (call.status ≡ 0) ⊎ (call.status ≡ 7)
    by (inl result) = inl (result.status ∙ ap code_of (answerable_is_done ws files result.outcome is result.comes))
    by (inr ran) = inr ran.status
