use Rattle.std.proofs.Common.{◌≡◌, ◌∙◌, ap, map, subst, sym}
use Rattle.std.specs.Prelude.{string_bytes}
use Rattle.ch_command.proofs.Verdicts.{judged_fits, unread_fits}
use Rattle.ch_command.specs.Call.{faults_of}
use Rattle.ch_command.specs.Verdict.{Fits}
use Rattle.cheetah_audit_meaning.proofs.Meanings.{never_misused}
use Rattle.cheetah_audit_meaning.specs.Meaning.{OfErrand, command_for}
use Rattle.cheetah_audit_words.specs.Words.{wish_in, wish_of}
use Rattle.cheetah_inputs.specs.Inputs.{names_of}
use Rattle.cheetah_words.specs.Words.{Request, request_of}
use Rattle.cheetah_audit.proofs.verdict.consider.Goals as goal
use Rattle.cheetah_audit.specs.Result.{runs}

pub returns-in-Ok-read_named-clause-fits : goal.returns-in-Ok-read_named-clause-fits
returns-in-Ok-read_named-clause-fits g c =
    let errand = c.in-Ok.errand in
    let request : Request = request_of errand.asked in
    let told = g.F.Shelf.told c.args.shelf.now in
    let shelf = faults_of g.F.Shelf.faults c.args.shelf.now c.read_named.new.shelf in
    let asked : wish_of (map string_bytes c.args.words.now) ≡ wish_in errand = ap (λ ws. wish_of (map string_bytes ws)) (sym c.as_slice.ensures) ∙ c.in-Ok.ensures.asks in
    let fits = judged_fits told shelf (names_of request) c.in-Ok-read_named.contents (OfErrand runs errand.task request) c.judge.result c.in-Ok-read_named.ensures.reads (never_misused runs request errand.task c.in-Ok-read_named.contents) c.judge.ensures in
    subst (λ w. Fits told shelf (command_for runs w) c.of.result) (sym asked) (subst (λ v. Fits told shelf (command_for runs (wish_in errand)) v) (sym c.of.ensures) fits)

pub returns-clause-fits : goal.returns-clause-fits
returns-clause-fits g c =
    let errand = c.in-Ok.errand in
    let request : Request = request_of errand.asked in
    let told = g.F.Shelf.told c.args.shelf.now in
    let shelf = faults_of g.F.Shelf.faults c.args.shelf.now c.read_named.new.shelf in
    let asked : wish_of (map string_bytes c.args.words.now) ≡ wish_in errand = ap (λ ws. wish_of (map string_bytes ws)) (sym c.as_slice.ensures) ∙ c.in-Ok.ensures.asks in
    subst (λ w. Fits told shelf (command_for runs w) c.in-Err-read_named.verdict) (sym asked)
    (unread_fits told shelf (names_of request) (OfErrand runs errand.task request) c.in-Err-read_named.verdict c.in-Err-read_named.ensures.reads)
