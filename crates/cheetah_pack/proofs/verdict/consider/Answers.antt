use Rattle.std.proofs.Common.{◌≡◌, ◌∙◌, ap, map, subst, sym}
use Rattle.std.specs.Prelude.{string_bytes}
use Rattle.ch_command.proofs.Verdicts.{judged_fits, unread_fits}
use Rattle.ch_command.specs.Call.{faults_of}
use Rattle.ch_command.specs.Verdict.{Fits}
use Rattle.cheetah_pack_meaning.proofs.Meanings.{never_misused}
use Rattle.cheetah_pack_meaning.specs.Meaning.{OfContents, command_for, files_of}
use Rattle.cheetah_pack_words.specs.Words.{wish_of}
use Rattle.cheetah_pack_words.specs.Words.Wish.{Asking}
use Rattle.cheetah_words.specs.Words.{Request, request_of}
use Rattle.cheetah_pack.proofs.verdict.consider.Goals as goal

pub returns-in-Ok-read_named-clause-fits : goal.returns-in-Ok-read_named-clause-fits
returns-in-Ok-read_named-clause-fits g c =
    let request : Request = request_of c.in-Ok.asked in
    let told = g.F.Shelf.told c.args.shelf.now in
    let shelf = faults_of g.F.Shelf.faults c.args.shelf.now c.read_named.new.shelf in
    let asked : wish_of (map string_bytes c.args.words.now) ≡ Asking request = ap (λ ws. wish_of (map string_bytes ws)) (sym c.as_slice.ensures) ∙ c.in-Ok.ensures.asks in
    let fits = judged_fits told shelf (files_of request) c.in-Ok-read_named.contents (OfContents request) c.judge.result c.in-Ok-read_named.ensures.reads (never_misused request c.in-Ok-read_named.contents) c.judge.ensures in
    subst (λ w. Fits told shelf (command_for w) c.of.result) (sym asked) (subst (λ v. Fits told shelf (command_for (Asking request)) v) (sym c.of.ensures) fits)

pub returns-clause-fits : goal.returns-clause-fits
returns-clause-fits g c =
    let request : Request = request_of c.in-Ok.asked in
    let told = g.F.Shelf.told c.args.shelf.now in
    let shelf = faults_of g.F.Shelf.faults c.args.shelf.now c.read_named.new.shelf in
    let asked : wish_of (map string_bytes c.args.words.now) ≡ Asking request = ap (λ ws. wish_of (map string_bytes ws)) (sym c.as_slice.ensures) ∙ c.in-Ok.ensures.asks in
    subst (λ w. Fits told shelf (command_for w) c.in-Err-read_named.verdict) (sym asked)
    (unread_fits told shelf (files_of request) (OfContents request) c.in-Err-read_named.verdict c.in-Err-read_named.ensures.reads)
