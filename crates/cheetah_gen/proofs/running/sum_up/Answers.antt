use Rattle.std.proofs.Common.{◌≡◌, ◌⊎◌, ◌∙◌, ap, arith, inl, inr, map, subst, sym}
use Rattle.std.specs.Prelude.{string_bytes}
use Rattle.ch_command.specs.Call.{Call, Promise}
use Rattle.ch_command.specs.Command.{answered}
use Rattle.ch_command.specs.declared.Outcome.{Outcome}
use Rattle.ch_generated.specs.Inputs.{command_words}
use Rattle.ch_generated.specs.declared.Request.{Request}
use Rattle.ch_outside.specs.MapShelf.{FilesInMemory}
use Rattle.cheetah.specs.Complete.{IsComplete}
use Rattle.cheetah.specs.Result as cheetah
use Rattle.cheetah_gen.proofs.Inner.{answered_or_not, call_in_memory, is_within, summed}
use Rattle.cheetah_gen.proofs.running.sum_up.Goals as goal
use Rattle.cheetah_gen.specs.Result.{SumsUp}
use Rattle.cheetah_gen_words.specs.Summary.{summary}

pub unreachable-requires : goal.unreachable-requires
unreachable-requires c =
    let request : Request = c.args.request.now in
    let words : map string_bytes c.from_vec-words.result ≡ command_words request.kind = ap (map string_bytes) c.from_vec-words.ensures ∙ c.in_ok-asked.ensures in
    let shelf : FilesInMemory = c.shelf_of-shelf.result in
    let called = c.cheetah-status in
    let call : Call = call_in_memory shelf called.new.shelf c.empty_sink-out.result called.new.out c.empty_sink-err.result called.new.err called.result in
    let within = is_within shelf called.new.shelf c.empty_sink-out.result called.new.out c.empty_sink-err.result called.new.err called.result request
    (ap (λ (s : FilesInMemory). s.files) c.shelf_of-shelf.ensures ∙ c.in_ok-files.ensures) (ap (λ (s : FilesInMemory). s.plan) c.shelf_of-shelf.ensures) c.empty_sink-out.ensures c.empty_sink-err.ensures
    called.ensures.shelf_steady called.ensures.out_steady called.ensures.err_steady in
    let either : (called.result ≡ 0) ⊎ (called.result ≡ 7) = answered_or_not request c.requires called.new.out.bytes called.new.err.bytes call within (subst (λ ws. IsComplete ws call) words called.ensures.complete) in
    elim either [ inl zero ↦ absurd (omega arith) | inr seven ↦ absurd (omega arith) ]

pub returns-in-0 : goal.returns-in-0
returns-in-0 c =
    let request : Request = c.args.request.now in
    let words : map string_bytes c.from_vec-words.result ≡ command_words request.kind = ap (map string_bytes) c.from_vec-words.ensures ∙ c.in_ok-asked.ensures in
    let shelf : FilesInMemory = c.shelf_of-shelf.result in
    let called = c.cheetah-status in
    let call : Call = call_in_memory shelf called.new.shelf c.empty_sink-out.result called.new.out c.empty_sink-err.result called.new.err called.result in
    let within = is_within shelf called.new.shelf c.empty_sink-out.result called.new.out c.empty_sink-err.result called.new.err called.result request
    (ap (λ (s : FilesInMemory). s.files) c.shelf_of-shelf.ensures ∙ c.in_ok-files.ensures) (ap (λ (s : FilesInMemory). s.plan) c.shelf_of-shelf.ensures) c.empty_sink-out.ensures c.empty_sink-err.ensures
    called.ensures.shelf_steady called.ensures.out_steady called.ensures.err_steady in
    let done : called.result ≡ 0 = omega arith in
    let sums = summed request c.requires called.new.out.bytes called.new.err.bytes call within (subst (λ ws. Promise (cheetah.command_of ws) call) words called.ensures.promise) done in
    let line : c.in_ok-line-in-0.line ≡ summary request.kind called.new.out.bytes called.new.err.bytes =
    c.in_ok-line-in-0.ensures ∙ (ap (λ t. summary request.kind t c.bytes-counts.result.now) c.bytes-text.ensures ∙ ap (λ t. summary request.kind called.new.out.bytes t) c.bytes-counts.ensures) in
    subst (λ (o : Outcome). SumsUp request o) (sym (c.answered.ensures ∙ ap answered line)) sums
