use Rattle.std.proofs.Common.{◌∙◌, ap, sym, List, ℕ, Some, None, ◌∷◌, [], ◌++◌}
use Rattle.std.specs.Prelude.{◌==◌}
use Rattle.std.specs.List.{slice_split}
use Rattle.std.proofs.lemmas.List.{append-nil}
use Rattle.ch_asm_lines.specs.Reading.{each_of}
use Rattle.ch_asm_lines.proofs.Lists.{split_cut, split_whole, items_next, items_bad, list_is, with_items}
use Rattle.ch_asm_lines.proofs.list.read_list.Goals as goal

pub returns-in_default-read : goal.returns-in_default-read
returns-in_default-read g c =
    let item = g.T.Item.read_of in
    let first : List ℕ = c.in-Some.first.now in
    let more : List ℕ = c.in-Some.more.now in
    list_is item c.args.text.now None (cc)
    (c.loop-first.invariant
    ∙ ap (λ texts. with_items c.loop-first.items (each_of item texts)) (split_cut 44 c.loop-first.rest.now (first, more) c.in-Some.ensures.parts)
    ∙ items_bad item c.loop-first.items first (slice_split (λ b. b == 44) more) (sym c.read.ensures ∙ c.in_default-read.is))

pub loop-first-preserved : goal.loop-first-preserved
loop-first-preserved g c =
    let item = g.T.Item.read_of in
    let first : List ℕ = c.in-Some.first.now in
    let more : List ℕ = c.in-Some.more.now in
    c.loop-first.invariant
    ∙ ap (λ texts. with_items c.loop-first.items (each_of item texts)) (split_cut 44 c.loop-first.rest.now (first, more) c.in-Some.ensures.parts)
    ∙ items_next item c.loop-first.items first (slice_split (λ b. b == 44) more) c.in-Some-read.item (sym c.read.ensures ∙ c.in-Some-read.is)
    ∙ ap (λ items. with_items items (each_of item (slice_split (λ b. b == 44) more))) (sym c.in_ok-push.ensures.ok)

pub returns-in_default-read-2 : goal.returns-in_default-read-2
returns-in_default-read-2 g c =
    let item = g.T.Item.read_of in
    let rest : List ℕ = c.loop-first.rest.now in
    list_is item c.args.text.now None (cc)
    (c.loop-first.invariant
    ∙ ap (λ texts. with_items c.loop-first.items (each_of item texts)) (split_whole 44 rest c.in_default.ensures.parts)
    ∙ items_bad item c.loop-first.items rest [] (sym c.read-2.ensures ∙ c.in_default-read-2.is))

pub returns : goal.returns
returns g c =
    let item = g.T.Item.read_of in
    let rest : List ℕ = c.loop-first.rest.now in
    let whole : List g.row.T.Denot = c.push-2.new.self in
    list_is item c.args.text.now (Some whole) (cc)
    (c.loop-first.invariant
    ∙ ap (λ texts. with_items c.loop-first.items (each_of item texts)) (split_whole 44 rest c.in_default.ensures.parts)
    ∙ items_next item c.loop-first.items rest [] c.in-Some-read-2.last (sym c.read-2.ensures ∙ c.in-Some-read-2.is)
    ∙ ap (λ (xs : List g.row.T.Denot). Some xs) (append-nil (c.loop-first.items ++ c.in-Some-read-2.last ∷ []) ∙ sym c.in_ok-push-2.ensures.ok))
