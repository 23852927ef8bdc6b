use Rattle.std.proofs.Common.{◌≡◌, All, ap, arith, length, map, subst, sym, List}
use Rattle.std.specs.Prelude.{IfOk}
use Rattle.std.proofs.lemmas.List.{length-map}
use Rattle.ch_bind.specs.Binding.{plain_bound}
use Rattle.ch_command.specs.Command.{refused}
use Rattle.ch_command.specs.declared.outcome.Ending.TheVariants.{Input}
use Rattle.ch_pred.specs.declared.bound.Bound.{Bound}
use Rattle.cheetah_pack_meaning.specs.Meaning.{outcome_of}
use Rattle.cheetah_pack.proofs.Reading.{all_asked, same_count, texts_read, texts_refused}
use Rattle.cheetah_pack.proofs.answering.answer_texts.Goals as goal
use Rattle.cheetah_pack.specs.Planning.{IsAsked}

pub answer_bound-requires-clause-some : goal.answer_bound-requires-clause-some
answer_bound-requires-clause-some c =
    let texts = map (λ text. text.now) c.args.texts.now in
    let n = same_count texts c.args.shared.now.tables c.in-Ok.bounds c.in-Ok.ensures in
    let m = length-map c.args.texts.now (λ text. text.now) in
    let e = ap length c.as_slice.ensures in
    omega (arith, n, m, e, c.requires.some)

pub answer_bound-requires-clause-few : goal.answer_bound-requires-clause-few
answer_bound-requires-clause-few c =
    let texts = map (λ text. text.now) c.args.texts.now in
    let n = same_count texts c.args.shared.now.tables c.in-Ok.bounds c.in-Ok.ensures in
    let m = length-map c.args.texts.now (λ text. text.now) in
    let e = ap length c.as_slice.ensures in
    omega (arith, n, m, e, c.requires.few)

pub answer_bound-requires-clause-asked : goal.answer_bound-requires-clause-asked
answer_bound-requires-clause-asked c =
    subst (λ (bounds : List Bound). All (λ b. IsAsked c.args.shared.now b) bounds) (sym c.as_slice.ensures)
    (all_asked c.args.shared.now (map (λ text. text.now) c.args.texts.now) c.in-Ok.bounds c.requires.read c.in-Ok.ensures)

pub returns-in-Ok : goal.returns-in-Ok
returns-in-Ok c =
    texts_read c.args.shared.now (map (λ text. text.now) c.args.texts.now) c.in-Ok.bounds c.answer_bound.result c.in-Ok.ensures
    (subst (λ (bounds : List Bound). IfOk c.answer_bound.result (λ o. o ≡ outcome_of c.args.shared.now.profile c.args.shared.now.tables (map plain_bound bounds))) c.as_slice.ensures c.answer_bound.ensures)

pub returns-in-Err-Line : goal.returns-in-Err-Line
returns-in-Err-Line c =
    let refusal = rw c.in-Err-Line.field-0-is at c.in-Err-Line.ensures in
    rw c.refused.ensures (texts_refused c.args.shared.now (map (λ text. text.now) c.args.texts.now) (refused Input c.in-Err-Line.line) refusal)
