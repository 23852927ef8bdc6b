use Rattle.std.proofs.Common.{◌≡◌, ◌+◌, ◌++◌, [], ◌∷◌, arith, map, subst, suc, sym, take, List}
use Rattle.ch_pred.specs.declared.bound.Bound.{Bound}
use Rattle.cheetah_pack.proofs.Reading.{questions_more, refused_all, text_at}
use Rattle.cheetah_pack.proofs.questions.read_questions.Goals as goal
use Rattle.cheetah_pack.specs.Reading.{AreQuestions}

pub returns-in-Err : goal.returns-in-Err
returns-in-Err c =
    refused_all (map (λ text. text.now) c.args.texts.now) c.args.tables.now c.loop-number.bounds c.loop-number.number _ c.in-Err.why c.loop-number.invariant
    (text_at c.args.texts.now (λ text. text.now) c.loop-number.number _ (omega arith)) c.in-Err.ensures

pub loop-number-preserved : goal.loop-number-preserved
loop-number-preserved c =
    let texts = map (λ text. text.now) c.args.texts.now in
    let k = c.loop-number.number in
    let next : suc k ≡ k + 1 = omega arith in
    let more = questions_more texts c.args.tables.now c.loop-number.bounds k _ c.in-Ok.bound c.loop-number.invariant (text_at c.args.texts.now (λ text. text.now) k _ (omega arith)) c.in-Ok.ensures in
    subst (λ (bounds : List Bound). AreQuestions (take (k + 1) texts) c.args.tables.now bounds) (sym c.in_ok-push-in-Ok.ensures.ok)
    (subst (λ m. AreQuestions (take m texts) c.args.tables.now (c.loop-number.bounds ++ c.in-Ok.bound ∷ [])) next more)
