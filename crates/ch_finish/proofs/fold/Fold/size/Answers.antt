use Rattle.std.proofs.Common.{pos, subst, sym, ap, ◌∙◌}
use Rattle.std.proofs.lemmas.List.{length-map}
use Rattle.ch_pred.specs.Meaning.{line}
use Rattle.ch_pred.specs.declared.bound.Shape.{Shape}
use Rattle.ch_fold_lines.specs.Rows.{held}
use Rattle.ch_finish.specs.Fold.{StandsForKept, kept_size}
use Rattle.ch_finish.specs.declared.fold.Kept.{Kept}
use Rattle.ch_finish.proofs.fold.Fold.size.Goals as goal

pub returns-in-Filter : goal.returns-in-Filter
returns-in-Filter c = λ texts b rows s.
    let kept = subst (λ (k : Kept). StandsForKept texts b k rows) c.in-Filter.is s in
    c.size.ensures texts b rows kept ∙ (length-map (held texts b rows) (line b.printed (pos 0)) ∙ sym (ap (λ (t : Shape). kept_size texts b t rows) kept.shape))

pub returns-in-Distinct : goal.returns-in-Distinct
returns-in-Distinct c = λ texts b rows s.
    let kept = subst (λ (k : Kept). StandsForKept texts b k rows) c.in-Distinct.is s in
    c.size-in-Distinct.ensures texts b rows kept ∙ sym (ap (λ (t : Shape). kept_size texts b t rows) kept.shape)

pub returns-in-Top : goal.returns-in-Top
returns-in-Top c = λ texts b rows s.
    let kept = subst (λ (k : Kept). StandsForKept texts b k rows) c.in-Top.is s in
    c.size-in-Top.ensures texts b rows kept kept.by kept.descending kept.limit kept.shape ∙ sym (ap (λ (t : Shape). kept_size texts b t rows) kept.shape)

pub returns-in-Group : goal.returns-in-Group
returns-in-Group c = λ texts b rows s.
    let kept = subst (λ (k : Kept). StandsForKept texts b k rows) c.in-Group.is s in
    c.size-in-Group.ensures texts b rows kept ∙ sym (ap (λ (t : Shape). kept_size texts b t rows) kept.shape)

pub returns-in-Having : goal.returns-in-Having
returns-in-Having c = λ texts b rows s.
    let kept = subst (λ (k : Kept). StandsForKept texts b k rows) c.in-Having.is s in
    c.size-in-Having.ensures texts b rows kept ∙ sym (ap (λ (t : Shape). kept_size texts b t rows) kept.shape)

pub returns-in-Join : goal.returns-in-Join
returns-in-Join c = λ texts b rows s.
    let kept = subst (λ (k : Kept). StandsForKept texts b k rows) c.in-Join.is s in
    c.size-in-Join.ensures texts b rows kept ∙ sym (ap (λ (t : Shape). kept_size texts b t rows) kept.shape)

pub returns-in-Skyline : goal.returns-in-Skyline
returns-in-Skyline c = λ texts b rows s.
    let kept = subst (λ (k : Kept). StandsForKept texts b k rows) c.in-Skyline.is s in
    c.size-in-Skyline.ensures texts b rows kept ∙ sym (ap (λ (t : Shape). kept_size texts b t rows) kept.shape)

pub returns-in-Semi : goal.returns-in-Semi
returns-in-Semi c = λ texts b rows s.
    let kept = subst (λ (k : Kept). StandsForKept texts b k rows) c.in-Semi.is s in
    c.size-in-Semi.ensures texts b rows kept ∙ sym (ap (λ (t : Shape). kept_size texts b t rows) kept.shape)
