-- What a predicate's members are pushed to, member by member.
use Rattle.std.proofs.Common.{◌≡◌, ◌<◌, ℕ, Bool, true, false, cond, List, [], ◌∷◌, ◌++◌, append-nil, length, map, refl, ◌∙◌, ap, sym, arith}
use Rattle.ch_pred.specs.Plain.{Plain, Compare, And, cons, plain_of, plains}
use Rattle.ch_pred.specs.Part.{pushed, all_pushed, differs_from, is_true, kept_members, and_of}
use Rattle.ch_pred.specs.declared.pred.Arg.TheVariants as arg
use Rattle.ch_pred.specs.declared.pred.Cmp.TheVariants as cmp
use Rattle.ch_pred.specs.declared.pred.Col.{Col}
use Rattle.ch_pred.specs.declared.pred.Literal.{Literal}
use Rattle.ch_pred.specs.declared.pred.BoundPred.{BoundPred}

all_of : (likes : Bool) (side : ℕ) (negated : Bool) (members : List BoundPred) → all_pushed likes side negated (plains (map plain_of members)) ≡ plains (map (λ p. pushed likes side negated (plain_of p)) members)
all_of likes side negated [] = refl
all_of likes side negated (p ∷ members) = ap (λ ps. cons (pushed likes side negated (plain_of p)) ps) (all_of likes side negated members)

pub pushed_members : (likes : Bool) (side : ℕ) (negated : Bool) (parts members : List BoundPred) → map plain_of parts ≡ map (λ p. pushed likes side negated (plain_of p)) members
    → plains (map plain_of parts) ≡ all_pushed likes side negated (plains (map plain_of members))
pushed_members likes side negated parts members e = ap plains e ∙ sym (all_of likes side negated members)

differs : (col : Col) (literals : List Literal) → differs_from col literals ≡ plains (map (λ value. Compare col cmp.Ne (arg.Value value)) literals)
differs col [] = refl
differs col (value ∷ literals) = ap (λ ps. cons (Compare col cmp.Ne (arg.Value value)) ps) (differs col literals)

pub differing_members : (col : Col) (parts : List BoundPred) (literals : List Literal) → map plain_of parts ≡ map (λ value. Compare col cmp.Ne (arg.Value value)) literals
    → plains (map plain_of parts) ≡ differs_from col literals
differing_members col parts literals e = ap plains e ∙ sym (differs col literals)

-- those that aren't true
abbrev pub still : List Plain → List Plain
still [] = []
still (p ∷ ps) = cond (is_true p) (still ps) (p ∷ still ps)

kept_list : (ps : List Plain) → kept_members (plains ps) ≡ plains (still ps)
kept_list [] = refl
kept_list (p ∷ ps) = go (is_true p) (kept_list ps)
  where
    go : (t : Bool) → kept_members (plains ps) ≡ plains (still ps) → cond t (kept_members (plains ps)) (cons p (kept_members (plains ps))) ≡ plains (cond t (still ps) (p ∷ still ps))
    go true e = e
    go false e = ap (λ qs. cons p qs) e

-- where none is left, all that aren't true are kept
pub none_left : (kept all : List Plain) (rest : List BoundPred) → length rest ≡ 0 → kept ++ still (map plain_of rest) ≡ all → kept ≡ all
none_left kept all [] z e = sym (append-nil kept) ∙ e
none_left kept all (p ∷ rest) z e = absurd (omega arith)

pub kept_parts : (parts kept : List BoundPred) → map plain_of kept ≡ still (map plain_of parts) → plains (map plain_of kept) ≡ kept_members (plains (map plain_of parts))
kept_parts parts kept e = ap plains e ∙ sym (kept_list (map plain_of parts))

pub and_many : (ps : List BoundPred) → 1 < length ps → And (plains (map plain_of ps)) ≡ and_of (plains (map plain_of ps))
and_many [] l = absurd (omega arith)
and_many (p ∷ []) l = absurd (omega arith)
and_many (p ∷ q ∷ ps) l = refl
