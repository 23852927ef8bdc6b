-- The part of a side names columns of that side alone.
use Rattle.std.proofs.Common.{◌≡◌, ℕ, Bool, true, false, cond, not, ◌&&◌, eqb, eqb-true, List, [], ◌∷◌, refl}
use Rattle.std.proofs.lemmas.Bool.{and_parts}
use Rattle.ch_pred.specs.Plain.{Plain, Plains, Truth, Compare, Between, Within, Like, And, Or, Not, nil, cons}
use Rattle.ch_pred.specs.Names.{Names, NamesArg, AllName}
use Rattle.ch_pred.specs.Gate.{is_of_side}
use Rattle.ch_pred.specs.Part.{turned, is_true, kept_members, some_true, and_of, any_of, differs_from, own_atom, outside, pushed, all_pushed, part_of}
use Rattle.ch_pred.specs.declared.pred.Arg.{Arg}
use Rattle.ch_pred.specs.declared.pred.Arg.TheVariants as arg
use Rattle.ch_pred.specs.declared.pred.Col.{Col}
use Rattle.ch_pred.specs.declared.pred.Literal.{Literal}

module _ (likes : Bool) (side : ℕ) (has : ℕ → ℕ → Type 0) where
  abbrev Own : ℕ → ℕ → Type 0
  Own s at = (s ≡ side) × has s at

  own_named : (own : Bool) (p : Plain) → (own ≡ true → Names Own p) → Names Own (own_atom own p)
  own_named true p h = h refl
  own_named false p h = tt

  arg_own : (a : Arg) → NamesArg has a → is_of_side side a ≡ true → NamesArg Own a
  arg_own (arg.Column col) n e = (eqb-true col.side side e, n)
  arg_own (arg.Value value) n e = tt

  and_named : (ps : Plains) → AllName Own ps → Names Own (and_of ps)
  and_named nil n = tt
  and_named (cons p nil) n = n.0
  and_named (cons p (cons q ps)) n = n

  kept_named : (ps : Plains) → AllName Own ps → AllName Own (kept_members ps)
  kept_named nil n = tt
  kept_named (cons p ps) n = go (is_true p) (kept_named ps n.1)
    where
      go : (t : Bool) → AllName Own (kept_members ps) → AllName Own (cond t (kept_members ps) (cons p (kept_members ps)))
      go true k = k
      go false k = (n.0, k)

  any_named : (ps : Plains) → AllName Own ps → Names Own (any_of ps)
  any_named ps n = go (some_true ps)
    where
      go : (t : Bool) → Names Own (cond t Truth (Or ps))
      go true = tt
      go false = n

  differs_named : (col : Col) → Own col.side col.at → (literals : List Literal) → AllName Own (differs_from col literals)
  differs_named col o [] = tt
  differs_named col o (value ∷ literals) = ((o, tt), differs_named col o literals)

  mutual
    pushed_named : (negated : Bool) (p : Plain) → Names has p → Names Own (pushed likes side negated p)
    pushed_named true Truth n = tt
    pushed_named false Truth n = tt
    pushed_named negated (Compare col c other) n = own_named (eqb col.side side && is_of_side side other) (Compare col (cond negated (turned c) c) other)
        (λ e. let p = and_parts (eqb col.side side) (is_of_side side other) e in ((eqb-true col.side side p.0, n.0), arg_own other n.1 p.1))
    pushed_named true (Between col low high) n = own_named (eqb col.side side) (outside col low high) (λ e. let o : Own col.side col.at = (eqb-true col.side side e, n) in ((o, tt), ((o, tt), tt)))
    pushed_named false (Between col low high) n = own_named (eqb col.side side) (Between col low high) (λ e. (eqb-true col.side side e, n))
    pushed_named true (Within col literals) n = own_named (eqb col.side side) (and_of (differs_from col literals)) (λ e. and_named (differs_from col literals) (differs_named col (eqb-true col.side side e, n) literals))
    pushed_named false (Within col literals) n = own_named (eqb col.side side) (Within col literals) (λ e. (eqb-true col.side side e, n))
    pushed_named true (Like col prefix) n = own_named (likes && eqb col.side side) (Not (Like col prefix)) (λ e. (eqb-true col.side side (and_parts likes (eqb col.side side) e).1, n))
    pushed_named false (Like col prefix) n = own_named (likes && eqb col.side side) (Like col prefix) (λ e. (eqb-true col.side side (and_parts likes (eqb col.side side) e).1, n))
    pushed_named true (And members) n = any_named (all_pushed likes side true members) (all_named true members n)
    pushed_named false (And members) n = and_named (kept_members (all_pushed likes side false members)) (kept_named (all_pushed likes side false members) (all_named false members n))
    pushed_named true (Or members) n = and_named (kept_members (all_pushed likes side true members)) (kept_named (all_pushed likes side true members) (all_named true members n))
    pushed_named false (Or members) n = any_named (all_pushed likes side false members) (all_named false members n)
    pushed_named negated (Not inner) n = pushed_named (not negated) inner n

    all_named : (negated : Bool) (ps : Plains) → AllName has ps → AllName Own (all_pushed likes side negated ps)
    all_named negated nil n = tt
    all_named negated (cons p ps) n = (pushed_named negated p n.0, all_named negated ps n.1)

pub part_named : (side : ℕ) (has : ℕ → ℕ → Type 0) (p : Plain) → Names has p → Names (λ s at. (s ≡ side) × has s at) (part_of p side)
part_named side has p n = pushed_named true side has false p n
