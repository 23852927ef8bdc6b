-- The limit of a bound query fits 32 bits.
use Rattle.std.proofs.Common.{◌≡◌, ◌<◌, ◌^◌, ℤ, pos, negsuc, Bool, true, false, cond, ◌||◌, List, [], ◌∷◌, Option, Some, None, refl, sym, ap, subst, inl, inr, arith}
use Rattle.std.specs.Prelude.{int_lt, nat_abs, nat_lt, ◌==◌}
use Rattle.std.proofs.lemmas.Bool.Decides.{nat_tests}
use Rattle.ch_bind.specs.Binding.{PlainBound, bound_of, group_shape, join_shape, plain_bound, plain_shape, tail_shape}
use Rattle.ch_bind.specs.Binding as binding
use Rattle.ch_bind.specs.Checks.{bind_refusal, column_refusal, dims_refusal, first_of, item_refusal, kind_refusal, limit_refusal, on_refusal, refusal_in, self_refusal, table_refusal, width_refusal}
use Rattle.ch_bind.specs.References.{references_of}
use Rattle.ch_bind.specs.Scope.{col_of, scope_of}
use Rattle.ch_bind.specs.declared.BindError.{BindError}
use Rattle.ch_bind.specs.declared.BindError.TheVariants as error
use Rattle.ch_bind.specs.declared.TableShape.{TableShape}
use Rattle.ch_lists.specs.Members.{Each}
use Rattle.ch_pred.specs.declared.bound.Bound.{Bound}
use Rattle.ch_pred.specs.declared.bound.Shape.TheVariants as shape
use Rattle.ch_pred.specs.declared.pred.Col.{Col}
use Rattle.ch_sql_grammar.specs.Tree.{Select}
use Rattle.ch_sql_grammar.specs.declared.query.Item.{Item}
use Rattle.ch_sql_grammar.specs.declared.query.Source.{Source}
use Rattle.ch_sql_grammar.specs.declared.query.Source.TheVariants as source
use Rattle.ch_sql_grammar.specs.declared.query.Tail.{Tail}
use Rattle.ch_sql_grammar.specs.declared.query.Tail.TheVariants as tail
use Rattle.cheetah_inputs_laws.proofs.Plans.{IsLimited}

not_more : (n : ℤ) → cond (int_lt n (pos 1) || int_lt (pos 65536) n) (Some (error.LimitRange n)) None ≡ None → nat_abs n < 2 ^ 32
not_more (pos n) = go (nat_lt n 1) (nat_lt 65536 n) refl
  where
    go : (a b : Bool) → nat_lt 65536 n ≡ b → cond (a || b) (Some (error.LimitRange (pos n))) None ≡ None → n < 2 ^ 32
    go true b e h = cc
    go false true e h = cc
    go false false e h = grind (arith, nat_tests)
not_more (negsuc n) = λ h. cc

plain_limited : (distinct : Bool) → IsLimited (plain_shape distinct)
plain_limited true = tt
plain_limited false = tt

tail_limited : (s : Source) (shapes : List TableShape) (distinct : Bool) (items : List Item) (t : Tail) → limit_refusal t ≡ None → IsLimited (tail_shape (scope_of s shapes) distinct items t)
tail_limited s shapes distinct items tail.Nothing l = plain_limited distinct
tail_limited s shapes distinct items (tail.Top by descending limit) l = not_more limit l
tail_limited s shapes distinct items (tail.Group keys None) l = tt
tail_limited s shapes distinct items (tail.Group keys (Some having)) l = tt
tail_limited s shapes distinct items (tail.Skyline dims) l = tt

join_limited : (a b : Col) → IsLimited (join_shape a b)
join_limited a b = go (a.side == 0)
  where
    go : (t : Bool) → IsLimited (cond t (shape.Join a b) (shape.Join b a))
    go true = tt
    go false = tt

shape_limited : (scoped : Source) (shapes : List TableShape) (q : Select) (s : Source) → limit_refusal q.tail ≡ None → IsLimited (binding.shape_of (scope_of scoped shapes) q s)
shape_limited scoped shapes q (source.One table) l = tail_limited scoped shapes q.distinct q.items q.tail l
shape_limited scoped shapes q (source.Join left right first_on second_on) l = join_limited (col_of (scope_of scoped shapes) first_on) (col_of (scope_of scoped shapes) second_on)
shape_limited scoped shapes q (source.Semi outer inner key inner_key) l = tt

none_of : (checks : List (Option BindError)) → first_of checks ≡ None → Each (λ c. c ≡ None) checks
none_of [] e c i = absurd i
none_of (None ∷ checks) e c (inl s) = s
none_of (None ∷ checks) e c (inr i) = none_of checks e c i
none_of (Some x ∷ checks) e c i = cc

pub bound_limited : (q : Select) (b : Bound) (shapes : List TableShape) → bind_refusal q shapes ≡ None → plain_bound b ≡ bound_of q shapes → IsLimited b.shape
bound_limited q b shapes e is =
    let scope = scope_of q.source shapes in
    let refs = references_of scope q in
    let within : refusal_in scope q ≡ None = none_of (table_refusal q.source shapes ∷ self_refusal q.source ∷ refusal_in scope q ∷ []) e (refusal_in scope q) (inr (inr (inl refl))) in
    let limit : limit_refusal q.tail ≡ None =
    none_of (column_refusal 0 refs ∷ on_refusal scope q.source ∷ item_refusal scope q ∷ kind_refusal refs ∷ width_refusal scope q ∷ dims_refusal q.tail ∷ limit_refusal q.tail ∷ []) within
    (limit_refusal q.tail) (inr (inr (inr (inr (inr (inr (inl refl))))))) in
    subst IsLimited (sym (ap (λ (x : PlainBound). x.shape) is)) (shape_limited q.source shapes q q.source limit)
