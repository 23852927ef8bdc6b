-- The checks before those that need a scope, and those behind them.
use Rattle.std.proofs.Common.{◌≡◌, ◌∙◌, ap, sym, refl, List, Option, Some, None, ◌⊎◌, inl, inr, Result, Ok, Err, IfOk, IfErr}
use Rattle.std.specs.Option.{option_or}
use Rattle.ch_pred.specs.declared.bound.Bound.{Bound}
use Rattle.ch_sql_grammar.specs.Tree.{Select}
use Rattle.ch_bind.specs.Binding.{plain_bound, bound_in, bound_of}
use Rattle.ch_bind.specs.Checks.{bind_refusal, refusal_in, table_refusal, self_refusal}
use Rattle.ch_bind.specs.Scope.{scope_of}
use Rattle.ch_bind.specs.declared.scope.Scope.{Scope}
use Rattle.ch_bind.specs.declared.shape.TableShape.{TableShape}
use Rattle.ch_bind.specs.declared.error.BindError.{BindError}
use Rattle.ch_bind.specs.declared.error.BindError.TheVariants as error

pub behind : {X : Type 0} (a b : Option X) → option_or a b ≡ None → b ≡ None
behind None b h = h
behind (Some e) b h = cc

pub before : {X : Type 0} (a b : Option X) → option_or a b ≡ None → a ≡ None
before None b h = refl
before (Some e) b h = cc

itself : (a : Option BindError) → option_or a None ≡ a
itself None = refl
itself (Some e) = refl

-- where the first two checks find nothing, the others decide
pub others_decide : (a b c : Option BindError) → option_or a b ≡ None → option_or a (option_or b (option_or c None)) ≡ c
others_decide a b c h = rw (before a b h, behind a b h) (itself c)

-- what the first two find is found
pub found_first : (a b c : Option BindError) (e : BindError) → option_or a b ≡ Some e → option_or a (option_or b c) ≡ Some e
found_first None None c e h = cc
found_first None (Some f) c e h = h
found_first (Some f) b c e h = h

decided : (q : Select) (shapes : List TableShape) (scope : Scope) (t s : Option BindError) → scope ≡ scope_of q.source shapes → t ≡ table_refusal q.source shapes → s ≡ self_refusal q.source → None ≡ option_or t s
    → bind_refusal q shapes ≡ refusal_in scope q
decided q shapes scope t s at e f n =
    sym (ap (λ x. option_or x (option_or s (option_or (refusal_in scope q) None))) e
    ∙ (ap (λ x. option_or (table_refusal q.source shapes) (option_or x (option_or (refusal_in scope q) None))) f
    ∙ ap (λ x. option_or (table_refusal q.source shapes) (option_or (self_refusal q.source) (option_or (refusal_in x q) None))) at))
    ∙ others_decide t s (refusal_in scope q) (sym n)

pub bound_so : (q : Select) (given shapes : List TableShape) (scope : Scope) (t s : Option BindError) (r : Result Bound BindError)
    → given ≡ shapes → scope ≡ scope_of q.source given → t ≡ table_refusal q.source given → s ≡ self_refusal q.source → None ≡ option_or t s
    → IfOk r (λ b. (refusal_in scope q ≡ None) × (plain_bound b ≡ bound_in scope q given)) → IfOk r (λ b. (bind_refusal q shapes ≡ None) × (plain_bound b ≡ bound_of q shapes))
bound_so q given shapes scope t s (Err e) g at x y n h = tt
bound_so q given shapes scope t s (Ok b) g at x y n h =
    let there : scope ≡ scope_of q.source shapes = at ∙ ap (scope_of q.source) g in
    let all = decided q shapes scope t s there (x ∙ ap (table_refusal q.source) g) y n in
    (all ∙ h.0, h.1 ∙ (ap (λ (z : Scope). bound_in z q given) there ∙ ap (λ z. bound_in (scope_of q.source shapes) q z) g))

pub refused_so : (q : Select) (given shapes : List TableShape) (scope : Scope) (t s : Option BindError) (r : Result Bound BindError)
    → given ≡ shapes → scope ≡ scope_of q.source given → t ≡ table_refusal q.source given → s ≡ self_refusal q.source → None ≡ option_or t s
    → IfErr r (λ e. (e ≡ error.Memory) ⊎ (refusal_in scope q ≡ Some e)) → IfErr r (λ e. (e ≡ error.Memory) ⊎ (bind_refusal q shapes ≡ Some e))
refused_so q given shapes scope t s (Ok b) g at x y n h = tt
refused_so q given shapes scope t s (Err e) g at x y n h =
    let there : scope ≡ scope_of q.source shapes = at ∙ ap (scope_of q.source) g in
    let all = decided q shapes scope t s there (x ∙ ap (table_refusal q.source) g) y n in
    elim h [ inl m ↦ inl m | inr f ↦ inr (all ∙ f) ]
